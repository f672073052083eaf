-- Calls on a session, one after another: what they do whatever the store reads.
use Rattle.std.proofs.Common.{◌≡◌, ◌≢◌, ◌∙◌, ℕ, List, Option, Result, Ok, Err, refl, sym, subst}
use Rattle.std.specs.Result.{IfErr, OnOk}
use Rattle.oftp_wire.specs.declared.reason.SessionReason.{SessionReason}
use Rattle.oftp_register.specs.Offices.{View}
use Rattle.oftp_session.specs.Calls.{Seen, Stands}
use Rattle.oftp_session.specs.Phases.{EndedHere}
use Rattle.oftp_session.specs.Standings.{Broken}
use Rattle.oftp_io.specs.declared.port.Port.{Port}
use Rattle.oftp_io.specs.Ports.{Puts}
use Rattle.oftp_io.proofs.Puts.{puts_none, puts_on}
use Rattle.oftp_engine.specs.declared.serving.RunFault.{RunFault}
use Rattle.oftp_engine.specs.declared.serving.RunFault.TheVariants as fault
use Rattle.oftp_engine.specs.Conversation.{IsOwn}
use Rattle.oftp_engine.specs.InsideServing.{Behaves, OnlyWrites}
use Rattle.oftp_engine.specs.Serving.{FailsOnlyBy, WasClean}
use Rattle.oftp_engine.proofs.Openings.{stands_unbroken}
use Rattle.oftp_engine.proofs.Telling.{told_on}

-- an error of the writer isn't one of the reader
pub written_own : {T : Type 0} (r : Result T RunFault) → FailsOnlyBy fault.Write r → IfErr r IsOwn
written_own (Ok x) h = tt
written_own (Err f) h = subst IsOwn (sym h) tt

-- a session that has ended isn't broken
pub ended_unbroken : {T : Type 0} (r : Result T RunFault) (reason : SessionReason) (seen : Seen) → OnOk r (Stands (EndedHere reason) seen) → OnOk r (seen.standing ≢ Broken)
ended_unbroken (Ok x) reason seen h = stands_unbroken (EndedHere reason) seen.standing h
ended_unbroken (Err f) reason seen h = tt

pub if_ok : {T P : Type 0} (r : Result T RunFault) → P → OnOk r P
if_ok (Ok x) h = h
if_ok (Err f) h = tt

-- a call that writes nothing
pub writes_nothing : {T W : Type 0} {contents : W → Option (List ℕ)} {a : Port W} {x : T} → OnlyWrites contents a a (let r : Result T RunFault = Ok x in r)
writes_nothing {contents = contents} {a = a} = record { err = tt; out = puts_none contents a; told = refl }

-- calls that only write
module _ {T U W : Type 0} {contents : W → Option (List ℕ)} {a b : Port W} where
  -- one that returns no error, after another that returned none
  pub writes_ok : {x : T} {y : U} → OnlyWrites contents a b (let r : Result T RunFault = Ok x in r) → OnlyWrites contents a b (let r : Result U RunFault = Ok y in r)
  writes_ok h = record { err = tt; out = h.out; told = h.told }

  -- one that passes on the error of another
  pub writes_err : {f : RunFault} {result : Result U RunFault} → OnlyWrites contents a b (let r : Result T RunFault = Err f in r) → result ≡ Err f → OnlyWrites contents a b result
  writes_err h same = subst (OnlyWrites contents a b) (sym same) (record { err = h.err; out = h.out; told = h.told })

-- a call after others that returned no error
module _ {T U W : Type 0} {contents : W → Option (List ℕ)} {x y z : View} {a b d : Port W} {seen : Seen}
    (out : Puts contents a b) (faults : b.faults ≡ a.faults) (clean : WasClean x y) where
  -- it returned none
  pub goes_after : {v : T} {w : U} → Behaves contents y z b d seen (let r : Result T RunFault = Ok v in r) → Behaves contents x z a d seen (let r : Result U RunFault = Ok w in r)
  goes_after h = record {
    clean = λ c. clean (h.clean c);
    own = tt;
    unbroken = h.unbroken;
    out = puts_on contents a b d out h.out;
    told = h.told ∙ faults;
  }

  -- it returned one, which is passed on
  pub fails_after : {f : RunFault} {after : Seen} {result : Result U RunFault} → Behaves contents y z b d seen (let r : Result T RunFault = Err f in r) → result ≡ Err f
      → Behaves contents x z a d after result
  fails_after {f = f} {after = after} h same = subst (Behaves contents x z a d after) (sym same) (record {
    clean = λ c. clean (h.clean c);
    own = h.own;
    unbroken = tt;
    out = puts_on contents a b d out h.out;
    told = told_on a b d f faults h.told;
  })
