-- What one call did after all that was done before it: a call of `drive`, and of a reader.
use Rattle.std.proofs.Common.{◌≡◌, ℕ, List, [], ◌++◌, take, Option, length, ◌<◌, sym, ap, ◌∙◌, subst, arith, append_assoc, length-append, true, inl, inr}
use Rattle.std.proofs.lemmas.List.{append-nil, length-take-le}
use Rattle.std.specs.Io.KnownBytes.{Consumes}
use Rattle.oftp_codec.specs.Stream.{Stream}
use Rattle.oftp_session.specs.declared.session.Ending.{Ending}
use Rattle.oftp_session.specs.Calls.{Seen}
use Rattle.oftp_session.specs.Standings.{is_sending}
use Rattle.oftp_io.specs.declared.port.Port.{Port}
use Rattle.oftp_io.specs.Ports.{Gives, GivesNothing}
use Rattle.oftp_engine.specs.Runs.{Course, run}
use Rattle.oftp_engine.specs.Serving.{Scene}
use Rattle.oftp_engine.specs.Served.{Gave}
use Rattle.oftp_engine.specs.Progress.{Leads, Comes}
use Rattle.oftp_engine.specs.InsideServing.{IsOver, IsPausing, IsShort, IsWaiting}
use Rattle.oftp_io.proofs.Bytes.{consumes_on, keeps_consumes}
use Rattle.oftp_engine.proofs.Progress.{went_on}
use Rattle.oftp_engine.proofs.Stepping.{sends_at}

pub wait_on : (k : Course) (s : List ℕ) (before stream : Stream) (seen0 seen1 : Seen) (a b z : Scene) (p : Comes k s before.rest seen0 a b)
    → IsWaiting p.at before.rest stream seen1 b z → IsWaiting k s stream seen1 a z
wait_on k s before stream seen0 seen1 a b z p w = record {
  come = record { at = w.come.at; went = went_on k p.at w.come.at s before.rest stream.rest a b z p.went w.come.went; now = w.come.now };
  turn = w.turn;
  over = w.over;
  waits = w.waits;
  limit = w.limit;
  told = w.told;
}

pub pause_on : (k : Course) (s : List ℕ) (before stream : Stream) (seen0 seen1 : Seen) (a b z : Scene) (p : Comes k s before.rest seen0 a b)
    → IsPausing p.at before.rest stream seen1 b z → IsPausing k s stream seen1 a z
pause_on k s before stream seen0 seen1 a b z p w = record {
  come = record { at = w.come.at; went = went_on k p.at w.come.at s before.rest stream.rest a b z p.went w.come.went; now = w.come.now };
  sends = w.sends;
  limit = w.limit;
  told = w.told;
}

pub over_on : (k : Course) (s t u : List ℕ) (seen0 seen1 : Seen) (a b z : Scene) (end : Ending) (p : Comes k s t seen0 a b) → IsOver p.at t u seen1 b z end → IsOver k s u seen1 a z end
over_on k s t u seen0 seen1 a b z end p w = record {
  come = record { at = w.come.at; went = went_on k p.at w.come.at s t u a b z p.went w.come.went; now = w.come.now };
  ends = w.ends;
}

-- more octets arrived

leads_more : (c d : Course) (s t x : List ℕ) → Leads c s d t → Leads c (s ++ x) d (t ++ x)
leads_more c d s t x h = record {
  grows = h.grows;
  same = λ more limit stopped.
      ap (λ (y : List ℕ). run limit y c) (append_assoc s x more) ∙ h.same (x ++ more) limit stopped
      ∙ ap (λ (y : List ℕ). run limit y d) (sym (append_assoc t x more));
  gone = h.gone;
  split = ap (λ (y : List ℕ). y ++ x) h.split ∙ append_assoc h.gone t x;
}

pub comes_more : (k : Course) (s t x : List ℕ) (seen : Seen) (a z : Scene) → Comes k s t seen a z → Comes k (s ++ x) (t ++ x) seen a z
comes_more k s t x seen a z h = record {
  at = h.at;
  went = record {
    leads = leads_more k h.at s t x h.went.leads;
    between = h.went.between;
    outputs = h.went.outputs;
    took = h.went.took;
    stands = h.went.stands;
    faults = h.went.faults;
    told = h.went.told;
  };
  now = h.now;
}

pub gave_on : {R : Type 0} (remaining : R → Option (List ℕ)) (before now next : Port R) (given piece : List ℕ) (n : ℕ)
    → Gave remaining before now given → Gives remaining now next piece n → Gave remaining before next (given ++ take n piece)
gave_on remaining before now next given piece n g h = record {
  bytes = consumes_on (remaining before.inner) (remaining now.inner) (remaining next.inner) given (take n piece) g.bytes h.bytes;
  count = omega (arith, g.count, h.moved, length-append given (take n piece), length-take-le n piece h.fits);
  within = omega (arith, g.count, g.within, g.most, h.within, length-append given (take n piece), length-take-le n piece h.fits);
  most = h.most ∙ g.most;
}

pub gave_zero : {R : Type 0} (remaining : R → Option (List ℕ)) (before now next : Port R) (given piece : List ℕ) (n : ℕ)
    → Gave remaining before now given → Gives remaining now next piece n → n ≡ 0 → Gave remaining before next given
gave_zero remaining before now next given piece n g h zero =
    let same = ap (λ (m : ℕ). given ++ take m piece) zero ∙ append-nil given in
    subst (Gave remaining before next) same (gave_on remaining before now next given piece n g h)

pub gave_kept : {R : Type 0} (remaining : R → Option (List ℕ)) (before now next : Port R) (given : List ℕ)
    → Gave remaining before now given → GivesNothing remaining now next → Gave remaining before next given
gave_kept remaining before now next given g h =
    let first = remaining before.inner in
    let last = remaining next.inner in
    let kept = keeps_consumes (remaining now.inner) last h.bytes in
    record {
      bytes = subst (Consumes first last) (append-nil given) (consumes_on first (remaining now.inner) last given [] g.bytes kept);
      count = omega (arith, g.count, h.moved);
      within = g.within;
      most = h.most ∙ g.most;
    }

-- there is no room for the piece
pub short_on : (k : Course) (s t x : List ℕ) (seen : Seen) (a z : Scene) → 0 < length x → Comes k s t seen a z → IsShort k (s ++ x) a z
short_on k s t x seen a z some h = record {
  at = h.at;
  rest = t ++ x;
  leads = leads_more k h.at s t x h.went.leads;
  cause = inl (omega (arith, some, length-append t x));
  between = h.went.between;
  outputs = h.went.outputs;
  took = h.went.took;
  register = h.now.register;
  stands = h.went.stands;
  faults = h.went.faults;
  told = h.went.told;
}

-- it is between two steps, and sends a file
pub short_at : (k : Course) (s t : List ℕ) (seen : Seen) (a z : Scene) → is_sending seen.standing ≡ true → Comes k s t seen a z → IsShort k s a z
short_at k s t seen a z sends h = record {
  at = h.at;
  rest = t;
  leads = h.went.leads;
  cause = inr (sends_at h.at.phase seen.standing h.now.stands sends);
  between = h.went.between;
  outputs = h.went.outputs;
  took = h.went.took;
  register = h.now.register;
  stands = h.went.stands;
  faults = h.went.faults;
  told = h.went.told;
}
