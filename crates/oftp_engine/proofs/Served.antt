-- From what one call of `drive` did to what a conversation has done over all octets that it has heard.
use Rattle.std.proofs.Common.{◌≡◌, false, ℕ, List, Result, Ok, Err, sym, ap, ◌∙◌, subst, ◌≢◌, refl, Option, None}
use Rattle.oftp_codec.specs.Stream.{Stream}
use Rattle.oftp_register.specs.Offices.{Only}
use Rattle.oftp_session.specs.Phases.{ending_of, is_over}
use Rattle.oftp_session.specs.Calls.{Seen}
use Rattle.oftp_session.specs.Settings.{Setting}
use Rattle.oftp_session.specs.declared.session.Ending.{Ending}
use Rattle.oftp_codec.specs.declared.limits.TheConstants.{LONGEST_FRAME}
use Rattle.oftp_engine.specs.declared.serving.Going.{Going}
use Rattle.oftp_engine.specs.declared.serving.Going.TheVariants as going
use Rattle.oftp_engine.specs.declared.serving.RunFault.{RunFault}
use Rattle.oftp_engine.specs.Runs.{Course, started}
use Rattle.oftp_engine.specs.Serving.{Scene}
use Rattle.oftp_engine.specs.Served.{ServesErr}
use Rattle.oftp_engine.specs.Progress.{IsAt}
use Rattle.oftp_engine.specs.Conversation.{ComesSoFar, ComesTo, HasConcluded, HasHeard, Listens, SendsOn}
use Rattle.oftp_engine.specs.InsideServing.{IsPausing, IsWaiting, Driven, ending_in}
use Rattle.oftp_engine.proofs.Ending.{KeepsLaw, is_out_of_memory, whole_over, whole_waits, is_whole, serves_from}
use Rattle.oftp_engine.proofs.Progress.{fails_later}
use Rattle.oftp_engine.proofs.Reading.{over_on, pause_on, short_at, wait_on}

-- A conversation had heard `given` and was at `seen0` and `before`. One call of `drive` went on to `seen` and `stream`, with this result.
pub record HasDriven (setting : Setting) (given : List ℕ) (before stream : Stream) (seen0 seen : Seen) (first old new : Scene) (answer : Result Going RunFault) : Type 0 where
  pub heard : HasHeard setting given (record { seen = seen0; stream = before }) first old
  pub law : KeepsLaw first.office new.office
  pub driven : Driven heard.come.at before.rest stream seen old new answer

module _ {setting : Setting} {given : List ℕ} {before stream : Stream} {seen0 seen : Seen} {first old new : Scene} where
  -- by the contracts of an office
  pub has_driven : {answer : Result Going RunFault} → HasHeard setting given (record { seen = seen0; stream = before }) first old
      → (new.office.stands → Only new.office.register new.office)
      → (old.office.stands → (c : Course) → before.limit ≡ LONGEST_FRAME → before.told ≡ None → IsAt c seen0 old → Driven c before.rest stream seen old new answer)
      → HasDriven setting given before stream seen0 seen first old new answer
  has_driven h alone steps = record {
    heard = h;
    law = record { stood = h.stood; sound = h.sound; alone = alone };
    driven = steps (h.come.went.stands h.stood) h.come.at h.limit h.told h.come.now;
  }

  -- it needs more octets
  waits : HasDriven setting given before stream seen0 seen first old new (let r : Result Going RunFault = Ok going.Waits in r)
      → Listens setting given (record { seen = seen; stream = stream }) first new
  waits h =
      let w : IsWaiting (started setting first.office.register) given stream seen first new =
      wait_on (started setting first.office.register) given before stream seen0 seen first old new h.heard.come h.driven in
      let at = whole_waits setting given stream.rest seen first new w.come w.turn w.waits in
      record {
        heard = record { sound = h.law.sound; stood = h.law.stood; come = w.come; limit = w.limit; told = w.told };
        all = is_whole setting given stream.rest seen first new h.law w.come at;
        live = subst (λ (x : Course). is_over x.phase ≡ false) (sym at) w.over;
      }

  -- the session has ended
  concludes : (end : Ending) → HasDriven setting given before stream seen0 seen first old new (let r : Result Going RunFault = Ok (going.Ended end) in r)
      → HasConcluded setting given first new end
  concludes end h =
      let over = over_on (started setting first.office.register) given before.rest stream.rest seen0 seen first old new end h.heard.come h.driven in
      let at = whole_over setting given stream.rest seen first new end over in
      record {
        all = is_whole setting given stream.rest seen first new h.law over.come at;
        ends = over.ends ∙ ap (λ (x : Course). ending_of x.phase) (sym at);
      }

  -- an error ended it
  fails_over : (fault : RunFault) → HasDriven setting given before stream seen0 seen first old new (let r : Result Going RunFault = Err fault in r)
      → ServesErr setting given first new fault
  fails_over fault h =
      serves_from setting given first new h.law fault
      (fails_later (started setting first.office.register) h.heard.come.at given before.rest first old new fault h.heard.come.went h.driven)

  -- it sends a file, and has more to send
  sends_on : HasDriven setting given before stream seen0 seen first old new (let r : Result Going RunFault = Ok going.Sends in r)
      → SendsOn setting given (record { seen = seen; stream = stream }) first new
  sends_on h =
      let w : IsPausing (started setting first.office.register) given stream seen first new =
      pause_on (started setting first.office.register) given before stream seen0 seen first old new h.heard.come h.driven in
      record {
        heard = record { sound = h.law.sound; stood = h.law.stood; come = w.come; limit = w.limit; told = w.told };
        between = is_out_of_memory setting given first new h.law (short_at (started setting first.office.register) given stream.rest seen first new w.sends w.come);
      }

  pub comes_so_far : (answer : Result Going RunFault) → HasDriven setting given before stream seen0 seen first old new answer
      → ComesSoFar setting given (record { seen = seen; stream = stream }) first new answer
  comes_so_far (Ok going.Waits) h = waits h
  comes_so_far (Ok going.Sends) h = sends_on h
  comes_so_far (Ok (going.Ended end)) h = concludes end h
  comes_so_far (Err fault) h = fails_over fault h

  -- where no file is sent in parts
  comes_in_whole : (x : Going) → x ≢ going.Sends → HasDriven setting given before stream seen0 seen first old new (let r : Result Going RunFault = Ok x in r)
      → ComesTo setting given (record { seen = seen; stream = stream }) first new (Ok (ending_in x))
  comes_in_whole going.Waits whole h = waits h
  comes_in_whole going.Sends whole h = absurd (whole refl)
  comes_in_whole (going.Ended end) whole h = concludes end h

  pub comes_whole : (x : Going) (ended : Option Ending) → ended ≡ ending_in x → x ≢ going.Sends
      → HasDriven setting given before stream seen0 seen first old new (let r : Result Going RunFault = Ok x in r)
      → ComesTo setting given (record { seen = seen; stream = stream }) first new (Ok ended)
  comes_whole x ended e whole h =
      subst (λ (y : Option Ending). ComesTo setting given (record { seen = seen; stream = stream }) first new (Ok y)) (sym e) (comes_in_whole x whole h)

  pub comes_failed : (fault : RunFault) (result : Result (Option Ending) RunFault) → result ≡ Err fault
      → HasDriven setting given before stream seen0 seen first old new (let r : Result Going RunFault = Err fault in r)
      → ComesTo setting given (record { seen = seen; stream = stream }) first new result
  comes_failed fault result e h =
      subst (ComesTo setting given (record { seen = seen; stream = stream }) first new) (sym e) (fails_over fault h)
