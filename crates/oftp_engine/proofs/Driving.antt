-- The loop over the frames, one part after another.
use Rattle.oftp_wire.specs.declared.reason.SessionReason.{SessionReason}
use Rattle.oftp_wire.specs.declared.reason.SessionReason.TheVariants.{ProtocolViolation}
use Rattle.std.proofs.Common.{◌≡◌, ◌++◌, ℕ, ◌<◌, false, List, [], take, drop, length, Option, None, Some, Result, Ok, Err, refl, sym, ap, ◌∙◌, subst, inl, Bool, true, nat_le, ◌&&◌}
use Rattle.std.proofs.lemmas.Bool.{false≢true}
use Rattle.std.proofs.lemmas.List.{take-append-drop}
use Rattle.oftp_engine.specs.declared.limits.TheConstants.{MOST_TURNS}
use Rattle.std.specs.Option.{option_copied}
use Rattle.std.specs.Borrow.{Bor}
use Rattle.oftp_codec.proofs.Streams.{next_err, next_none, next_some, past_shorter}
use Rattle.oftp_codec.specs.Kinds.{command_of}
use Rattle.oftp_codec.specs.Stream.{Bad, Head, Stream, Waits, Whole, command_in, front, left_of, next_of, past, with_fault}
use Rattle.oftp_codec.specs.declared.frame_fault.FrameFault.{FrameFault}
use Rattle.oftp_session.specs.declared.session.Ending.{Ending}
use Rattle.oftp_session.specs.declared.session.Ending.TheVariants.{Own}
use Rattle.oftp_session.specs.Phases.{Phase, Step, ending_of, fails, is_over}
use Rattle.oftp_session.specs.Steps.{Suits}
use Rattle.oftp_session.specs.Calls.{Proceeds, Seen, Stands}
use Rattle.oftp_session.specs.Standings.{Standing, is_sending}
use Rattle.oftp_codec.specs.declared.limits.TheConstants.{LONGEST_FRAME}
use Rattle.oftp_engine.specs.declared.serving.Going.{Going}
use Rattle.oftp_engine.specs.declared.serving.Pace.{Pace}
use Rattle.oftp_engine.specs.declared.serving.Pace.TheVariants as pace
use Rattle.oftp_engine.specs.declared.serving.Turns.{Turns}
use Rattle.oftp_engine.specs.declared.serving.Turns.TheVariants as turns
use Rattle.oftp_engine.specs.declared.serving.RunFault.{RunFault}
use Rattle.oftp_engine.specs.Runs.{Course, advance, run, is_stopped, step_on}
use Rattle.oftp_engine.specs.Serving.{Scene}
use Rattle.oftp_engine.specs.Progress.{Comes, IsAt}
use Rattle.oftp_engine.specs.InsideServing.{Fails, IsOver, IsPausing, IsWaiting, LeavesTurns, Made, Driven, Settles, StepFails, Stepped, TurnsTaken, pauses}
use Rattle.oftp_engine.proofs.Phases.{fails_proceed, live_from, step_proceeds}
use Rattle.oftp_engine.proofs.Progress.{fails_later, fails_step, fails_with, leads_bad, leads_frame, leads_step, reaches_step, told_some, went_on, went_step, went_with}

-- while it drives the session: how far it went, and that the stream returned no error
pub record IsDriving (c : Course) (s : List ℕ) (stream : Stream) (seen : Seen) (old new : Scene) : Type 0 where
  pub come : Comes c s stream.rest seen old new
  pub limit : stream.limit ≡ LONGEST_FRAME
  pub told : stream.told ≡ None

-- a step that was made, and one that failed
ok_at : {T : Type 0} (c : Course) (step : Step) (seen : Seen) (a b : Scene) (r : Result T RunFault) (x : T)
    → Stepped c step seen a b r → r ≡ Ok x → Made c step seen a b
ok_at c step seen a b r x h e = subst (Stepped c step seen a b) e h

err_at : {T : Type 0} (c : Course) (step : Step) (seen : Seen) (a b : Scene) (r : Result T RunFault) (f : RunFault)
    → Stepped c step seen a b r → r ≡ Err f → StepFails c step a b f
err_at c step seen a b r f h e = subst (Stepped c step seen a b) e h

-- all turns were made, or some were left
module _ {seen0 seen : Seen} {old mid : Scene} (x : Turns) (h : old.office.stands → (d : Course) → IsAt d seen0 old → TurnsTaken d seen old mid (let r : Result Turns RunFault = Ok x in r)) where
  pub made_all : (count : ℕ) → x ≡ turns.Made count → old.office.stands → (d : Course) → IsAt d seen0 old → Settles d seen old mid
  made_all count e stood d at = subst (λ (y : Turns). TurnsTaken d seen old mid (let r : Result Turns RunFault = Ok y in r)) e (h stood d at)

  pub left_some : x ≡ turns.Left → old.office.stands → (d : Course) → IsAt d seen0 old → LeavesTurns d seen old mid
  left_some e stood d at = subst (λ (y : Turns). TurnsTaken d seen old mid (let r : Result Turns RunFault = Ok y in r)) e (h stood d at)

both_second : (a b : Bool) → (a && b) ≡ true → b ≡ true
both_second true b e = e
both_second false b e = absurd (false≢true e)

-- a session that leaves turns for later sends a file, in parts
pub pauses_sends : (p : Pace) (made : ℕ) (s : Standing) → pauses p made s ≡ true → is_sending s ≡ true
pauses_sends pace.Whole made s e = absurd (false≢true e)
pauses_sends pace.Parts made s e = both_second (nat_le MOST_TURNS made) (is_sending s) e

pub pauses_parts : (p : Pace) (made : ℕ) (s : Standing) → pauses p made s ≡ true → p ≡ pace.Whole → ⊥
pauses_parts p made s e whole = false≢true (sym (ap (λ (x : Pace). pauses x made s) whole) ∙ e)

-- what `next` returned: a command, by which the stream is shorter, or none
found : (s : Stream) (f : Option (Bor (List ℕ))) (o : Option (Bor (List ℕ))) → Ok (option_copied f) ≡ next_of s s.told → f ≡ o
    → next_of s s.told ≡ Ok (option_copied o)
found s f o e h = sym e ∙ ap (λ (x : Option (Bor (List ℕ))). Ok (option_copied x)) h

pub shorter : (s after : Stream) (f : Option (Bor (List ℕ))) (o : Bor (List ℕ)) → Ok (option_copied f) ≡ next_of s s.told → f ≡ Some o
    → after ≡ left_of s s.told → length after.rest < length s.rest
shorter s after f o e h left =
    let some = next_some s o.now (found s f (Some o) e h) in
    subst (λ (x : Stream). length x.rest < length s.rest) (sym (left ∙ some.3)) (past_shorter s some.0 some.1)

limit_front : (s : Stream) (f : Head) → s.limit ≡ LONGEST_FRAME → front s.limit s.rest ≡ f → front LONGEST_FRAME s.rest ≡ f
limit_front s f limit e = sym (ap (λ (n : ℕ). front n s.rest) limit) ∙ e

over_after : (c : Course) (reason : SessionReason) → Some (Own reason) ≡ ending_of (advance c (fails reason)).phase
unfolding advance
over_after c reason = refl

cut : (n : ℕ) (s : List ℕ) → s ≡ take n s ++ drop n s
cut n s = sym (take-append-drop n s)

-- The next step of a course, which takes the octets t and leaves u.
module _ (k : Course) (s t u : List ℕ) (seen : Seen) (a b : Scene) (p : Comes k s t seen a b) (step : Step)
    (proceeds : Suits p.at.phase p.at.register → Proceeds p.at.register step)
    (goes : (more : List ℕ) (limit : Option ℕ) → is_stopped limit p.at ≡ false → run limit (t ++ more) p.at ≡ run limit (u ++ more) (advance p.at step))
    (gone : List ℕ) (split : t ≡ gone ++ u) (some : 0 < length t) where
  -- it is made
  abbrev step_made : (next : Seen) (z : Scene) → Made p.at step next b z → Comes k s u next a z
  step_made next z made = record {
    at = advance p.at step;
    went = went_on k p.at (advance p.at step) s t u a b z p.went (went_step p.at step t u next b z (leads_step p.at step t u gone split proceeds goes) made);
    now = made.now;
  }

  -- it fails
  step_failed : (z : Scene) (f : RunFault) → StepFails p.at step b z f → Fails k s a z f
  step_failed z f h = fails_later k p.at s t a b z f p.went (fails_step p.at step t b z f (proceeds p.now.suits) (reaches_step p.at step t u goes) (λ _. inl some) h)

-- One iteration of the loop, from how far it went before.
module _ (k : Course) (s : List ℕ) (stream : Stream) (seen0 : Seen) (first old : Scene) (p : IsDriving k s stream seen0 first old) (stood : first.office.stands) where
  -- a turn failed
  pub turn_fails : (after : Stream) (seen : Seen) (z : Scene) (f : RunFault) (result : Result Going RunFault)
      → (old.office.stands → (d : Course) → IsAt d seen0 old → Fails d [] old z f) → result ≡ Err f → Driven k s after seen first z result
  turn_fails after seen z f result fails same =
      let failed = fails_with p.come.at stream.rest old z f (fails (p.come.went.stands stood) p.come.at p.come.now) in
      subst (Driven k s after seen first z) (sym same) (fails_later k p.come.at s stream.rest first old z f p.come.went failed)

  -- exchange buffers of a file are left to send
  pub paused : (seen : Seen) (mid : Scene) → (old.office.stands → (d : Course) → IsAt d seen0 old → LeavesTurns d seen old mid) → IsPausing k s stream seen first mid
  paused seen mid turns =
      let left = turns (p.come.went.stands stood) p.come.at p.come.now in
      record {
        come = record {
          at = left.come.at;
          went = went_on k p.come.at left.come.at s stream.rest stream.rest first old mid p.come.went (went_with p.come.at left.come.at stream.rest old mid left.come.went);
          now = left.come.now;
        };
        sends = left.sends;
        limit = p.limit;
        told = p.told;
      }

  -- every due turn is made
  module _ (seen : Seen) (mid : Scene) (turns : old.office.stands → (d : Course) → IsAt d seen0 old → Settles d seen old mid)
      (ended : Option Ending) (shows : (q : Phase) → Stands q seen → ended ≡ ending_of q) where
    abbrev taken : Settles p.come.at seen old mid
    taken = turns (p.come.went.stands stood) p.come.at p.come.now

    -- how far the run has come once these turns are made
    abbrev after_turns : Comes k s stream.rest seen first mid
    after_turns = record {
      at = taken.at;
      went = went_on k p.come.at taken.at s stream.rest stream.rest first old mid p.come.went (went_with p.come.at taken.at stream.rest old mid taken.went);
      now = taken.now;
    }

    -- the session has ended
    pub has_ended : (end : Ending) → ended ≡ Some end → IsOver k s stream.rest seen first mid end
    has_ended end some = record { come = after_turns; ends = sym some ∙ shows after_turns.at.phase after_turns.now.stands }

    -- it goes on
    module _ (none : ended ≡ None) (after : Stream) (left : after ≡ left_of stream stream.told) where
      live : is_over after_turns.at.phase ≡ false
      live = live_from after_turns.at.phase ended (shows after_turns.at.phase after_turns.now.stands) none

      -- no frame is whole
      pub waits : (f : Option (Bor (List ℕ))) → Ok (option_copied f) ≡ next_of stream stream.told → f ≡ None → IsWaiting k s after seen first mid
      waits f e h =
          let none = next_none stream (found stream f None e h) in
          subst (λ (x : Stream). IsWaiting k s x seen first mid) (sym (left ∙ none.1)) (record {
            come = after_turns;
            turn = taken.done;
            over = live;
            waits = limit_front stream Waits p.limit none.0;
            limit = p.limit;
            told = p.told;
          })

      -- a command arrived
      module _ (f : Option (Bor (List ℕ))) (o : Bor (List ℕ)) (e : Ok (option_copied f) ≡ next_of stream stream.told) (h : f ≡ Some o) where
        abbrev read : (n : ℕ) × (front stream.limit stream.rest ≡ Whole n) × (command_in n stream.rest ≡ o.now) × (left_of stream stream.told ≡ past stream n)
        read = next_some stream o.now (found stream f (Some o) e h)

        abbrev step : Step
        step = step_on after_turns.at.setting after_turns.at.phase after_turns.at.register (command_of o.now)

        proceeds : Suits after_turns.at.phase after_turns.at.register → Proceeds after_turns.at.register step
        proceeds = step_proceeds after_turns.at.setting after_turns.at.phase after_turns.at.register (command_of o.now)

        goes : (more : List ℕ) (limit : Option ℕ) → is_stopped limit after_turns.at ≡ false
            → run limit (stream.rest ++ more) after_turns.at ≡ run limit (drop read.0 stream.rest ++ more) (advance after_turns.at step)
        goes = subst
            (λ (x : List ℕ). (more : List ℕ) (limit : Option ℕ) → is_stopped limit after_turns.at ≡ false → run limit (stream.rest ++ more) after_turns.at
            ≡ run limit (drop read.0 stream.rest ++ more) (advance after_turns.at (step_on after_turns.at.setting after_turns.at.phase after_turns.at.register (command_of x))))
            read.2 (leads_frame after_turns.at stream.rest read.0 taken.done live (limit_front stream (Whole read.0) p.limit read.1))

        some : 0 < length stream.rest
        some = told_some stream.rest (Whole read.0) (limit_front stream (Whole read.0) p.limit read.1) tt

        -- it was executed
        pub handled : (next : Seen) (z : Scene)
            → (mid.office.stands → (d : Course) → is_over d.phase ≡ false → IsAt d seen mid → Made d (step_on d.setting d.phase d.register (command_of o.now)) next mid z)
            → IsDriving k s after next first z
        handled next z made =
            subst (λ (x : Stream). IsDriving k s x next first z) (sym (left ∙ read.3)) (record {
              come = step_made k s stream.rest (drop read.0 stream.rest) seen first mid after_turns step proceeds goes (take read.0 stream.rest) (cut read.0 stream.rest) some next z
                  (made (after_turns.went.stands stood) after_turns.at live after_turns.now);
              limit = p.limit;
              told = p.told;
            })

        -- it was executed in part
        pub handle_fails : (next : Seen) (z : Scene) (f : RunFault) (result : Result Going RunFault)
            → (mid.office.stands → (d : Course) → is_over d.phase ≡ false → IsAt d seen mid
            → StepFails d (step_on d.setting d.phase d.register (command_of o.now)) mid z f)
            → result ≡ Err f → Driven k s after next first z result
        handle_fails next z f result fails same =
            subst (Driven k s after next first z) (sym same)
            (step_failed k s stream.rest (drop read.0 stream.rest) seen first mid after_turns step proceeds goes (take read.0 stream.rest) (cut read.0 stream.rest) some z f
            (fails (after_turns.went.stands stood) after_turns.at live after_turns.now))

      -- there was no header where one is expected
      module _ {T : Type 0} (x : FrameFault) (e : Err x ≡ next_of stream stream.told) (next : Seen) (z : Scene) (refused : Result T RunFault)
          (stepped : (d : Course) → IsAt d seen mid → Stepped d (fails ProtocolViolation) next mid z refused) where
        abbrev bad : (front stream.limit stream.rest ≡ Bad x) × (left_of stream stream.told ≡ with_fault stream x)
        bad = next_err stream x p.told (sym e)

        bad_proceeds : Suits after_turns.at.phase after_turns.at.register → Proceeds after_turns.at.register (fails ProtocolViolation)
        bad_proceeds = fails_proceed after_turns.at.phase after_turns.at.register ProtocolViolation

        bad_goes : (more : List ℕ) (limit : Option ℕ) → is_stopped limit after_turns.at ≡ false
            → run limit (stream.rest ++ more) after_turns.at ≡ run limit (stream.rest ++ more) (advance after_turns.at (fails ProtocolViolation))
        bad_goes = leads_bad after_turns.at stream.rest x taken.done live (limit_front stream (Bad x) p.limit bad.0)

        bad_some : 0 < length stream.rest
        bad_some = told_some stream.rest (Bad x) (limit_front stream (Bad x) p.limit bad.0) tt

        abbrev step_now : Stepped after_turns.at (fails ProtocolViolation) next mid z refused
        step_now = stepped after_turns.at after_turns.now

        -- the session was ended
        pub refused_bad : (v : T) → refused ≡ Ok v → IsOver k s after.rest next first z (Own ProtocolViolation)
        refused_bad v ok =
            let made = ok_at after_turns.at (fails ProtocolViolation) next mid z refused v step_now ok in
            let come = step_made k s stream.rest stream.rest seen first mid after_turns (fails ProtocolViolation) bad_proceeds bad_goes [] refl bad_some next z made in
            subst (λ (t : Stream). IsOver k s t.rest next first z (Own ProtocolViolation)) (sym (left ∙ bad.1))
            (record { come = come; ends = over_after after_turns.at ProtocolViolation })

        -- the writer returned an error within the ESID
        pub refuse_fails : (f : RunFault) (result : Result Going RunFault) → refused ≡ Err f → result ≡ Err f → Driven k s after next first z result
        refuse_fails f result failed same =
            subst (Driven k s after next first z) (sym same)
            (step_failed k s stream.rest stream.rest seen first mid after_turns (fails ProtocolViolation) bad_proceeds bad_goes [] refl bad_some z f
            (err_at after_turns.at (fails ProtocolViolation) next mid z refused f step_now failed))
