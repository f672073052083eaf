-- What a crash leaves of a session, in the words of `serve`, is what a crash of a station leaves.
use Rattle.std.proofs.Common.{◌≡◌, ℕ, ◌≤◌, true, nat_le, List, length, Some, Result, sym, ap, ◌∙◌, subst, arith}
use Rattle.std.proofs.lemmas.Bool.{and_from, cond-true, le-leb}
use Rattle.std.specs.Result.{result_unwrap_or}
use Rattle.oftp_wire.specs.declared.reason.SessionReason.TheVariants.{ResourcesNotAvailable}
use Rattle.oftp_register.specs.declared.change.Cause.{Cause}
use Rattle.oftp_register.specs.Register.{Register}
use Rattle.oftp_session.specs.Phases.{Step, esid_of}
use Rattle.oftp_engine.specs.Events.{MayBeLeft, StopsLeavePrefixes}
use Rattle.oftp_engine.specs.Runs.{Course, Output, advance, answered, octets_of, with_change}
use Rattle.oftp_engine.specs.World.{Doing, FailsInStep, Happening, Stops, StopsInStep, World, fails_at, fails_within, happens, happens_in, in_session, latest, left_after, may_stop, register_of, step_of, stopped_with, stops_at, stops_within, told}
use Rattle.oftp_engine.proofs.Courses.{output_later}
use Rattle.oftp_engine.proofs.Stops.{answered_more}

-- a crash may leave this many changes
may_leave : (c : Course) (out : List Output) (n : ℕ) → latest out ≤ n → n ≤ length c.changes → may_stop c out n ≡ true
may_leave c out n least most = and_from (nat_le (latest out) n) (nat_le n (length c.changes)) (le-leb (latest out) n least) (le-leb n (length c.changes) most)

module _ (w : World) (c : Course) (out : List Output) (low made : ℕ) (left : Register) (p : MayBeLeft c.changes w.one.start low made left) (least : latest out ≤ low) where
  -- the register after these changes
  is_left : left_after w.one.start c p.count ≡ left
  is_left = ap (λ (x : Result Register Cause). result_unwrap_or x c.register) p.replay ∙ p.holds

  stops : may_stop c out p.count ≡ true
  stops = let a = p.least in let l = least in may_leave c out p.count (omega arith) p.most

  -- a crash there, and an error of the office there
  stop_leaves : register_of (stops_at w c out p.count).one ≡ left
  stop_leaves =
      let after : World = record w { one = stopped_with w.one (left_after w.one.start c p.count) } in
      ap (λ (x : World). register_of x.one) (cond-true (may_stop c out p.count) after w stops) ∙ is_left

  fault_leaves : register_of (fails_at w c out p.count).one ≡ left
  fault_leaves =
      let after : World = record {
        one = stopped_with w.one (left_after w.one.start c p.count);
        other = told w.other (Some (esid_of ResourcesNotAvailable));
      } in
      ap (λ (x : World). register_of x.one) (cond-true (may_stop c out p.count) after w stops) ∙ is_left

happens_there : (w : World) (c : Course) (h : Happening) → w.one.session ≡ Some c → happens w h ≡ in_session w c h
happens_there w c h e = ap (happens_in w h) e

-- what is answered before a step is answered after it
answered_next : (c : Course) (s : Step) (out : ℕ) → length (octets_of c.outputs) ≤ out → latest c.outputs ≤ answered (advance c s).outputs out
unfolding advance
answered_next c s out h =
    let later = output_later c.outputs s.output (length (with_change c.changes s.change)) in
    subst (λ (x : List Output). latest c.outputs ≤ answered x out) (sym later.1) (answered_more c.outputs later.0 (length (octets_of c.outputs)) out h)

between_leaves : (w : World) (c : Course) (made : ℕ) (left : Register) → w.one.session ≡ Some c → MayBeLeft c.changes w.one.start (latest c.outputs) made left
    → (n : ℕ) × (register_of (happens w (Stops n)).one ≡ left)
unfolding in_session
between_leaves w c made left e p =
    (p.count, ap (λ (x : World). register_of x.one) (happens_there w c (Stops p.count) e) ∙ stop_leaves w c c.outputs (latest c.outputs) made left p (omega arith))

within_leaves : (w : World) (c : Course) (made : ℕ) (left : Register) (doing : Doing) (s : Step) (out : ℕ) → w.one.session ≡ Some c
    → step_of c doing w.one.coming ≡ Some s → length (octets_of c.outputs) ≤ out → MayBeLeft (advance c s).changes w.one.start (answered (advance c s).outputs out) made left
    → (n : ℕ) × (register_of (happens w (StopsInStep doing n)).one ≡ left) × (register_of (happens w (FailsInStep doing n)).one ≡ left)
unfolding in_session
within_leaves w c made left doing s out e is h p =
    let low = answered (advance c s).outputs out in
    let least = answered_next c s out h in
    let stop : happens w (StopsInStep doing p.count) ≡ stops_at w (advance c s) c.outputs p.count =
    happens_there w c (StopsInStep doing p.count) e ∙ ap (stops_within w c p.count) is in
    let fault : happens w (FailsInStep doing p.count) ≡ fails_at w (advance c s) c.outputs p.count =
    happens_there w c (FailsInStep doing p.count) e ∙ ap (fails_within w c p.count) is in (
      p.count,
      ap (λ (x : World). register_of x.one) stop ∙ stop_leaves w (advance c s) c.outputs low made left p least,
      ap (λ (x : World). register_of x.one) fault ∙ fault_leaves w (advance c s) c.outputs low made left p least,
    )

pub stops_leave_prefixes : StopsLeavePrefixes
stops_leave_prefixes = record { between = between_leaves; within = within_leaves }
