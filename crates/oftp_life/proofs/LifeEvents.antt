-- The acts of a life are events of two stations.
use Rattle.std.proofs.Common.{◌≡◌, ◌∙◌, ◌+◌, ◌≤◌, ◌++◌, inl, inr, ap, sym, subst, refl, arith, ℕ, List, [], length, take, drop, Option, None, Some, Ok, length-append}
use Rattle.std.proofs.lemmas.List.{take-append-drop, take-append-le}
use Rattle.oftp_register.specs.declared.change.Change.{Change}
use Rattle.oftp_register.specs.Changes.{apply_all}
use Rattle.oftp_register.specs.Register.{Register}
use Rattle.oftp_session.specs.Calls.{Makes}
use Rattle.oftp_session.specs.Settings.{Setting}
use Rattle.oftp_engine.specs.Events.{IsWithAnother}
use Rattle.oftp_engine.specs.Parts.{course_of}
use Rattle.oftp_engine.specs.Runs.{with_change}
use Rattle.oftp_engine.specs.Served.{whole}
use Rattle.oftp_engine.specs.World.{World}
use Rattle.oftp_engine.proofs.Dealings.{sessions_are_dealings}
use Rattle.oftp_engine.proofs.Orders.{deeds_are_orders}
use Rattle.oftp_life.specs.LifeEvents.{ActsAreEvents, AreDealings, IsAfterSome}
use Rattle.oftp_life.specs.LifeParts.{session_over}
use Rattle.oftp_life.specs.Reaches.{IsShort}

-- a session that stopped after some changes of its run
run_deals : (w : World) (setting : Setting) (heard : List ℕ) (stop : Option ℕ) (changes : List Change) (left : Register) → w.one.session ≡ None
    → IsWithAnother w.other.book.station.code setting heard → changes ≡ (course_of (session_over setting heard stop) w.one.start).changes
    → IsAfterSome changes w.one.start left → AreDealings w left
run_deals w setting heard stop changes left none others are some =
    sessions_are_dealings w (session_over setting heard stop) 0 some.count left none others (record {
      count = some.count;
      least = omega arith;
      most = subst (λ (ks : List Change). some.count ≤ length ks) are some.most;
      near = inl refl;
      register = left;
      replay = subst (λ (ks : List Change). apply_all w.one.start (take some.count ks) ≡ Ok left) are some.replay;
      holds = refl;
    })

-- the same where there was no memory for the next step
short_deals : (w : World) (setting : Setting) (heard said : List ℕ) (changes : List Change) (left : Register) → w.one.session ≡ None
    → IsWithAnother w.other.book.station.code setting heard → IsShort setting heard said w.one.start changes → IsAfterSome changes w.one.start left → AreDealings w left
short_deals w setting heard said changes left none others h some =
    let cs = (whole setting heard w.one.start).changes in
    let rest = drop h.made cs in
    let all : cs ≡ changes ++ rest = sym (take-append-drop h.made cs) ∙ ap (λ (ks : List Change). ks ++ rest) (sym h.are) in
    let long : length cs ≡ length changes + length rest = ap (λ (ks : List Change). length ks) all ∙ length-append changes rest in
    let most = some.most in
    run_deals w setting heard None cs left none others refl (record {
      count = some.count;
      most = omega (arith, most, long);
      replay = ap (apply_all w.one.start) (ap (take some.count) all ∙ take-append-le some.count changes rest some.most) ∙ some.replay;
    })

-- the one change of a call is made, or there is none
made_by : (change : Option Change) (r s : Register) → apply_all r (with_change [] change) ≡ Ok s → Makes change r s
made_by None r s h =
    let same : Ok r ≡ Ok s = h in
    let is : s ≡ r = cc in is
made_by (Some k) r s h = h

pub acts_are_events : ActsAreEvents
acts_are_events = record {
  sessions = λ w setting heard said changes after left none others h some. elim h.how [
    | inl ran ↦ run_deals w setting heard ran.stop changes left none others ran.are some
    | inr short ↦ short_deals w setting heard said changes left none others short some
  ];
  cut = λ w setting heard said stop left none others h some. run_deals w setting heard None stop.changes left none others h.changes some;
  calls = λ w call changes after none h. deeds_are_orders w call h.deed after none h.is
      (made_by h.deed.change w.one.start after (subst (λ (ks : List Change). apply_all w.one.start ks ≡ Ok after) h.are h.replay));
}
