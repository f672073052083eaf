-- A step preserves the invariant, if it does what a step of a session does.
use Rattle.std.proofs.Common.{◌≡◌, ◌⊎◌, ◌≤◌, Bool, true, false, cond, List, [], ◌∷◌, ◌++◌, Option, None, Some, is_some, refl, ap, sym, ◌∙◌, subst, inl, inr, arith}
use Rattle.oftp_wire.specs.declared.command.Command.{Command}
use Rattle.oftp_register.specs.declared.entry.Identity.{Identity}
use Rattle.oftp_register.specs.Register.{Register}
use Rattle.oftp_register.specs.Soundness.{IsSound}
use Rattle.oftp_session.specs.Phases.{Step, is_over}
use Rattle.oftp_session.specs.Steps.{Holds}
use Rattle.oftp_engine.specs.Runs.{Course, advance}
use Rattle.oftp_engine.specs.World.{Station, World, stopped_with, stepped, told}
use Rattle.oftp_engine.specs.TwoStations.{IfAny}
use Rattle.oftp_engine.proofs.Standing.{HasRoom, WorldStands, IsInSession, MayLeave, StationLeaves, MayCome, MayComeTo, Meet}
use Rattle.oftp_engine.proofs.Grounds.{Grounds}
use Rattle.oftp_engine.proofs.Kept.{BothFit}
use Rattle.oftp_session.specs.Calls.{Makes}
use Rattle.oftp_engine.proofs.Stops.{counted_next, leaves_next, replay_next, made_after, latest_next}
use Rattle.oftp_engine.proofs.Events.{at_session, step_fits}

-- what is on its way to the other station, with what was sent after it
abbrev pub with_said : List Command → Option Command → List Command
with_said coming None = coming
with_said coming (Some command) = coming ++ command ∷ []

-- what a step of a session does, in a world with the invariant
pub record IsStep (w : World) (c : Course) (step : Step) (rest : List Command) (after : Register) : Type 0 where
  pub made : Makes step.change c.register after
  pub sound : IsSound after
  pub grounds : (there : Register) → StationLeaves w.other there → IfAny step.change (Grounds c.register there)
  pub holds : is_over step.phase ≡ false → Holds step.phase after
  pub room : is_over step.phase ≡ false → HasRoom step.phase
  pub next : (there : Register) → StationLeaves w.other there → MayCome there step.phase rest
  pub said : (d : Course) → w.other.session ≡ Some d → MayCome after d.phase (with_said w.other.coming step.output)
  pub meet : (d : Course) → w.other.session ≡ Some d → is_over step.phase ≡ false → Meet (Some (advance c step)) rest (Some d) (with_said w.other.coming step.output)

-- a world from its parts
built : {There Back : Identity → Type 0} (w : World) (one : Station) (x : List Command) → WorldStands There Back w → ((r : Register) → StationLeaves one r → IsSound r) → 128 ≤ one.book.station.buffer
    → IfAny one.session (IsInSession one.start) → MayComeTo one.session one.coming w.other
    → ((r there : Register) → StationLeaves one r → StationLeaves w.other there → BothFit There Back r there) → MayComeTo w.other.session x one
    → Meet one.session one.coming w.other.session x → let v : World =
    record { one = one; other = record w.other { coming = x } } in WorldStands There Back v
built {There = There} {Back = Back} w one x h registers room session coming fit comes meet = record {
  one = record { registers = registers; room = room; session = session; coming = coming_of one.session coming };
  other = record { registers = h.other.registers; room = h.other.room; session = h.other.session; coming = comes };
  to_other = λ r s e d. (fit r s e d).0;
  to_one = λ r s e d. (fit r s e d).1;
  meet = meet;
}
  where
    coming_of : (session : Option Course) → MayComeTo session one.coming w.other → MayComeTo session one.coming (record w.other { coming = x })
    coming_of None k = k
    coming_of (Some c) k = k

-- what is sent to a station with a session, and to one without
told_by : (s : Station) (output : Option Command) (P : Station → Type 0)
    → ((session : Option Course) → s.session ≡ session → P (record s { coming = cond (is_some session) (with_said s.coming output) s.coming })) → P (told s output)
told_by s None P k = by s.session refl
  where
    by : (session : Option Course) → s.session ≡ session → P s
    by None e = k None e
    by (Some d) e = k (Some d) e
told_by s (Some command) P k = by s.session refl
  where
    by : (session : Option Course) → s.session ≡ session → P (told s (Some command))
    by None e = subst (λ o. P (cond (is_some o) (record s { coming = s.coming ++ command ∷ [] }) s)) (sym e) (k None e)
    by (Some d) e = subst (λ o. P (cond (is_some o) (record s { coming = s.coming ++ command ∷ [] }) s)) (sym e) (k (Some d) e)

pub stands_stepped : {There Back : Identity → Type 0} (w : World) (c : Course) (step : Step) (rest : List Command) (after : Register) → w.one.session ≡ Some c → WorldStands There Back w
    → IsStep w c step rest after
    → WorldStands There Back (stepped (record w { one = record w.one { coming = rest } }) c step)
unfolding advance
stands_stepped {There = There} {Back = Back} w c step rest after e h s = by_over (is_over step.phase) refl
  where
    c' : Course
    c' = advance c step

    known : IsInSession w.one.start c
    known = subst (λ o. IfAny o (IsInSession w.one.start)) e h.one.session

    register : (advance c step).register ≡ after
    register = made_after c.register step.change after s.made

    which : (r : Register) → MayLeave w.one.start (advance c step) r → (r ≡ after) ⊎ ((step.output ≡ None) × MayLeave w.one.start c r)
    which r m =
        let k : IsInSession w.one.start c = subst (λ o. IfAny o (IsInSession w.one.start)) e h.one.session in
        leaves_next w.one.start c step after r (omega (arith, k.now.least, k.now.most)) k.replay s.made m

    sound : (r : Register) → MayLeave w.one.start (advance c step) r → IsSound r
    sound r m = elim (which r m) [ inl is ↦ subst IsSound (sym is) s.sound | inr k ↦ h.one.registers r (at_session w.one c r e k.1) ]

    fits : (r there : Register) → MayLeave w.one.start (advance c step) r → StationLeaves w.other there → BothFit There Back r there
    fits r there m d = step_fits w c step after e h s.made s.grounds r there m d

    now : MayLeave w.one.start (advance c step) (advance c step).register
    now = let k : IsInSession w.one.start c = subst (λ o. IfAny o (IsInSession w.one.start)) e h.one.session in latest_next w.one.start c step after k.counted k.replay s.made

    -- what may arrive at the other station
    same_said : (output : Option Command) → step.output ≡ output → output ≡ None → with_said w.other.coming step.output ≡ w.other.coming
    same_said output is none = ap (with_said w.other.coming) (is ∙ none)

    comes : (d : Course) → w.other.session ≡ Some d → (r : Register) → MayLeave w.one.start (advance c step) r → MayCome r d.phase (with_said w.other.coming step.output)
    comes d is r m =
        let old : (there : Register) → StationLeaves w.one there → MayCome there d.phase w.other.coming = subst (λ o. MayComeTo o w.other.coming w.one) is h.other.coming in
        elim (which r m) [
          | inl same ↦ subst (λ x. MayCome x d.phase (with_said w.other.coming step.output)) (sym same) (s.said d is)
          | inr k ↦ subst (MayCome r d.phase) (sym (same_said step.output refl k.0)) (old r (at_session w.one c r e k.1))
        ]

    one_over : Station
    one_over = stopped_with (record w.one { coming = rest }) (advance c step).register

    one_on : Station
    one_on = record w.one { coming = rest; session = Some (advance c step) }

    over_case : (session : Option Course) → w.other.session ≡ session
        → let v : World = record {
          one = stopped_with (record w.one { coming = rest }) (advance c step).register;
          other =
              record w.other { coming = cond (is_some session) (with_said w.other.coming step.output) w.other.coming };
        } in WorldStands There Back v
    over_case session is =
        built w (stopped_with (record w.one { coming = rest }) (advance c step).register) (cond (is_some session) (with_said w.other.coming step.output) w.other.coming) h
        (λ r q. subst IsSound (sym q) (sound (advance c step).register now)) h.one.room tt refl
        (λ r there q d. subst (λ x. BothFit There Back x there) (sym q) (fits (advance c step).register there now d))
        (subst (λ o. MayComeTo o (cond (is_some session) (with_said w.other.coming step.output) w.other.coming)
        (stopped_with (record w.one { coming = rest }) (advance c step).register)) (sym is) (come session is))
        tt
      where
        come : (session : Option Course) → w.other.session ≡ session
            → MayComeTo session (cond (is_some session) (with_said w.other.coming step.output) w.other.coming) (stopped_with (record w.one { coming = rest }) (advance c step).register)
        come None k = subst (λ o. MayComeTo o w.other.coming w.one) k h.other.coming
        come (Some d) k = λ there q. subst (λ x. MayCome x d.phase (with_said w.other.coming step.output)) (sym q) (comes d k (advance c step).register now)

    on_case : is_over step.phase ≡ false → (session : Option Course) → w.other.session ≡ session
        → let v : World = record {
          one = record w.one { coming = rest; session = Some (advance c step) };
          other =
              record w.other { coming = cond (is_some session) (with_said w.other.coming step.output) w.other.coming };
        } in WorldStands There Back v
    on_case on session is =
        built w (record w.one { coming = rest; session = Some (advance c step) }) (cond (is_some session) (with_said w.other.coming step.output) w.other.coming) h
        sound h.one.room
        (record {
          going = on;
          buffer = (let k : IsInSession w.one.start c = subst (λ o. IfAny o (IsInSession w.one.start)) e h.one.session in k.buffer);
          holds = subst (Holds step.phase) (sym register) (s.holds on);
          room = s.room on;
          counted = counted_next c step (let k : IsInSession w.one.start c = subst (λ o. IfAny o (IsInSession w.one.start)) e h.one.session in k.counted);
          now = now;
          replay = replay_next w.one.start c step after (let k : IsInSession w.one.start c = subst (λ o. IfAny o (IsInSession w.one.start)) e h.one.session in k.replay) s.made;
        })
        (λ there d. s.next there d) fits
        (subst (λ o. MayComeTo o (cond (is_some session) (with_said w.other.coming step.output) w.other.coming) (record w.one { coming = rest; session = Some (advance c step) }))
        (sym is) (come session is))
        (subst (λ o. Meet (Some (advance c step)) rest o (cond (is_some session) (with_said w.other.coming step.output) w.other.coming)) (sym is) (meets session is))
      where
        come : (session : Option Course) → w.other.session ≡ session
            → MayComeTo session (cond (is_some session) (with_said w.other.coming step.output) w.other.coming) (record w.one { coming = rest; session = Some (advance c step) })
        come None k = subst (λ o. MayComeTo o w.other.coming w.one) k h.other.coming
        come (Some d) k = λ there m. comes d k there m

        meets : (session : Option Course) → w.other.session ≡ session → Meet (Some (advance c step)) rest session (cond (is_some session) (with_said w.other.coming step.output) w.other.coming)
        meets None k = tt
        meets (Some d) k = s.meet d k on

    by_over : (b : Bool) → is_over step.phase ≡ b → let v : World =
        record {
          one = cond b (stopped_with (record w.one { coming = rest }) (advance c step).register) (record w.one { coming = rest; session = Some (advance c step) });
          other =
              told w.other step.output;
        } in WorldStands There Back v
    by_over true q = told_by w.other step.output (λ x. WorldStands There Back (record { one = stopped_with (record w.one { coming = rest }) (advance c step).register; other = x })) over_case
    by_over false q = told_by w.other step.output (λ x. WorldStands There Back (record { one = record w.one { coming = rest; session = Some (advance c step) }; other = x })) (on_case q)
