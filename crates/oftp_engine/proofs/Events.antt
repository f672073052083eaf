-- Which events preserve the invariant: breaks, crashes, operator's calls and new sessions, as a whole; of a step, that the files still fit.
use Rattle.std.proofs.Common.{◌≡◌, ℕ, zero, suc, ◌≤◌, Bool, true, false, cond, ◌&&◌, nat_le, List, [], ◌∷◌, ◌++◌, length, take, Option, is_some, None, Some, Result, Ok, Err, refl, ap, sym, ◌∙◌, subst, inl, inr, arith}
use Rattle.std.proofs.lemmas.Bool.{and_parts, leb-true}
use Rattle.std.specs.Result.{result_unwrap_or}
use Rattle.oftp_wire.specs.declared.command.Command.{Command}
use Rattle.oftp_wire.specs.declared.command.Command.TheVariants as command
use Rattle.oftp_wire.specs.declared.command.Esid.{Esid}
use Rattle.oftp_wire.specs.declared.reason.SessionReason.TheVariants.{ResourcesNotAvailable}
use Rattle.oftp_wire.specs.Reasons.{session_number}
use Rattle.oftp_partners.specs.declared.partner.Partner.{Partner}
use Rattle.oftp_register.specs.declared.change.Change.{Change}
use Rattle.oftp_register.specs.declared.change.Change.TheVariants as change
use Rattle.oftp_register.specs.declared.change.Cause.{Cause}
use Rattle.oftp_register.specs.declared.entry.Identity.{Identity}
use Rattle.oftp_register.specs.Register.{Register}
use Rattle.oftp_register.specs.ByIdentity.{in_at, out_at}
use Rattle.oftp_register.specs.Changes.{apply, apply_all}
use Rattle.oftp_register.specs.Soundness.{IsSound, IsFit}
use Rattle.oftp_register.proofs.KeepLemmas.{apply_keeps}
use Rattle.oftp_session.specs.Settings.{Setting}
use Rattle.oftp_session.specs.Phases.{Step, esid_of, is_over}
use Rattle.oftp_session.specs.Steps.{opening, Holds}
use Rattle.oftp_engine.specs.Runs.{Course, started, advance}
use Rattle.oftp_engine.specs.World.{Station, World, turned_round, stopped_with, stops_at, left_after, latest, is_ordered, changed_by, begins, fails_at, may_stop, told}
use Rattle.oftp_engine.specs.TwoStations.{IfAny}
use Rattle.oftp_engine.proofs.Standing.{AllFit, FileFits, HasRoom, WorldStands, IsSoundStation, IsInSession, MayLeave, LeftBy, StationLeaves, MayCome, MayComeTo, Meet}
use Rattle.oftp_engine.proofs.Grounds.{Grounds}
use Rattle.oftp_engine.proofs.Kept.{BothFit, apply_fits}
use Rattle.oftp_engine.proofs.Later.{IsLater, later_self, apply_later}
use Rattle.oftp_engine.proofs.Coming.{may_come_end, may_come_later}
use Rattle.oftp_session.specs.Calls.{Makes}
use Rattle.oftp_engine.proofs.Orders.{IsOrder}
use Rattle.oftp_engine.proofs.Stops.{leaves_next}

-- the two ends are symmetric
meet_round : (a b : Option Course) (x y : List Command) → Meet a x b y → Meet b y a x
meet_round None None x y h = tt
meet_round None (Some d) x y h = tt
meet_round (Some c) None x y h = tt
meet_round (Some c) (Some d) x y h = elim h [ inl k ↦ inr k | inr k ↦ inl k ]

pub stands_round : {There Back : Identity → Type 0} (w : World) → WorldStands There Back w → WorldStands Back There (turned_round w)
stands_round {There = There} {Back = Back} w h = record {
  one = h.other;
  other = h.one;
  to_other = λ r s e d. h.to_one s r d e;
  to_one = λ r s e d. h.to_other s r d e;
  meet = meet_round w.one.session w.other.session w.one.coming w.other.coming h.meet;
}

-- a station with a known session
pub at_session : (s : Station) (c : Course) (r : Register) → s.session ≡ Some c → MayLeave s.start c r → StationLeaves s r
at_session s c r e m = subst (λ o. LeftBy s.start o r) (sym e) m

-- a session breaks, or its station crashes: it leaves a register that a crash may leave now
pub stands_stopped : {There Back : Identity → Type 0} (w : World) (r : Register) → StationLeaves w.one r → WorldStands There Back w → WorldStands There Back (record w { one = stopped_with w.one r })
stands_stopped {There = There} {Back = Back} w r leaves h = record {
  one = record { registers = λ s e. subst IsSound (sym e) (h.one.registers r leaves); room = h.one.room; session = tt; coming = refl };
  other = record { registers = h.other.registers; room = h.other.room; session = h.other.session; coming = coming w.other.session h.other.coming };
  to_other = λ s s' e d. subst (λ x. AllFit There x s') (sym e) (h.to_other r s' leaves d);
  to_one = λ s s' e d. subst (AllFit Back s') (sym e) (h.to_one r s' leaves d);
  meet = tt;
}
  where
    coming : (session : Option Course) → MayComeTo session w.other.coming w.one → MayComeTo session w.other.coming (stopped_with w.one r)
    coming None k = k
    coming (Some d) k = λ there e. k there (subst (StationLeaves w.one) (sym e) leaves)

pub stands_broken : {There Back : Identity → Type 0} (w : World) (c : Course) → w.one.session ≡ Some c → WorldStands There Back w
    → WorldStands There Back (record w { one = stopped_with w.one c.register })
stands_broken {There = There} {Back = Back} w c e h =
    let s : IsInSession w.one.start c = subst (λ o. IfAny o (IsInSession w.one.start)) e h.one.session in
    stands_stopped w c.register (at_session w.one c c.register e s.now) h

pub stands_after_stop : {There Back : Identity → Type 0} (w : World) (c : Course) (n : ℕ) → w.one.session ≡ Some c → WorldStands There Back w → WorldStands There Back (stops_at w c c.outputs n)
stands_after_stop {There = There} {Back = Back} w c n e h = by (nat_le (latest c.outputs) n && nat_le n (length c.changes)) refl
  where
    by : (b : Bool) → (nat_le (latest c.outputs) n && nat_le n (length c.changes)) ≡ b
        → WorldStands There Back (let v : World = cond b (record w { one = stopped_with w.one (left_after w.one.start c n) }) w in v)
    by false g = h
    by true g =
        let parts = and_parts (nat_le (latest c.outputs) n) (nat_le n (length c.changes)) g in
        stands_stopped w (left_after w.one.start c n) (at_session w.one c (left_after w.one.start c n) e
        (record { changes = n; least = leb-true (latest c.outputs) n parts.0; most = leb-true n (length c.changes) parts.1; is = refl })) h

-- a change where there is no session

-- a change of the one station while it has no session
pub stands_changed : {There Back : Identity → Type 0} (w : World) (k : Change) (s : Register) → w.one.session ≡ None → IsFit w.one.start k → ((there : Register) → Grounds w.one.start there k)
    → apply w.one.start k ≡ Ok s → WorldStands There Back w → WorldStands There Back (record w { one = record w.one { start = s } })
stands_changed {There = There} {Back = Back} w k s none fit grounds made h = record {
  one = record {
    registers = λ r e. subst IsSound (sym (is r e)) (apply_keeps w.one.start k s sound fit made);
    room = h.one.room;
    session = subst (λ o. IfAny o (IsInSession s)) (sym none) tt;
    coming = subst (λ o. MayComeTo o w.one.coming w.other) (sym none) (subst (λ o. MayComeTo o w.one.coming w.other) none h.one.coming);
  };
  other = record { registers = h.other.registers; room = h.other.room; session = h.other.session; coming = coming w.other.session h.other.coming };
  to_other = λ r r' e d. subst (λ x. AllFit There x r') (sym (is r e)) (both r' d).0;
  to_one = λ r r' e d. subst (AllFit Back r') (sym (is r e)) (both r' d).1;
  meet = subst (λ o. Meet o w.one.coming w.other.session w.other.coming) (sym none) tt;
}
  where
    before : StationLeaves w.one w.one.start
    before = subst (λ o. LeftBy w.one.start o w.one.start) (sym none) refl

    sound : IsSound w.one.start
    sound = h.one.registers w.one.start (subst (λ o. LeftBy w.one.start o w.one.start) (sym none) refl)

    is : (r : Register) → LeftBy s w.one.session r → r ≡ s
    is r e = subst (λ o. LeftBy s o r) none e

    both : (r' : Register) → StationLeaves w.other r' → BothFit There Back s r'
    both r' d =
        let b : StationLeaves w.one w.one.start = subst (λ o. LeftBy w.one.start o w.one.start) (sym none) refl in
        apply_fits w.one.start k s r' (h.one.registers w.one.start b) (h.other.registers r' d) (grounds r') made (h.to_other w.one.start r' b d, h.to_one w.one.start r' b d)

    coming : (session : Option Course) → MayComeTo session w.other.coming w.one → MayComeTo session w.other.coming (record w.one { start = s })
    coming None m = m
    coming (Some d) m = λ there e. subst (λ x. MayCome x d.phase w.other.coming) (sym (is there e))
        (may_come_later w.one.start s d.phase w.other.coming (apply_later w.one.start k s
        (h.one.registers w.one.start (subst (λ o. LeftBy w.one.start o w.one.start) (sym none) refl)) made) (m w.one.start (subst (λ o. LeftBy w.one.start o w.one.start) (sym none) refl)))

ordered_grounds : (k : Change) (r there : Register) → is_ordered k ≡ true → Grounds r there k
ordered_grounds (change.Submit identity format longest description rows) r there h = tt
ordered_grounds (change.Issue n kind reason text) r there h = tt
ordered_grounds _ r there h = absurd (cc)

-- an operator's call, or another caller
pub stands_ordered : {There Back : Identity → Type 0} (w : World) (change : Option Change) → IfAny change IsOrder → w.one.session ≡ None → WorldStands There Back w
    → WorldStands There Back (changed_by w change)
stands_ordered {There = There} {Back = Back} w None it none h = h
stands_ordered {There = There} {Back = Back} w (Some k) it none h = by (apply w.one.start k) refl
  where
    by : (result : Result Register Cause) → apply w.one.start k ≡ result → WorldStands There Back (record w { one = record w.one { start = result_unwrap_or result w.one.start } })
    by (Ok s) e = stands_changed w k s none (it.fit w.one.start) (λ there. ordered_grounds k w.one.start there it.ordered) e h
    by (Err cause) e = h

-- it was elsewhere, and files with such identities are as they were
pub stands_moved : {There Back : Identity → Type 0} (w : World) (s : Register) → w.one.session ≡ None → IsSound s → IsLater w.one.start s
    → ((i : Identity) → There i → out_at s i ≡ out_at w.one.start i)
    → ((i : Identity) → Back i → in_at s i ≡ in_at w.one.start i) → WorldStands There Back w → WorldStands There Back (record w { one = record w.one { start = s } })
stands_moved {There = There} {Back = Back} w s none sound later out here h = record {
  one = record {
    registers = λ r e. subst IsSound (sym (is r e)) sound;
    room = h.one.room;
    session = subst (λ o. IfAny o (IsInSession s)) (sym none) tt;
    coming = subst (λ o. MayComeTo o w.one.coming w.other) (sym none) (subst (λ o. MayComeTo o w.one.coming w.other) none h.one.coming);
  };
  other = record { registers = h.other.registers; room = h.other.room; session = h.other.session; coming = coming w.other.session h.other.coming };
  to_other = λ r r' e d. subst (λ x. AllFit There x r') (sym (is r e)) (λ i p. subst (λ o. FileFits o (in_at r' i)) (sym (out i p)) (h.to_other w.one.start r' before d i p));
  to_one = λ r r' e d. subst (AllFit Back r') (sym (is r e)) (λ i p. subst (λ o. FileFits (out_at r' i) o) (sym (here i p)) (h.to_one w.one.start r' before d i p));
  meet = subst (λ o. Meet o w.one.coming w.other.session w.other.coming) (sym none) tt;
}
  where
    before : StationLeaves w.one w.one.start
    before = subst (λ o. LeftBy w.one.start o w.one.start) (sym none) refl

    is : (r : Register) → LeftBy s w.one.session r → r ≡ s
    is r e = subst (λ o. LeftBy s o r) none e

    coming : (session : Option Course) → MayComeTo session w.other.coming w.one → MayComeTo session w.other.coming (record w.one { start = s })
    coming None m = m
    coming (Some d) m = λ there e. subst (λ x. MayCome x d.phase w.other.coming) (sym (is there e))
        (may_come_later w.one.start s d.phase w.other.coming later (m w.one.start (subst (λ o. LeftBy w.one.start o w.one.start) (sym none) refl)))

-- Of a step: all pairs of registers that crashes may leave still fit.

step_made : {There Back : Identity → Type 0} (r after there : Register) (change : Option Change) → IsSound r → IsSound there → IfAny change (Grounds r there) → Makes change r after
    → BothFit There Back r there → BothFit There Back after there
step_made {There = There} {Back = Back} r after there None sound sound' g made fit = subst (λ x. BothFit There Back x there) (sym made) fit
step_made {There = There} {Back = Back} r after there (Some k) sound sound' g made fit = apply_fits r k after there sound sound' g made fit

pub step_fits : {There Back : Identity → Type 0} (w : World) (c : Course) (step : Step) (after : Register) → w.one.session ≡ Some c → WorldStands There Back w → Makes step.change c.register after
    → ((there : Register) → StationLeaves w.other there → IfAny step.change (Grounds c.register there))
    → (r there : Register) → MayLeave w.one.start (advance c step) r → StationLeaves w.other there → BothFit There Back r there
step_fits {There = There} {Back = Back} w c step after e h made grounds r there leaves there_leaves =
    let s : IsInSession w.one.start c = subst (λ o. IfAny o (IsInSession w.one.start)) e h.one.session in
    let now : StationLeaves w.one c.register = at_session w.one c c.register e s.now in
    let few : latest c.outputs ≤ length c.changes = omega (arith, s.now.least, s.now.most) in
    elim (leaves_next w.one.start c step after r few s.replay made leaves) [
      | inl is ↦ subst (λ x. BothFit There Back x there) (sym is)
          (step_made c.register after there step.change (h.one.registers c.register now) (h.other.registers there there_leaves) (grounds there there_leaves) made
          (h.to_other c.register there now there_leaves, h.to_one c.register there now there_leaves))
      | inr k ↦ (let b : StationLeaves w.one r = at_session w.one c r e k.1 in (h.to_other r there b there_leaves, h.to_one r there b there_leaves))
    ]

-- A crash within a step: the step was made, or not, and what it sent is lost.

stopped_at : {There Back : Identity → Type 0} (w : World) (r : Register) → IsSound r → ((there : Register) → StationLeaves w.other there → BothFit There Back r there)
    → ((d : Course) → w.other.session ≡ Some d → MayCome r d.phase w.other.coming) → WorldStands There Back w → WorldStands There Back (record w { one = stopped_with w.one r })
stopped_at {There = There} {Back = Back} w r sound fit come h = record {
  one = record { registers = λ s e. subst IsSound (sym e) sound; room = h.one.room; session = tt; coming = refl };
  other = record { registers = h.other.registers; room = h.other.room; session = h.other.session; coming = coming w.other.session refl h.other.coming };
  to_other = λ s s' e d. subst (λ x. AllFit There x s') (sym e) (fit s' d).0;
  to_one = λ s s' e d. subst (AllFit Back s') (sym e) (fit s' d).1;
  meet = tt;
}
  where
    coming : (session : Option Course) → w.other.session ≡ session → MayComeTo session w.other.coming w.one → MayComeTo session w.other.coming (stopped_with w.one r)
    coming None is k = k
    coming (Some d) is k = λ there e. subst (λ x. MayCome x d.phase w.other.coming) (sym e) (come d is)

pub later_made : (r after : Register) (change : Option Change) → IsSound r → Makes change r after → IsLater r after
later_made r after None sound made = subst (IsLater r) (sym made) (later_self r)
later_made r after (Some k) sound made = apply_later r k after sound made

silent : Step → Step
silent s = record s { output = None }

pub stands_within : {There Back : Identity → Type 0} (w : World) (c : Course) (step : Step) (after : Register) (n : ℕ) → w.one.session ≡ Some c → WorldStands There Back w → IsSound after
    → Makes step.change c.register after
    → ((there : Register) → StationLeaves w.other there → IfAny step.change (Grounds c.register there))
    → WorldStands There Back (stops_at w (advance c step) c.outputs n)
unfolding advance silent
stands_within {There = There} {Back = Back} w c step after n e h sound made grounds = by (nat_le (latest c.outputs) n && nat_le n (length (advance c step).changes)) refl
  where
    by : (b : Bool) → (nat_le (latest c.outputs) n && nat_le n (length (advance c step).changes)) ≡ b
        → WorldStands There Back (let v : World = cond b (record w { one = stopped_with w.one (left_after w.one.start (advance c step) n) }) w in v)
    by false g = h
    by true g =
        let parts = and_parts (nat_le (latest c.outputs) n) (nat_le n (length (advance c step).changes)) g in
        let r : Register = left_after w.one.start (advance c step) n in
        let leaves : MayLeave w.one.start (advance c (silent step)) r =
        record { changes = n; least = leb-true (latest c.outputs) n parts.0; most = leb-true n (length (advance c step).changes) parts.1; is = refl } in
        let s : IsInSession w.one.start c = subst (λ o. IfAny o (IsInSession w.one.start)) e h.one.session in
        let now : StationLeaves w.one c.register = at_session w.one c c.register e s.now in
        let few : latest c.outputs ≤ length c.changes = omega (arith, s.now.least, s.now.most) in
        let which = leaves_next w.one.start c (silent step) after r few s.replay made leaves in
        stopped_at w r
        (elim which [ inl is ↦ subst IsSound (sym is) sound | inr k ↦ h.one.registers r (at_session w.one c r e k.1) ])
        (λ there d. step_fits w c (silent step) after e h made grounds r there leaves d)
        (λ d is. let come : (there : Register) → StationLeaves w.one there → MayCome there d.phase w.other.coming = subst (λ o. MayComeTo o w.other.coming w.one) is h.other.coming in
        elim which [
          | inl same ↦ subst (λ x. MayCome x d.phase w.other.coming) (sym same)
              (may_come_later c.register after d.phase w.other.coming (later_made c.register after step.change (h.one.registers c.register now) made) (come c.register now))
          | inr k ↦ come r (at_session w.one c r e k.1)
        ])
        h

-- An error of the office within a step: the station stops as after a crash, and sends ESID to the other.

-- a station that ends its session sends ESID to the other
stands_told : {There Back : Identity → Type 0} (w : World) (e : Esid) → w.one.session ≡ None → WorldStands There Back w
    → WorldStands There Back (record w { other = told w.other (Some (command.Esid e)) })
stands_told {There = There} {Back = Back} w e none h = by w.other.session refl
  where
    by : (session : Option Course) → w.other.session ≡ session
        → WorldStands There Back (let v : World = record w { other = cond (is_some session) (record w.other { coming = w.other.coming ++ command.Esid e ∷ [] }) w.other } in v)
    by None q = h
    by (Some d) q =
        let coming = w.other.coming ++ command.Esid e ∷ [] in
        let old : (there : Register) → StationLeaves w.one there → MayCome there d.phase w.other.coming = subst (λ o. MayComeTo o w.other.coming w.one) q h.other.coming in
        let now : (there : Register) → StationLeaves w.one there → MayCome there d.phase coming = λ there m. may_come_end there d.phase w.other.coming e (old there m) in
        let silent = subst (λ o. MayComeTo o w.one.coming w.other) none h.one.coming in
        record {
          one = record {
            registers = h.one.registers;
            room = h.one.room;
            session = h.one.session;
            coming = subst (λ o. MayComeTo o w.one.coming (record w.other { coming = coming })) (sym none) silent;
          };
          other = record {
            registers = h.other.registers;
            room = h.other.room;
            session = h.other.session;
            coming = subst (λ o. MayComeTo o coming w.one) (sym q) now;
          };
          to_other = h.to_other;
          to_one = h.to_one;
          meet = subst (λ o. Meet o w.one.coming w.other.session coming) (sym none) tt;
        }

pub stands_failed : {There Back : Identity → Type 0} (w : World) (c : Course) (step : Step) (after : Register) (n : ℕ) → w.one.session ≡ Some c → WorldStands There Back w → IsSound after
    → Makes step.change c.register after
    → ((there : Register) → StationLeaves w.other there → IfAny step.change (Grounds c.register there)) → WorldStands There Back (fails_at w (advance c step) c.outputs n)
stands_failed {There = There} {Back = Back} w c step after n e h sound made grounds =
    by (may_stop (advance c step) c.outputs n) (stands_within w c step after n e h sound made grounds)
  where
    by : (b : Bool)
        → WorldStands There Back (let v : World = cond b (record w { one = stopped_with w.one (left_after w.one.start (advance c step) n) }) w in v)
        → WorldStands There Back (let v : World = cond b
        (record { one = stopped_with w.one (left_after w.one.start (advance c step) n); other = told w.other (Some (esid_of ResourcesNotAvailable)) }) w in v)
    by true s = stands_told (record w { one = stopped_with w.one (left_after w.one.start (advance c step) n) }) (record { reason = session_number ResourcesNotAvailable; text = [] }) refl s
    by false s = s

-- New sessions.

opens : (called : Option Partner) → is_over (opening called) ≡ false
opens None = refl
opens (Some partner) = refl

opens_holds : (called : Option Partner) (r : Register) → Holds (opening called) r
opens_holds None r = tt
opens_holds (Some partner) r = tt

opens_room : (called : Option Partner) → HasRoom (opening called)
opens_room None = tt
opens_room (Some partner) = tt

opens_come : (called : Option Partner) (there : Register) → MayCome there (opening called) []
opens_come None there = tt
opens_come (Some partner) there = tt

begun_leaves : (start : Register) (setting : Setting) (r : Register) → MayLeave start (started setting start) r → r ≡ start
begun_leaves start setting r m = m.is ∙ ap (λ (x : List Change). result_unwrap_or (apply_all start x) start) (take_of_nil m.changes)
  where
    take_of_nil : (n : ℕ) → take n (let x : List Change = [] in x) ≡ []
    take_of_nil zero = refl
    take_of_nil (suc n) = refl

begun_sound : (s other other' : Station) (called : Option Partner) → s.session ≡ None → IsSoundStation s other → IsSoundStation (begins s called) other'
begun_sound s other other' called none h = record {
  registers = λ r m. subst IsSound (sym (begun_leaves s.start (record { book = s.book; called = called }) r m)) (h.registers s.start (subst (λ o. LeftBy s.start o s.start) (sym none) refl));
  room = h.room;
  session = record {
    going = opens called;
    buffer = h.room;
    holds = opens_holds called s.start;
    room = opens_room called;
    counted = tt;
    now = record { changes = 0; least = omega arith; most = omega arith; is = refl };
    replay = refl;
  };
  coming = λ there d. opens_come called there;
}

pub stands_called : {There Back : Identity → Type 0} (w : World) → w.one.session ≡ None → w.other.session ≡ None → WorldStands There Back w
    → WorldStands There Back (record { one = begins w.one (Some w.one.partner); other = begins w.other None })
stands_called {There = There} {Back = Back} w none none' h =
    let first : StationLeaves w.one w.one.start = subst (λ o. LeftBy w.one.start o w.one.start) (sym none) refl in
    let first' : StationLeaves w.other w.other.start = subst (λ o. LeftBy w.other.start o w.other.start) (sym none') refl in
    let one : (r : Register) → MayLeave w.one.start (started (record { book = w.one.book; called = Some w.one.partner }) w.one.start) r → r ≡ w.one.start =
    λ r m. begun_leaves w.one.start (record { book = w.one.book; called = Some w.one.partner }) r m in
    let other : (r : Register) → MayLeave w.other.start (started (record { book = w.other.book; called = None }) w.other.start) r → r ≡ w.other.start =
    λ r m. begun_leaves w.other.start (record { book = w.other.book; called = None }) r m in
    record {
      one = begun_sound w.one w.other (begins w.other None) (Some w.one.partner) none h.one;
      other = begun_sound w.other w.one (begins w.one (Some w.one.partner)) None none' h.other;
      to_other = λ r s m k. subst (λ x. AllFit There x s) (sym (one r m)) (subst (AllFit There w.one.start) (sym (other s k)) (h.to_other w.one.start w.other.start first first'));
      to_one = λ r s m k. subst (λ x. AllFit Back x r) (sym (other s k)) (subst (AllFit Back w.other.start) (sym (one r m)) (h.to_one w.one.start w.other.start first first'));
      meet = inr (record { role = refl; none = refl; calling = record { role = refl; opens = refl; told = refl } });
    }
