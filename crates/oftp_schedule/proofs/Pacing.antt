-- Between two pieces of a session a look-up is done only if there is nothing to hear, or enough was heard. As long must have passed as the last one
-- took.
use Rattle.std.proofs.Common.{◌⊎◌, ◌≡◌, ◌≤◌, ◌∙◌, false, Some, None, find, subst, ap, sym, inl, inr}
use Rattle.oftp_schedule.specs.declared.connection.Phase.TheVariants.{Between}
use Rattle.oftp_schedule.specs.declared.connection.Choice.{Choice}
use Rattle.oftp_schedule.specs.declared.connection.Choice.TheVariants.{Consult}
use Rattle.oftp_schedule.specs.declared.connection.Session.{Session}
use Rattle.oftp_schedule.specs.declared.connection.Connection.{Connection}
use Rattle.oftp_schedule.specs.Rules.{is_hearable, is_between_phase, in_phase}
use Rattle.oftp_schedule.specs.Machine.{State, choice}
use Rattle.oftp_schedule.specs.Apart.{IsPaced}
use Rattle.oftp_schedule.proofs.Choices.{LooksWithin, LooksOutside, May, whoever, of_choice}

-- what may be chosen without a thought of the session: anything but a look-up
abbrev pub IsOther : Choice → Type 0
IsOther (Consult id) = ⊥
IsOther c = Unit {0}

-- where a session may be left for a look-up
abbrev pub MayLook : State → Type 0
MayLook s =
    (c : Connection) (x : Session) → find (in_phase is_between_phase) s.connections ≡ Some c → c.phase ≡ Between x
    → ((is_hearable s.limits x ≡ false) ⊎ (x.share ≡ 0)) × (s.quiet ≤ s.now)

-- the session that is found is this one
looks : (s : State) (c : Connection) (x : Session) → find (in_phase is_between_phase) s.connections ≡ Some c → c.phase ≡ Between x → (is_hearable s.limits x ≡ false) ⊎ (x.share ≡ 0)
    → s.quiet ≤ s.now → MayLook s
looks s c x e p h l = λ d y f q.
    let same : Some c ≡ Some d = sym e ∙ f in
    let cd : c ≡ d = inj_c c d same in
    let xy : x ≡ y = inj_x x y (sym p ∙ ap (λ (c : Connection). c.phase) cd ∙ q) in
    (subst (λ (y : Session). (is_hearable s.limits y ≡ false) ⊎ (y.share ≡ 0)) xy h, l)
  where
    inj_c : (c d : Connection) → Some c ≡ Some d → c ≡ d
    inj_c c d e = cc

    inj_x : (x y : Session) → Between x ≡ Between y → x ≡ y
    inj_x x y e = cc

may_pause : (s : State) → LooksWithin s ⊎ LooksOutside s → MayLook s
may_pause s (inl l) = looks s l.one l.session l.one_is l.session_is l.pauses l.rested
may_pause s (inr l) = λ c x f p. let bad : None ≡ Some c = sym l.no_session ∙ f in cc

may_paced : (s : State) (c : Choice) → May s c → IsPaced s c
may_paced s (Consult id) m = may_pause s m.2
may_paced s c m = tt

pub choice_paced : (s : State) → IsPaced s (choice s)
choice_paced s = of_choice (IsPaced s) s (whoever (IsPaced s) s (λ id r. tt)) (may_paced s)
