-- A life as whoever may only look at it sees it.
use Rattle.std.specs.Prelude.{◌≡◌, ℕ, Bool, false, Result}
use Rattle.oftp_register.specs.declared.office.OfficeFault.{OfficeFault}
use Rattle.oftp_register.specs.Offices.{LooksUp, View}
use Rattle.oftp_register.specs.Register.{Register}
use Rattle.oftp_life.specs.Lives.{LifeData, LifeSessionData, has_ceased}

-- as its office, but with a count of errors of its own, and open only while it isn't over
abbrev pub shows : View → ℕ → Bool → View
shows v told over = record {
  register = v.register;
  told = told;
  clean = v.clean;
  is_open = v.is_open;
  stands = v.stands × (over ≡ false);
  opens = λ h. v.opens h.0;
  Content = v.Content;
  may_leave = v.may_leave;
  holds = v.holds;
}

-- a life and a session of it, as whoever may only look at them sees them
abbrev pub life_seen : {O : Type 0} → (O → View) → LifeData O → View
life_seen view l = shows (view l.office) l.faults l.over

abbrev pub session_seen : {O : Type 0} → (O → View) → LifeSessionData O → View
session_seen view s = shows (view s.office) s.faults (has_ceased s.stage)

-- a look-up of a life that tells this of its register, and the same of a session of it
abbrev pub LifeLooksUp : {O T : Type 0} → (O → View) → (Register → T → Type 0) → LifeData O → LifeData O → Result T OfficeFault → Type 0
LifeLooksUp view Tells old new result = LooksUp Tells (life_seen view old) (life_seen view new) result

abbrev pub SessionLooksUp : {O T : Type 0} → (O → View) → (Register → T → Type 0) → LifeSessionData O → LifeSessionData O → Result T OfficeFault → Type 0
SessionLooksUp view Tells old new result = LooksUp Tells (session_seen view old) (session_seen view new) result

-- a look-up leaves what was done, and what goes out
pub record IsSameLife {O : Type 0} (old new : LifeData O) : Type 0 where
  pub began : new.began ≡ old.began
  pub acts : new.acts ≡ old.acts

pub record IsSameSession {O : Type 0} (old new : LifeSessionData O) : Type 0 where
  pub began : new.began ≡ old.began
  pub acts : new.acts ≡ old.acts
  pub before : new.before ≡ old.before
  pub out : new.out ≡ old.out
