-- Calls of an office, one after another.
use Rattle.std.proofs.Common.{◌≡◌, inl, inr, ℕ, List, [], Option, None, Some, ◌∙◌, sym, ap, subst}
use Rattle.oftp_wire.specs.declared.command.Command.{Command}
use Rattle.oftp_register.specs.declared.change.Change.{Change}
use Rattle.oftp_register.specs.Register.{Register}
use Rattle.oftp_register.specs.Offices.{View, WithOrWithout, next_count}
use Rattle.oftp_session.specs.declared.session.SessionFault.{SessionFault}
use Rattle.oftp_session.specs.declared.session.SessionFault.TheVariants as fault
use Rattle.oftp_session.specs.Calls.{Begins, DoesNot, IsAfter, IsBefore, IsMade, Makes}

-- a change is made after a look-up
pub then_made : (change : Option Change) (output : Option Command) (frame : List ℕ) (old mid new : View) → IsMade None None old mid []
    → IsMade change output mid new frame → IsMade change output old new frame
then_made change output frame old mid new was m = record {
  said = m.said;
  register = subst (λ (r : Register). Makes change r new.register) was.register m.register;
  stands = m.stands;
  faults = m.faults ∙ was.faults;
}

with_or_without : (change : Option Change) (a b : Register) (v : View) → a ≡ b → WithOrWithout change a v → WithOrWithout change b v
with_or_without change a b v e h = subst (λ (r : Register). WithOrWithout change r v) e h

before_then : (change : Option Change) (old mid new : View) → mid.register ≡ old.register → IsBefore change mid new → IsBefore change old new
before_then change old mid new e b = record { register = λ s. b.register s ∙ e; left = with_or_without change mid.register old.register new e b.left }

after_then : (change : Option Change) (old mid new : View) → mid.register ≡ old.register → IsAfter change mid new → IsAfter change old new
after_then change old mid new e a = record {
  begins = a.begins;
  after = a.after;
  made = subst (λ (r : Register). Makes change r a.after) e a.made;
  register = a.register;
  left = a.left;
}

-- or it isn't made
pub then_fails : (change : Option Change) (told : SessionFault) (old mid new : View) → IsMade None None old mid [] → DoesNot change mid new told → DoesNot change old new told
then_fails change fault.Ended old mid new was d = d
then_fails change fault.Office old mid new was d = record {
  cases = elim d.cases [
    | inl b ↦ inl (before_then change old mid new was.register b)
    | inr a ↦ inr (after_then change old mid new was.register a)
  ];
  faults = d.faults ∙ ap next_count was.faults;
}
then_fails change fault.Memory old mid new was d = record { register = d.register ∙ was.register; stands = d.stands; faults = d.faults ∙ was.faults }

with_none : (change : Option Change) (r : Register) (v : View) → WithOrWithout None r v → WithOrWithout change r v
with_none None r v only = only
with_none (Some change) r v only = λ c left. inl (only c left)

never_begins : (old new : View) → IsAfter None old new → ⊥
never_begins old new a = a.begins

-- a look-up before the change fails
pub before_fails : (change : Option Change) (told : SessionFault) (old new : View) → DoesNot None old new told → DoesNot change old new told
before_fails change fault.Ended old new d = d
before_fails change fault.Office old new d = record {
  cases = elim d.cases [
    | inl b ↦ inl (record { register = b.register; left = with_none change old.register new b.left })
    | inr a ↦ absurd (never_begins old new a)
  ];
  faults = d.faults;
}
before_fails change fault.Memory old new d = d

-- a look-up after a change that begins a file fails
pub after_fails : (change : Option Change) (old mid new : View) → Begins change → IsMade change None old mid [] → DoesNot None mid new fault.Office → DoesNot change old new fault.Office
after_fails change old mid new begins made d = record {
  cases = elim d.cases [
    | inl b ↦ inr (record { begins = begins; after = mid.register; made = made.register; register = b.register; left = b.left })
    | inr a ↦ absurd (never_begins mid new a)
  ];
  faults = d.faults ∙ ap next_count made.faults;
}

-- look-ups after a change
pub made_then : (change : Option Change) (old mid new : View) → IsMade change None old mid [] → IsMade None None mid new [] → IsMade change None old new []
made_then change old mid new made m = record {
  said = m.said;
  register = subst (Makes change old.register) (sym m.register) made.register;
  stands = m.stands;
  faults = m.faults ∙ made.faults;
}
