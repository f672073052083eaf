-- An error of the office, as `?` passes it on.
use Rattle.std.proofs.Common.{◌≡◌, inl, [], Option, None, Some, Result, Ok, Err, is_ok, ◌∙◌, refl, sym, ap, subst}
use Rattle.std.proofs.lemmas.Bool.{false≢true}
use Rattle.std.specs.Result.{IsErrAnd}
use Rattle.oftp_register.specs.declared.change.Change.{Change}
use Rattle.oftp_register.specs.declared.office.OfficeFault.{OfficeFault}
use Rattle.oftp_register.specs.declared.office.OfficeFault.TheVariants as office
use Rattle.oftp_register.specs.Register.{Register}
use Rattle.oftp_register.specs.Soundness.{IsFit}
use Rattle.oftp_register.specs.Offices.{Commits, LooksUp, View}
use Rattle.oftp_session.specs.declared.session.SessionFault.{SessionFault}
use Rattle.oftp_session.specs.declared.session.SessionFault.TheVariants as fault
use Rattle.oftp_session.specs.Calls.{DoesNot, IsMade}
use Rattle.oftp_session.specs.Inside.{Finds, IsAccepted, MakesChange}
use Rattle.oftp_session.proofs.Views.{before_fails, then_fails}

-- a look-up that fails is an error of the office, and changes nothing
look_breaks : {A : Type 0} (Tells : Register → A → Type 0) (old new : View) (error : OfficeFault) → LooksUp Tells old new (Err error) → new.clean → old.stands
    → DoesNot None old new fault.Office
look_breaks Tells old new office.Store looks clean stands = record { cases = inl (record { register = looks.register clean stands; left = looks.left clean stands }); faults = looks.counts }
look_breaks Tells old new office.Memory looks clean stands = record { cases = inl (record { register = looks.register clean stands; left = looks.left clean stands }); faults = looks.counts }
look_breaks Tells old new (office.Refused cause) looks clean stands = absurd looks.unrefused

-- as `?` passes it on
pub look_failed : {A T : Type 0} (Tells : Register → A → Type 0) (look : Register → T) (old new : View) (error : OfficeFault) (result : Result T SessionFault)
    → LooksUp Tells old new (Err error) → IsErrAnd result (λ (x : SessionFault). x ≡ fault.Office) → new.clean → old.stands → Finds look old new result
look_failed Tells look old new error (Ok x) looks is clean stands = absurd is
look_failed Tells look old new error (Err told) looks is clean stands = subst (DoesNot None old new) (sym is) (look_breaks Tells old new error looks clean stands)

-- the same before a change
pub look_unmade : {A T : Type 0} (Tells : Register → A → Type 0) (change : Option Change) (old new : View) (error : OfficeFault) (result : Result T SessionFault)
    → LooksUp Tells old new (Err error) → IsErrAnd result (λ (x : SessionFault). x ≡ fault.Office) → new.clean → old.stands → MakesChange change old new result
look_unmade Tells change old new error (Ok x) looks is clean stands = absurd is
look_unmade Tells change old new error (Err told) looks is clean stands =
    subst (DoesNot change old new) (sym is) (before_fails change fault.Office old new (look_breaks Tells old new error looks clean stands))

-- the same of the second of two look-ups
pub second_failed : {A B T : Type 0} (First : Register → A → Type 0) (Tells : Register → B → Type 0) (look : Register → T) (old mid new : View) (x : A) (error : OfficeFault)
    (result : Result T SessionFault) → LooksUp First old mid (Ok x) → LooksUp Tells mid new (Err error) → IsErrAnd result (λ (x : SessionFault). x ≡ fault.Office)
    → new.clean → old.stands → Finds look old new result
second_failed First Tells look old mid new x error (Ok y) first second is clean stands = absurd is
second_failed First Tells look old mid new x error (Err told) first second is clean stands =
    let before = second.clean clean in
    let stood = first.stays before stands in
    let was : IsMade None None old mid [] = record { said = refl; register = first.register before stands (mid.opens stood); stands = stood; faults = first.counts } in
    subst (DoesNot None old new) (sym is) (then_fails None fault.Office old mid new was (look_breaks Tells mid new error second clean stood))

-- a change that fails is an error of the office
commit_breaks : {A : Type 0} (change : Change) (old new : View) (error : OfficeFault) → Commits {T = A} change old new (Err error) → new.clean → old.stands
    → IsFit old.register change → IsAccepted old.register change → DoesNot (Some change) old new fault.Office
commit_breaks change old new office.Store made clean stands fit accepted =
    record { cases = inl (record { register = made.same clean stands; left = made.left clean stands fit }); faults = made.counts }
commit_breaks change old new office.Memory made clean stands fit accepted =
    record { cases = inl (record { register = made.same clean stands; left = made.left clean stands fit }); faults = made.counts }
commit_breaks change old new (office.Refused cause) made clean stands fit accepted = absurd (false≢true (sym (ap is_ok (made.refused clean stands).0) ∙ accepted))

pub commit_failed : {A T : Type 0} (change : Change) (old new : View) (error : OfficeFault) (result : Result T SessionFault) → Commits {T = A} change old new (Err error)
    → IsErrAnd result (λ (x : SessionFault). x ≡ fault.Office) → new.clean → old.stands → IsFit old.register change → IsAccepted old.register change
    → MakesChange (Some change) old new result
commit_failed change old new error (Ok x) made is clean stands fit accepted = absurd is
commit_failed change old new error (Err told) made is clean stands fit accepted =
    subst (DoesNot (Some change) old new) (sym is) (commit_breaks change old new error made clean stands fit accepted)
