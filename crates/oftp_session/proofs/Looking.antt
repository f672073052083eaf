-- A speaker looks for responses until none was found. From then on it finds the same items without a look for them.
use Rattle.std.proofs.Common.{◌≡◌, ◌≢◌, ℕ, ◌≤◌, ◌&&◌, nat_lt, Bool, true, false, cond, List, [], ◌∷◌, find, Option, None, Some, is_some, Ok, refl, sym, ap, ◌∙◌, subst, arith}
use Rattle.std.proofs.lemmas.Bool.{lt-ltb, ltb-true}
use Rattle.oftp_register.specs.declared.entries.Cursor.{Cursor}
use Rattle.oftp_register.specs.declared.entries.IssuedEntry.{IssuedEntry}
use Rattle.oftp_register.specs.declared.entries.Item.{Item}
use Rattle.oftp_register.specs.declared.entries.OutgoingEntry.{OutgoingEntry}
use Rattle.oftp_register.specs.Register.{Register}
use Rattle.oftp_register.specs.LookUps.{is_next_response, item_of, list_issued, next_file, next_item, next_response}
use Rattle.oftp_register.specs.Offices.{LooksUp, View}
use Rattle.oftp_session.specs.declared.state.Contact.{Contact}
use Rattle.oftp_session.specs.Calls.{IsMade}
use Rattle.oftp_session.specs.Recalling.{RecallsOf}
use Rattle.oftp_session.specs.InsideSpeaker.{due_after}

-- where no response is next, none is above a greater number
not_above : (tried above n : ℕ) (due : Bool) → tried ≤ above → (nat_lt tried n && due) ≡ false → (nat_lt above n && due) ≡ false
not_above tried above n due h none = by (nat_lt above n) refl
  where
    by : (is : Bool) → nat_lt above n ≡ is → (is && due) ≡ false
    by true is = sym (ap (λ b. b && due) (lt-ltb tried n (omega (arith, ltb-true above n is, h)))) ∙ none
    by false is = refl

none_above : (partner : List ℕ) (tried above : ℕ) (es : List IssuedEntry) → tried ≤ above → find (is_next_response partner tried) es ≡ None
    → find (is_next_response partner above) es ≡ None
none_above partner tried above [] h none = refl
none_above partner tried above (e ∷ es) h none = by (none_above partner tried above es h) (is_next_response partner tried e) refl none
  where
    by : (find (is_next_response partner tried) es ≡ None → find (is_next_response partner above) es ≡ None) → (b : Bool) → is_next_response partner tried e ≡ b
        → cond b (Some e) (find (is_next_response partner tried) es) ≡ None → find (is_next_response partner above) (e ∷ es) ≡ None
    by behind true is g = absurd (let no : ⊥ = cc in no)
    by behind false is g = ap (λ b. cond b (Some e) (find (is_next_response partner above) es)) (not_above tried above e.no _ h is) ∙ behind g

no_response : (response : Option IssuedEntry) → false ≡ is_some (item_of response None) → response ≡ None
no_response (Some e) h = absurd (let no : ⊥ = cc in no)
no_response None h = refl

-- so the same item is next
pub same_item : (r : Register) (contact : Contact) (due : Option Bool) (cursor : Cursor) → RecallsOf due contact r → cursor.file ≡ contact.tried.file
    → contact.tried.response ≤ cursor.response → (due ≢ Some false → cursor ≡ contact.tried)
    → next_item r contact.code cursor contact.link.sends ≡ next_item r contact.code contact.tried contact.link.sends
same_item r contact None cursor so file above all = ap (λ (c : Cursor). next_item r contact.code c contact.link.sends) (all (λ e. let no : ⊥ = cc in no))
same_item r contact (Some true) cursor so file above all = ap (λ (c : Cursor). next_item r contact.code c contact.link.sends) (all (λ e. let no : ⊥ = cc in no))
same_item r contact (Some false) cursor so file above all =
    let files : ℕ → Option OutgoingEntry = λ n. cond contact.link.sends (next_file r contact.code n) None in
    let none = no_response (next_response r contact.code contact.tried.response) (so false refl) in
    let still = none_above contact.code contact.tried.response cursor.response (list_issued r) above none in
    ap (λ (o : Option IssuedEntry). item_of o (files cursor.file)) (still ∙ sym none) ∙ ap (λ n. item_of (next_response r contact.code contact.tried.response) (files n)) file

looked : (contact : Contact) (due : Option Bool) (cursor : Cursor) (old new : View) (item : Option Item)
    → LooksUp (λ r found. found ≡ next_item r contact.code cursor contact.link.sends) old new (Ok item) → RecallsOf due contact old.register
    → cursor.file ≡ contact.tried.file → contact.tried.response ≤ cursor.response → (due ≢ Some false → cursor ≡ contact.tried) → new.clean → old.stands
    → (item ≡ next_item old.register contact.code contact.tried contact.link.sends) × IsMade None None old new []
looked contact due cursor old new item looks so file above all clean stands =
    let stays = looks.stays clean stands in (
      looks.answer clean stands ∙ same_item old.register contact due cursor so file above all,
      record { said = refl; register = looks.register clean stands (new.opens stays); stands = stays; faults = looks.counts },
    )

-- the same for the parts of a contact
pub next_finds : (parts contact : Contact) (due : Option Bool) (cursor : Cursor) (old new : View) (item : Option Item) → parts ≡ contact
    → LooksUp (λ r found. found ≡ next_item r parts.code cursor parts.link.sends) old new (Ok item) → RecallsOf due contact old.register
    → cursor.file ≡ parts.tried.file → parts.tried.response ≤ cursor.response → (due ≢ Some false → cursor ≡ parts.tried) → new.clean → old.stands
    → (item ≡ next_item old.register contact.code contact.tried contact.link.sends) × IsMade None None old new []
next_finds parts contact due cursor old new item same looks so file above all clean stands =
    subst (λ (x : Contact). (item ≡ next_item old.register x.code x.tried x.link.sends) × IsMade None None old new []) same
    (looked parts due cursor old new item looks (subst (λ (x : Contact). RecallsOf due x old.register) (sym same) so) file above all clean stands)

-- what is remembered after a look is true
after_so : (response : Option IssuedEntry) (file : Option OutgoingEntry) (given : Bool) → due_after (item_of response file) ≡ Some given → given ≡ is_some (item_of response None)
after_so (Some e) file given is = absurd (let no : ⊥ = cc in no)
after_so None (Some e) given is = (let same : given ≡ false = cc in same)
after_so None None given is = (let same : given ≡ false = cc in same)

pub remembered : (r : Register) (contact : Contact) (item : Option Item) (due : Option Bool) → item ≡ next_item r contact.code contact.tried contact.link.sends
    → due ≡ due_after item → RecallsOf due contact r
remembered r contact item due next after = λ given is.
    after_so (next_response r contact.code contact.tried.response) (cond contact.link.sends (next_file r contact.code contact.tried.file) None) given
    (sym (after ∙ ap due_after next) ∙ is)
