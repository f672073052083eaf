-- The text of a list, to which each entry adds an object.
use Rattle.std.proofs.Common.{◌≡◌, ◌⊎◌, inl, inr, ℕ, Bool, true, List, [], ◌∷◌, ◌++◌, map, refl, ap, sym, ◌∙◌, append_assoc, codes}
use Rattle.std.specs.List.{zip}
use Rattle.serde_json.specs.Data.{Data}
use Rattle.serde_json.specs.Data as json
use Rattle.serde_json.proofs.OnLiterals.{serde_json_on_literals}
use Rattle.serde_json.specs.View.{items_of}
use Rattle.serde_json.specs.Written.{comma_if, compact_text, items_text}
use Rattle.oftp_register.specs.Register.{Register}
use Rattle.oftp_listing.specs.InsideResource.{EntryKind, object_in, objects_with}
use Rattle.oftp_listing.specs.Objects.{members}

-- ---- the text of a list, object by object

-- no entry is left, or no number
pub none_left : {E : Type 0} (es : List E) (ns : List ℕ) → (es ≡ []) ⊎ (ns ≡ []) → zip es ns ≡ []
none_left es ns (inl none) = ap (λ (l : _). zip l ns) none
none_left [] ns (inr none) = refl
none_left (e ∷ es) ns (inr none) = ap (zip (e ∷ es)) none

-- the first that is left is appended
pub objects_on : {E : Type 0} (kind : EntryKind E) (es left : List E) (ns left_ns : List ℕ) (e : E) (n : ℕ) (d : Data) (later : Bool) (text longer : List ℕ)
    → es ≡ e ∷ left → ns ≡ n ∷ left_ns → d ≡ kind.object e n → longer ≡ text ++ (comma_if later ++ compact_text d)
    → longer ++ items_text true (items_of (objects_with kind left left_ns)) ≡ text ++ items_text later (items_of (objects_with kind es ns))
objects_on {E = E} kind es left ns left_ns e n d later text longer first second is grown =
    let rest : List ℕ = items_text true (items_of (objects_with kind left left_ns)) in
    ap (λ (t : List ℕ). t ++ rest) grown ∙ append_assoc text (comma_if later ++ compact_text d) rest
    ∙ ap (λ (t : List ℕ). text ++ t) (append_assoc (comma_if later) (compact_text d) rest ∙ ap (λ (d : Data). comma_if later ++ (compact_text d ++ rest)) is)
    ∙ ap (λ (l : List E). text ++ items_text later (items_of (objects_with kind l (n ∷ left_ns)))) (sym first)
    ∙ ap (λ (l : List ℕ). text ++ items_text later (items_of (objects_with kind es l))) (sym second)

-- none is left, and the list ends
pub objects_end : {E : Type 0} (kind : EntryKind E) (es : List E) (ns : List ℕ) (later : Bool) (text longer : List ℕ) → (es ≡ []) ⊎ (ns ≡ []) → longer ≡ text ++ 93 ∷ []
    → longer ≡ text ++ items_text later (items_of (objects_with kind es ns))
objects_end {E = E} kind es ns later text longer none closed =
    closed ∙ ap (λ (ps : List (E × ℕ)). text ++ items_text later (items_of (map (λ (p : E × ℕ). kind.object p.0 p.1) ps))) (sym (none_left es ns none))

-- ---- the objects of a register

objects_by : {E : Type 0} (kind : EntryKind E) (r : Register) (es : List E) → objects_with kind es (map (kind.related r) es) ≡ map (object_in kind r) es
objects_by kind r [] = refl
objects_by kind r (e ∷ es) = ap (λ (ds : List Data). object_in kind r e ∷ ds) (objects_by kind r es)

-- with the numbers of the register
pub objects_are : {E : Type 0} (kind : EntryKind E) (r : Register) (es : List E) (ns : List ℕ) → es ≡ kind.entries r → ns ≡ map (kind.related r) (kind.entries r)
    → objects_with kind es ns ≡ map (object_in kind r) (kind.entries r)
objects_are {E = E} kind r es ns first second =
    ap (λ (l : List E). objects_with kind l ns) first ∙ ap (λ (l : List ℕ). objects_with kind (kind.entries r) l) second ∙ objects_by kind r (kind.entries r)

-- ---- two lists

five : (a b c e f : List ℕ) → (((a ++ b) ++ c) ++ e) ++ f ≡ a ++ (b ++ (c ++ (e ++ f)))
five a b c e f = append_assoc ((a ++ b) ++ c) e f ∙ append_assoc (a ++ b) c (e ++ f) ∙ append_assoc a b (c ++ (e ++ f))

-- the text of an object of two values, each appended to what came before
pub two_values : (front one middle both text : List ℕ) (issued received : Data) → front ≡ codes "{\"issued\":" → one ≡ front ++ compact_text issued
    → middle ≡ one ++ codes ",\"received\":" → both ≡ middle ++ compact_text received → text ≡ both ++ codes "}"
    → text ≡ compact_text (json.object (members ((codes "issued", issued) ∷ (codes "received", received) ∷ [])))
unfolding serde_json_on_literals
two_values front one middle both text issued received a b c d e =
    rw (e, d, c, b, a) (five (codes "{\"issued\":") (compact_text issued) (codes ",\"received\":") (compact_text received) (codes "}"))
