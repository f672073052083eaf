-- A report, to which each entry adds a line.
use Rattle.std.proofs.Common.{◌≡◌, ◌⊎◌, ℕ, List, [], ◌∷◌, ◌++◌, map, refl, ap, sym, ◌∙◌, append_assoc, append-nil}
use Rattle.std.specs.List.{flat_map}
use Rattle.oftp_register.specs.Register.{Register}
use Rattle.oftp_listing.specs.InsideResource.{EntryKind, line_in, lines_with}
use Rattle.oftp_listing.specs.Reports.{line}
use Rattle.oftp_listing.proofs.Listings.{none_left}

-- the first that is left is appended
pub lines_on : {E : Type 0} (kind : EntryKind E) (es left : List E) (ns left_ns : List ℕ) (e : E) (n : ℕ) (added text longer : List ℕ)
    → es ≡ e ∷ left → ns ≡ n ∷ left_ns → added ≡ line (kind.fields e n) → longer ≡ text ++ added → longer ++ lines_with kind left left_ns ≡ text ++ lines_with kind es ns
lines_on {E = E} kind es left ns left_ns e n added text longer first second is grown =
    let rest : List ℕ = lines_with kind left left_ns in
    ap (λ (t : List ℕ). t ++ rest) grown ∙ append_assoc text added rest ∙ ap (λ (t : List ℕ). text ++ (t ++ rest)) is
    ∙ ap (λ (l : List E). text ++ lines_with kind l (n ∷ left_ns)) (sym first) ∙ ap (λ (l : List ℕ). text ++ lines_with kind es l) (sym second)

-- none is left
pub lines_end : {E : Type 0} (kind : EntryKind E) (es : List E) (ns : List ℕ) (text : List ℕ) → (es ≡ []) ⊎ (ns ≡ []) → text ≡ text ++ lines_with kind es ns
lines_end {E = E} kind es ns text none =
    sym (append-nil text) ∙ ap (λ (ps : List (E × ℕ)). text ++ flat_map (λ (p : E × ℕ). line (kind.fields p.0 p.1)) ps) (sym (none_left es ns none))

lines_by : {E : Type 0} (kind : EntryKind E) (r : Register) (es : List E) → lines_with kind es (map (kind.related r) es) ≡ flat_map (line_in kind r) es
lines_by kind r [] = refl
lines_by kind r (e ∷ es) = ap (λ (t : List ℕ). line_in kind r e ++ t) (lines_by kind r es)

-- with the numbers of the register
pub lines_are : {E : Type 0} (kind : EntryKind E) (r : Register) (es : List E) (ns : List ℕ) → es ≡ kind.entries r → ns ≡ map (kind.related r) (kind.entries r)
    → lines_with kind es ns ≡ flat_map (line_in kind r) (kind.entries r)
lines_are {E = E} kind r es ns first second =
    ap (λ (l : List E). lines_with kind l ns) first ∙ ap (λ (l : List ℕ). lines_with kind (kind.entries r) l) second ∙ lines_by kind r (kind.entries r)
