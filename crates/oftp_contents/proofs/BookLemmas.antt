-- The parts of a book are its text, and the characters of a string the string, each of which is hidden by itself.
use Rattle.std.proofs.Common.{◌≡◌, ℕ, Bool, true, false, List, [], ◌∷◌, ◌++◌, fold, refl, sym, ap, ◌∙◌, if◌then◌else◌}
use Rattle.std.specs.List.{flat_map}
use Rattle.std.proofs.lemmas.List.{append-nil, append_assoc}
use Rattle.std.proofs.lemmas.List.Concat.{flat_map-append}
use Rattle.oftp_contents.specs.Books.{Part, Reading, ended, ended_before, is_string, next_read, parts_of, place_step, unread}

-- what was read
abbrev all_of : Reading → List ℕ
all_of r = flat_map (λ (part : Part). part.octets) r.parts ++ r.octets

of_ended : (r : Reading) → flat_map (λ (part : Part). part.octets) (ended r).parts ≡ all_of r
of_ended r = rw (flat_map-append (λ (part : Part). part.octets) r.parts (record { place = r.place; octets = r.octets } ∷ []))
    (ap (λ z. flat_map (λ (part : Part). part.octets) r.parts ++ z) (append-nil r.octets))

ended_all : (r : Reading) → all_of (ended r) ≡ all_of r
ended_all r = append-nil (flat_map (λ (part : Part). part.octets) (ended r).parts) ∙ of_ended r

either_all : (was now : Bool) (r : Reading) → all_of (if was then (if now then r else ended r) else (if now then ended r else r)) ≡ all_of r
either_all true true r = refl
either_all true false r = ended_all r
either_all false true r = ended_all r
either_all false false r = refl

next_all : (r : Reading) (octet : ℕ) → all_of (next_read r octet) ≡ all_of r ++ octet ∷ []
unfolding next_read
next_all r octet =
    let before = ended_before (place_step r.place octet) r in
    let more = sym (append_assoc (flat_map (λ (part : Part). part.octets) before.parts) before.octets (octet ∷ [])) in
    more ∙ ap (λ z. z ++ octet ∷ []) (either_all (is_string r.place) (is_string (place_step r.place octet)) r)

read_all : (r : Reading) (text : List ℕ) → all_of (fold next_read r text) ≡ all_of r ++ text
read_all r [] = sym (append-nil (all_of r))
read_all r (octet ∷ rest) = read_all (next_read r octet) rest ∙ (ap (λ z. z ++ rest) (next_all r octet) ∙ append_assoc (all_of r) (octet ∷ []) rest)

pub book_is : (book : List ℕ) → flat_map (λ (part : Part). part.octets) (parts_of book) ≡ book
unfolding parts_of
book_is book = of_ended (fold next_read unread book) ∙ read_all unread book
