-- The characters of a string are the string, and each is hidden by itself.
use Rattle.std.proofs.Common.{◌≡◌, ℕ, Bool, true, false, List, [], ◌∷◌, ◌++◌, Option, None, Some, fold, map, refl, sym, ap, arith, ◌∙◌, if◌then◌else◌}
use Rattle.std.specs.List.{flat_map, list_all}
use Rattle.std.proofs.lemmas.Bool.Decides.{nat_tests}
use Rattle.std.proofs.lemmas.List.{append-nil, append_assoc}
use Rattle.std.proofs.lemmas.List.Concat.{flat_map-append}
use Rattle.std.proofs.lemmas.List.Folds.{fold_along}
use Rattle.oftp_wire.specs.Octets.{is_allowed}
use Rattle.oftp_contents.specs.Escapes.{Character, Characters, TellsNothing, Hiding, by_step, character_by_step, characters_in, escape_step, hidden_all, hidden_character, hidden_number, hidden_octet, hidden_string, is_untold, next_character, next_hidden, no_characters, none_hidden, plain, with_held}
use Rattle.oftp_contents.specs.declared.escapes.EscapeStep.{EscapeStep}
use Rattle.oftp_contents.specs.declared.escapes.EscapeStep.TheVariants.{Begins, Goes, Plain, Spells}

-- the octets of plain characters
plain_octets : (octets : List ℕ) → flat_map (λ (c : Character). c.octets) (map plain octets) ≡ octets
plain_octets [] = refl
plain_octets (octet ∷ rest) = ap (λ z. octet ∷ z) (plain_octets rest)

abbrev all_of : Characters → List ℕ
all_of c = flat_map (λ (x : Character). x.octets) c.whole ++ c.held

of_held : (c : Characters) → flat_map (λ (x : Character). x.octets) (with_held c) ≡ all_of c
of_held c = flat_map-append (λ (x : Character). x.octets) c.whole (map plain c.held) ∙ ap (λ z. flat_map (λ (x : Character). x.octets) c.whole ++ z) (plain_octets c.held)

step_all : (c : Characters) (octet : ℕ) (step : EscapeStep) → all_of (character_by_step c octet step) ≡ all_of c ++ octet ∷ []
step_all c octet Plain = append-nil _ ∙ (flat_map-append (λ (x : Character). x.octets) (with_held c) (plain octet ∷ []) ∙ ap (λ z. z ++ octet ∷ []) (of_held c))
step_all c octet Begins = ap (λ z. z ++ octet ∷ []) (of_held c)
step_all c octet (Goes escape) = sym (append_assoc (flat_map (λ (x : Character). x.octets) c.whole) c.held (octet ∷ []))
step_all c octet (Spells character) =
    let last = record { octets = c.held ++ octet ∷ []; spelled = Some character } ∷ [] in
    let one = append-nil (c.held ++ octet ∷ []) in
    append-nil _ ∙ (flat_map-append (λ (x : Character). x.octets) c.whole last ∙ (ap (λ z. flat_map (λ (x : Character). x.octets) c.whole ++ z) one
    ∙ sym (append_assoc (flat_map (λ (x : Character). x.octets) c.whole) c.held (octet ∷ []))))

next_all : (c : Characters) (octet : ℕ) → all_of (next_character c octet) ≡ all_of c ++ octet ∷ []
unfolding next_character
next_all c octet = step_all c octet (escape_step c.escape octet)

read_all : (c : Characters) (octets : List ℕ) → all_of (fold next_character c octets) ≡ all_of c ++ octets
read_all c [] = sym (append-nil (all_of c))
read_all c (octet ∷ rest) = read_all (next_character c octet) rest ∙ (ap (λ z. z ++ rest) (next_all c octet) ∙ append_assoc (all_of c) (octet ∷ []) rest)

pub string_is : (octets : List ℕ) → flat_map (λ (x : Character). x.octets) (characters_in octets) ≡ octets
unfolding characters_in
string_is octets = of_held (fold next_character no_characters octets) ∙ read_all no_characters octets

-- plain characters are hidden octet by octet
plain_hidden : (octets : List ℕ) → flat_map hidden_character (map plain octets) ≡ map hidden_octet octets
plain_hidden [] = refl
plain_hidden (octet ∷ rest) = ap (λ z. hidden_octet octet ∷ z) (plain_hidden rest)

-- what a record has of the characters so far
record Hides (h : Hiding) (c : Characters) : Type 0 where
  done : h.done ≡ flat_map hidden_character c.whole
  held : h.held ≡ c.held
  escape : h.escape ≡ c.escape

hidden_held : (h : Hiding) (c : Characters) → Hides h c → hidden_all h.done h.held ≡ flat_map hidden_character (with_held c)
hidden_held h c same = rw same.done rw same.held (sym (flat_map-append hidden_character c.whole (map plain c.held) ∙ ap (λ z. flat_map hidden_character c.whole ++ z) (plain_hidden c.held)))

spelled_hidden : (allowed : Bool) (done held : List ℕ) (octet : ℕ) → (if allowed then done ++ 88 ∷ [] else done ++ held ++ octet ∷ []) ≡ done ++ (if allowed then 88 ∷ [] else held ++ octet ∷ [])
spelled_hidden true done held octet = refl
spelled_hidden false done held octet = append_assoc done held (octet ∷ [])

single : (c : Character) → flat_map hidden_character (c ∷ []) ≡ hidden_character c
single c = append-nil (hidden_character c)

step_hides : (h : Hiding) (c : Characters) (octet : ℕ) (step : EscapeStep) → Hides h c → Hides (by_step h octet step) (character_by_step c octet step)
step_hides h c octet Plain same = record {
  done = ap (λ z. z ++ hidden_octet octet ∷ []) (hidden_held h c same) ∙ sym (flat_map-append hidden_character (with_held c) (plain octet ∷ []));
  held = refl;
  escape = refl;
}
step_hides h c octet Begins same = record { done = hidden_held h c same; held = refl; escape = refl }
step_hides h c octet (Goes escape) same = record { done = same.done; held = ap (λ z. z ++ octet ∷ []) same.held; escape = refl }
step_hides h c octet (Spells character) same =
    let last : Character = record { octets = c.held ++ octet ∷ []; spelled = Some character } in
    record {
      done = rw same.done rw same.held (spelled_hidden (is_allowed character) (flat_map hidden_character c.whole) c.held octet
          ∙ sym (flat_map-append hidden_character c.whole (last ∷ []) ∙ ap (λ z. flat_map hidden_character c.whole ++ z) (single last)));
      held = refl;
      escape = refl;
    }

next_hides : (h : Hiding) (c : Characters) (octet : ℕ) → Hides h c → Hides (next_hidden h octet) (next_character c octet)
unfolding next_hidden next_character
next_hides h c octet same = rw same.escape (step_hides h c octet (escape_step c.escape octet) same)

pub each_hidden : (octets : List ℕ) → hidden_string octets ≡ flat_map hidden_character (characters_in octets)
unfolding hidden_string characters_in
each_hidden octets =
    let all = fold_along next_hidden next_character Hides next_hides none_hidden no_characters octets (record { done = refl; held = refl; escape = refl }) in
    hidden_held (fold next_hidden none_hidden octets) (fold next_character no_characters octets) all

-- X is untold, and so is what isn't replaced by it
untold : (octet : ℕ) (allowed : Bool) → is_allowed octet ≡ allowed → is_untold (if allowed then 88 else octet) ≡ true
untold octet true is = refl
untold octet false is = rw is (grind (arith, nat_tests))

hidden_untold : (octet : ℕ) → is_untold (hidden_octet octet) ≡ true
unfolding hidden_octet
hidden_untold octet = untold octet (is_allowed octet) refl

all_untold : (octets : List ℕ) → list_all is_untold (map hidden_octet octets) ≡ true
all_untold [] = refl
all_untold (octet ∷ rest) = rw (hidden_untold octet) (all_untold rest)

by_number : (octets : List ℕ) (spelled : Option ℕ) → TellsNothing (hidden_number octets spelled) spelled
by_number octets None = all_untold octets
by_number octets (Some number) = λ allowed. rw allowed refl

pub tells_nothing : (c : Character) → TellsNothing (hidden_character c) c.spelled
tells_nothing c = by_number c.octets c.spelled

pub literal_tells_nothing : (octets : List ℕ) → TellsNothing (hidden_all [] octets) None
literal_tells_nothing octets = all_untold octets
