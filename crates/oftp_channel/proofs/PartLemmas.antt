-- Parts of an answer, each with one encoding.
use Rattle.std.proofs.Common.{◌≡◌, ℕ, ◌≤◌, List, [], ◌∷◌, ◌++◌, length, Option, Some, Result, Ok, Err, IfErr, refl, sym, ap, ◌∙◌, arith}
use Rattle.std.specs.Result.{IsErrAnd}
use Rattle.oftp_io.specs.declared.port.Port.{Port}
use Rattle.oftp_channel.specs.Answers.{BeginsNoPart, IsPart, Part, piece, end, outlet_code, spelled_part, spelled_piece}
use Rattle.oftp_channel.specs.Endings.{IsEnding, spelled_ending}
use Rattle.oftp_channel.specs.Inputs.{Gave}
use Rattle.oftp_channel.specs.Requests.{spelled_word}
use Rattle.oftp_channel.specs.declared.answer.Outlet.{Outlet}
use Rattle.oftp_channel.specs.declared.answer.Outlet.TheVariants as outlets
use Rattle.oftp_channel.specs.declared.answer.TheConstants.{LONGEST_PIECE}
use Rattle.oftp_channel.specs.declared.ending.Ending.{Ending}
use Rattle.oftp_channel.specs.declared.fault.ReadFault.{ReadFault}
use Rattle.oftp_channel.specs.declared.fault.ReadFault.TheVariants.{Form}
use Rattle.oftp_channel.proofs.EndingLemmas.{first}
use Rattle.oftp_channel.proofs.InputLemmas.{front_of, some}
use Rattle.oftp_channel.proofs.SpellingLemmas.{regroup, same_word}

one_outlet : (o p : Outlet) → outlet_code o ≡ outlet_code p → o ≡ p
one_outlet outlets.Output outlets.Output e = refl
one_outlet outlets.Output outlets.Content e = absurd (omega (arith, e))
one_outlet outlets.Content outlets.Output e = absurd (omega (arith, e))
one_outlet outlets.Content outlets.Content e = refl

not_end : (o : Outlet) → outlet_code o ≡ 0 → ⊥
not_end outlets.Output e = omega (arith, e)
not_end outlets.Content e = omega (arith, e)

-- no octets begin with two parts
pub one_part : (o : Outlet) (xs : List ℕ) (q : Part) (x y : List ℕ) → length xs ≤ LONGEST_PIECE → IsPart q → spelled_piece o xs ++ x ≡ spelled_part q ++ y → piece o xs ≡ q
one_part o xs (end t) x y h k e = absurd (not_end o (first (outlet_code o) 0 (spelled_word xs ++ x) (spelled_ending t ++ y) e).0)
one_part o xs (piece p ys) x y h k e =
    let f = first (outlet_code o) (outlet_code p) (spelled_word xs ++ x) (spelled_word ys ++ y) e in
    let w = same_word xs ys x y (omega (arith, h)) (omega (arith, k)) f.1 in
    ap (λ (z : Outlet). piece z xs) (one_outlet o p f.0) ∙ ap (λ (z : List ℕ). piece p z) w.0

-- no end is a piece
one_end : (q : Part) (x y : List ℕ) → IsPart q → 0 ∷ x ≡ spelled_part q ++ y → (t : Ending) × IsEnding t × (q ≡ end t) × (x ≡ spelled_ending t ++ y)
one_end (end t) x y is e = (t, is, refl, (first 0 0 x (spelled_ending t ++ y) e).1)
one_end (piece o xs) x y is e = absurd (not_end o (sym (first 0 (outlet_code o) x (spelled_word xs ++ y) e).0))

module _ {X : Type 0} (remaining : X → Option (List ℕ)) (a b : Port X) where
  pub end_again : (got : Ending) (told : Part) (rest : List ℕ) → Gave remaining a b (0 ∷ []) → IsPart told → remaining a.inner ≡ Some (spelled_part told ++ rest)
      → ((t : Ending) (after : List ℕ) → IsEnding t → remaining b.inner ≡ Some (spelled_ending t ++ after) → got ≡ t) → end got ≡ told
  end_again got told rest h is e again =
      let l = front_of remaining a b (0 ∷ []) (spelled_part told ++ rest) h e in
      let k = one_end told l.0 rest is (sym l.2) in
      ap (λ (t : Ending). end t) (again k.0 rest k.1 (l.1 ∙ ap (λ (z : List ℕ). some z) k.3)) ∙ sym k.2

  pub no_part : {T : Type 0} (told : ReadFault) (result : Result T ReadFault) → IsErrAnd result (λ (x : ReadFault). x ≡ told) → Gave remaining a b (0 ∷ [])
      → (told ≡ Form → (heard more rest : List ℕ) (t : Ending) → remaining b.inner ≡ Some heard → IsEnding t → heard ++ more ≡ spelled_ending t ++ rest → ⊥)
      → IfErr result (λ (x : ReadFault). x ≡ Form → (heard : List ℕ) → remaining a.inner ≡ Some heard → BeginsNoPart heard)
  no_part told (Ok x) is h refused = tt
  no_part told (Err x) is h refused = λ form heard s more rest part fits spelled.
      let l = front_of remaining a b (0 ∷ []) heard h s in
      let k = one_end part (l.0 ++ more) rest fits (regroup heard (0 ∷ []) l.0 more (spelled_part part ++ rest) l.2 spelled) in
      refused (sym is ∙ form) l.0 more rest k.0 l.1 k.1 k.3

  pub piece_again : (o : Outlet) (xs : List ℕ) (told : Part) (rest : List ℕ) → Gave remaining a b (spelled_piece o xs) → length xs ≤ LONGEST_PIECE → IsPart told
      → remaining a.inner ≡ Some (spelled_part told ++ rest) → piece o xs ≡ told
  piece_again o xs told rest h short fits e =
      let l = front_of remaining a b (spelled_piece o xs) (spelled_part told ++ rest) h e in
      one_part o xs told l.0 rest short fits (sym l.2)
