-- Messages of one length that are joined.
use Rattle.std.proofs.Common.{◌≡◌, ℕ, zero, suc, ◌<◌, ◌*◌, ◌+◌, List, [], ◌∷◌, ◌++◌, length, map, take, drop, slice_index_or, arith, sym, ap, ◌∙◌}
use Rattle.std.proofs.lemmas.List.{drop-drop, drop_at, ext_get_or, get_or-map, length-append, length-map, take_at}
use Rattle.std.proofs.lemmas.List.Concat.{flat_map-cons}
use Rattle.std.specs.List.{All, flat_map}
use Rattle.sha2.specs.Sha256.{sha256}
use Rattle.oftp_digest.specs.Lanes.{part}

module _ {X : Type 0} (f : X → List ℕ) (size : ℕ) where
  -- each has this length
  abbrev AreEven : List X → Type 0
  AreEven xs = All (λ x. length (f x) ≡ size) xs

  first_even : (x : X) (xs : List X) → AreEven (x ∷ xs) → length (f x) ≡ size
  first_even x xs same = same 0 x (omega arith)

  rest_even : (x : X) (xs : List X) → AreEven (x ∷ xs) → AreEven xs
  rest_even x xs same k d low = same (suc k) d (omega (arith, low))

  -- how long they are
  length-joined : (xs : List X) → AreEven xs → length (flat_map f xs) ≡ length xs * size
  length-joined [] same = omega arith
  length-joined (x ∷ xs) same =
      rw (flat_map-cons f x xs) (omega (arith, length-append (f x) (flat_map f xs), first_even x xs same, length-joined xs (rest_even x xs same)))

  pub length-eight : (xs : List X) → AreEven xs → length xs ≡ 8 → length (flat_map f xs) ≡ 8 * size
  length-eight xs same eight = length-joined xs same ∙ ap (λ n. n * size) eight

  -- one of them
  part-joined : (xs : List X) (j : ℕ) (d : X) → AreEven xs → j < length xs → part (flat_map f xs) (j * size) size ≡ f (slice_index_or xs j d)
  part-joined [] j d same low = absurd (omega (arith, low))
  part-joined (x ∷ xs) zero d same low =
      let place : 0 * size ≡ 0 = omega arith in
      rw (flat_map-cons f x xs, place) (take_at (f x) (flat_map f xs) size (first_even x xs same))
  part-joined (x ∷ xs) (suc j) d same low =
      let place : suc j * size ≡ size + j * size = omega arith in
      rw (flat_map-cons f x xs, place)
      (ap (take size) (sym (drop-drop (j * size) size (f x ++ flat_map f xs)) ∙ ap (drop (j * size)) (drop_at (f x) (flat_map f xs) size (first_even x xs same)))
      ∙ part-joined xs j d (rest_even x xs same) (omega (arith, low)))

  -- the digests of eight of them
  pub digests-joined : (ds : List (List ℕ)) (xs : List X) → AreEven xs → length xs ≡ 8 → length ds ≡ 8
      → ((j : ℕ) → j < 8 → slice_index_or ds j [] ≡ sha256 (part (flat_map f xs) (j * size) size)) → ds ≡ map (λ x. sha256 (f x)) xs
  digests-joined ds [] same eight long each = absurd (omega (arith, eight))
  digests-joined ds (x ∷ xs) same eight long each =
      let digest = λ (y : X). sha256 (f y) in
      ext_get_or [] ds (map digest (x ∷ xs)) (long ∙ sym (length-map (x ∷ xs) digest ∙ eight)) (λ j low.
      each j (omega (arith, low, long)) ∙ ap sha256 (part-joined (x ∷ xs) j x same (omega (arith, low, long, eight)))
      ∙ sym (get_or-map digest (x ∷ xs) j x [] (omega (arith, low, long, eight))))
