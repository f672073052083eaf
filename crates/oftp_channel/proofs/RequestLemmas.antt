-- Requests that are read and written, word by word.
use Rattle.std.proofs.Common.{◌≡◌, ℕ, zero, suc, ◌+◌, ◌-◌, ◌^◌, ◌<◌, ◌≤◌, false, List, [], ◌∷◌, ◌++◌, length, get_or, take, drop, map, Option, Some, All, sym, ap, subst, ◌∙◌, append_assoc, arith}
use Rattle.std.proofs.lemmas.List.{append-nil, length-map, map-append, map_more, take-append-drop}
use Rattle.std.proofs.lemmas.List.Concat.{flat_map-append}
use Rattle.std.proofs.lemmas.List.Elements.{All-from_recursion}
use Rattle.std.specs.Int.{w32, to_be_bytes}
use Rattle.std.specs.List.{flat_map, AllByRecursion}
use Rattle.oftp_io.specs.Ports.{SentAll, SentPart}
use Rattle.oftp_io.specs.declared.port.Port.{Port}
use Rattle.oftp_channel.specs.Inputs.{Gave}
use Rattle.oftp_channel.specs.Requests.{IsRequest, spelled_request, spelled_word, total}
use Rattle.oftp_channel.specs.declared.request.TheConstants.{LARGEST_REQUEST, MOST_WORDS}
use Rattle.oftp_channel.proofs.InputLemmas.{front_of, gave_on}
use Rattle.oftp_channel.proofs.SentLemmas.{sent_short, sent_then}
use Rattle.oftp_channel.proofs.SpellingLemmas.{next_word, regroup, same_number, same_words, spelled_push, total_push}

module _ {X : Type 0} (remaining : X → Option (List ℕ)) (a b : Port X) where
  pub word_on : (d : Port X) (count : ℕ) (octets : List ℕ) → Gave remaining a b (to_be_bytes w32 count) → Gave remaining b d octets → length octets ≡ count
      → Gave remaining a d (spelled_word octets)
  word_on d count octets p q n = gave_on remaining a b d (to_be_bytes w32 (length octets)) octets (subst (λ (k : ℕ). Gave remaining a b (to_be_bytes w32 k)) (sym n) p) q

  pub too_long : (count most : ℕ) (heard more rest word : List ℕ) → Gave remaining a b (to_be_bytes w32 count) → count < 2 ^ 32 → most < count
      → remaining a.inner ≡ Some heard → length word ≤ most → heard ++ more ≡ spelled_word word ++ rest → ⊥
  too_long count most heard more rest word h lt long e fits s =
      let l = front_of remaining a b (to_be_bytes w32 count) heard h e in
      let n = same_number count (length word) (l.0 ++ more) (word ++ rest) lt (omega (arith, lt, long, fits))
      (regroup heard (to_be_bytes w32 count) l.0 more (to_be_bytes w32 (length word) ++ (word ++ rest)) l.2 (s ∙ append_assoc (to_be_bytes w32 (length word)) word rest)) in
      omega (arith, n.0, long, fits)

  pub too_many : (count : ℕ) (heard more rest : List ℕ) (words : List (List ℕ)) → Gave remaining a b (to_be_bytes w32 count) → count < 2 ^ 32 → MOST_WORDS < count
      → remaining a.inner ≡ Some heard → IsRequest words → heard ++ more ≡ spelled_request words ++ rest → ⊥
  too_many count heard more rest words h lt many e request s =
      let l = front_of remaining a b (to_be_bytes w32 count) heard h e in
      let n = same_number count (length words) (l.0 ++ more) (flat_map spelled_word words ++ rest) lt (omega (arith, request.few))
      (regroup heard (to_be_bytes w32 count) l.0 more (to_be_bytes w32 (length words) ++ (flat_map spelled_word words ++ rest)) l.2
      (s ∙ append_assoc (to_be_bytes w32 (length words)) (flat_map spelled_word words) rest)) in
      omega (arith, n.0, many, request.few)

  -- what was read of a request so far
  abbrev pub SoFar : ℕ → List (List ℕ) → Type 0
  SoFar count got = Gave remaining a b (to_be_bytes w32 count ++ flat_map spelled_word got)

  opened : (count : ℕ) (got words : List (List ℕ)) (heard more rest : List ℕ) → SoFar count got → count < 2 ^ 32
      → remaining a.inner ≡ Some heard → IsRequest words → heard ++ more ≡ spelled_request words ++ rest
      → (after : List ℕ) × (remaining b.inner ≡ Some after) × (count ≡ length words) × (flat_map spelled_word got ++ (after ++ more) ≡ flat_map spelled_word words ++ rest)
  opened count got words heard more rest h lt e request s =
      let l = front_of remaining a b (to_be_bytes w32 count ++ flat_map spelled_word got) heard h e in
      let n = same_number count (length words) (flat_map spelled_word got ++ (l.0 ++ more)) (flat_map spelled_word words ++ rest) lt (omega (arith, request.few))
      (sym (append_assoc (to_be_bytes w32 count) (flat_map spelled_word got) (l.0 ++ more))
      ∙ regroup heard (to_be_bytes w32 count ++ flat_map spelled_word got) l.0 more (spelled_request words ++ rest) l.2 s
      ∙ append_assoc (to_be_bytes w32 (length words)) (flat_map spelled_word words) rest) in
      (l.0, l.1, n.0, n.1)

  pub next_fits : (count left : ℕ) (got words : List (List ℕ)) (heard more rest : List ℕ) → SoFar count got → count < 2 ^ 32 → length got < count
      → left + total got ≡ LARGEST_REQUEST → remaining a.inner ≡ Some heard → IsRequest words → heard ++ more ≡ spelled_request words ++ rest
      → (s : List ℕ) × (after : List ℕ) × (behind : List ℕ) × (remaining b.inner ≡ Some behind) × (behind ++ more ≡ spelled_word s ++ after) × (length s ≤ left)
  next_fits count left got words heard more rest h lt few budget e request s =
      let o = opened count got words heard more rest h lt e request s in
      let k = next_word got words (o.0 ++ more) rest (omega (arith, budget)) (omega (arith, request.small)) (omega (arith, few, o.2)) o.3 in
      (k.0, k.1, o.0, o.1, k.2, omega (arith, k.3, budget, request.small))

  pub same_request : (count left : ℕ) (got words : List (List ℕ)) (rest : List ℕ) → SoFar count got → count < 2 ^ 32 → length got ≡ count
      → left + total got ≡ LARGEST_REQUEST → IsRequest words → remaining a.inner ≡ Some (spelled_request words ++ rest) → got ≡ words
  same_request count left got words rest h lt all budget request e =
      let o = opened count got words (spelled_request words ++ rest) [] rest h lt e request (append-nil (spelled_request words ++ rest)) in
      same_words got words (o.0 ++ []) rest (omega (arith, budget)) (omega (arith, request.small)) (omega (arith, all, o.2)) o.3

pub read_more : {X : Type 0} (remaining : X → Option (List ℕ)) (a b d : Port X) (count : ℕ) (got : List (List ℕ)) (s : List ℕ)
    → SoFar remaining a b count got → Gave remaining b d (spelled_word s) → SoFar remaining a d count (got ++ s ∷ [])
read_more remaining a b d count got s p q = subst (Gave remaining a d)
    (append_assoc (to_be_bytes w32 count) (flat_map spelled_word got) (spelled_word s) ∙ ap (λ (z : List ℕ). to_be_bytes w32 count ++ z) (sym (spelled_push got s)))
    (gave_on remaining a b d (to_be_bytes w32 count ++ flat_map spelled_word got) (spelled_word s) p q)

-- ---- words among others

each_fits : {X : Type 0} (f : X → List ℕ) (xs : List X) → total (map f xs) ≤ LARGEST_REQUEST → AllByRecursion (λ x. length (f x) < 2 ^ 32) xs
each_fits f [] h = tt
each_fits f (x ∷ xs) h = (omega (arith, h), each_fits f xs (omega (arith, h)))

pub all_fit : {X : Type 0} (f : X → List ℕ) (xs : List X) → total (map f xs) ≤ LARGEST_REQUEST → All (λ x. length (f x) < 2 ^ 32) xs
all_fit f xs h = All-from_recursion (λ x. length (f x) < 2 ^ 32) xs (each_fits f xs h)

total_take : {X : Type 0} (f : X → List ℕ) (xs : List X) (n : ℕ) → total (map f (take n xs)) ≤ total (map f xs)
total_take f xs zero = omega arith
total_take f [] (suc n) = omega arith
total_take f (x ∷ xs) (suc n) = omega (arith, total_take f xs n)

total_more : {X : Type 0} (f : X → List ℕ) (xs : List X) (i : ℕ) (d : X) → i < length xs → total (map f (take (i + 1) xs)) ≡ total (map f (take i xs)) + length (f (get_or xs i d))
total_more f xs i d lt = ap total (map_more f xs i d lt) ∙ total_push (map f (take i xs)) (f (get_or xs i d))

pub budget_more : {X : Type 0} (f : X → List ℕ) (xs : List X) (i : ℕ) (d : X) (left : ℕ) → left + total (map f (take i xs)) ≡ LARGEST_REQUEST → i < length xs
    → length (f (get_or xs i d)) ≤ left → left - length (f (get_or xs i d)) + total (map f (take (i + 1) xs)) ≡ LARGEST_REQUEST
budget_more f xs i d left so_far lt fits = omega (arith, so_far, fits, total_more f xs i d lt)

pub not_request : {X : Type 0} (f : X → List ℕ) (xs : List X) (i : ℕ) (d : X) (left : ℕ) → left + total (map f (take i xs)) ≡ LARGEST_REQUEST → i < length xs
    → left < length (f (get_or xs i d)) → IsRequest (map f xs) → ⊥
not_request f xs i d left so_far lt long request = omega (arith, so_far, long, total_more f xs i d lt, total_take f xs (i + 1), request.small)

-- ---- a request that is cut off at a word

whole_of : {X : Type 0} (f : X → List ℕ) (xs : List X) (i : ℕ) (d : X) → i < length xs
    → (to_be_bytes w32 (length xs) ++ flat_map spelled_word (map f (take i xs)) ++ spelled_word (f (get_or xs i d))) ++ flat_map spelled_word (map f (drop (i + 1) xs))
    ≡ spelled_request (map f xs)
whole_of f xs i d lt =
    let head = to_be_bytes w32 (length xs) in
    let before = flat_map spelled_word (map f (take i xs)) in
    let word = spelled_word (f (get_or xs i d)) in
    let behind = flat_map spelled_word (map f (drop (i + 1) xs)) in
    let split : map f xs ≡ map f (take (i + 1) xs) ++ map f (drop (i + 1) xs) = ap (λ (z : List _). map f z) (sym (take-append-drop (i + 1) xs)) ∙ map-append f (take (i + 1) xs) (drop (i + 1) xs) in
    let more : flat_map spelled_word (map f (take (i + 1) xs)) ≡ before ++ word = ap (λ (z : List (List ℕ)). flat_map spelled_word z) (map_more f xs i d lt)
    ∙ spelled_push (map f (take i xs)) (f (get_or xs i d)) in
    let all : flat_map spelled_word (map f xs) ≡ (before ++ word) ++ behind = ap (λ (z : List (List ℕ)). flat_map spelled_word z) split
    ∙ flat_map-append spelled_word (map f (take (i + 1) xs)) (map f (drop (i + 1) xs)) ∙ ap (λ (z : List ℕ). z ++ behind) more in
    append_assoc head (before ++ word) behind ∙ ap (λ (z : List ℕ). head ++ z) (sym all)
    ∙ ap (λ (n : ℕ). to_be_bytes w32 n ++ flat_map spelled_word (map f xs)) (sym (length-map xs f))

pub broken_off : {W X : Type 0} (contents : W → Option (List ℕ)) (a b d : Port W) (f : X → List ℕ) (xs : List X) (i : ℕ) (e : X) → i < length xs
    → SentAll contents a b (to_be_bytes w32 (length xs) ++ flat_map spelled_word (map f (take i xs)))
    → SentPart contents b d (spelled_word (f (get_or xs i e))) → SentPart contents a d (spelled_request (map f xs))
broken_off contents a b d f xs i e lt p q =
    let head = to_be_bytes w32 (length xs) in
    let before = flat_map spelled_word (map f (take i xs)) in
    let word = spelled_word (f (get_or xs i e)) in
    let behind = flat_map spelled_word (map f (drop (i + 1) xs)) in
    let part : SentPart contents a d ((head ++ before) ++ word) = sent_then contents a b d (head ++ before) word false p q in
    let regrouped : SentPart contents a d (head ++ before ++ word) = subst (SentPart contents a d) (append_assoc head before word) part in
    subst (SentPart contents a d) (whole_of f xs i e lt) (sent_short contents a d (head ++ before ++ word) behind regrouped)
