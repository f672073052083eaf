-- The lengths in a request, read as far as it has arrived.
use Rattle.std.proofs.Common.{◌≡◌, ℕ, zero, suc, ◌+◌, ◌-◌, ◌*◌, ◌^◌, ◌<◌, ◌≤◌, ◌⊎◌, inl, inr, min, List, [], ◌∷◌, ◌++◌, length, take, drop, replicate, refl, sym, ap, subst, ◌∙◌, append_assoc, arith, length-append, length-take-le, length-drop}
use Rattle.std.proofs.lemmas.Bool.{cases_lt}
use Rattle.std.proofs.lemmas.List.{append-nil, nil_from_length, take-append-drop, length-replicate}
use Rattle.std.specs.Int.{w32, to_be_bytes}
use Rattle.std.specs.List.{flat_map}
use Rattle.oftp_channel.specs.Requests.{BeginsNoRequest, BeginsRequest, IsRequest, Lacks, spelled_request, spelled_word, total}
use Rattle.oftp_channel.specs.declared.request.TheConstants.{LARGEST_REQUEST, MOST_WORDS}
use Rattle.oftp_channel.proofs.SpellingLemmas.{next_word, regroup, same_number, spelled_push, total_push}

abbrev pub zeros : ℕ → List ℕ
zeros n = replicate n 0

zeros_on : (a b : ℕ) → zeros (a + b) ≡ zeros a ++ zeros b
zeros_on zero b = ap zeros (omega arith)
zeros_on (suc a) b =
    let e : suc a + b ≡ suc (a + b) = omega arith in
    ap zeros e ∙ ap (λ (z : List ℕ). 0 ∷ z) (zeros_on a b)

zeros_length : (n : ℕ) → length (zeros n) ≡ n
zeros_length n = length-replicate {A = ℕ} n 0

parts : (behind : List ℕ) (came lacking : ℕ) → (lacking ≡ 0) ⊎ (drop came behind ≡ [])
    → behind ++ zeros lacking ≡ (take came behind ++ zeros lacking) ++ drop came behind
parts behind came lacking (inl e) = rw e (append-nil behind ∙ sym (take-append-drop came behind) ∙ ap (λ (z : List ℕ). z ++ drop came behind) (sym (append-nil (take came behind))))
parts behind came lacking (inr e) =
    let all : behind ≡ take came behind = sym (take-append-drop came behind) ∙ ap (λ (z : List ℕ). take came behind ++ z) e ∙ append-nil (take came behind) in
    ap (λ (z : List ℕ). z ++ zeros lacking) all ∙ sym (append-nil (take came behind ++ zeros lacking)) ∙ ap (λ (z : List ℕ). (take came behind ++ zeros lacking) ++ z) (sym e)

spelled_length : (words : List (List ℕ)) → length (flat_map spelled_word words) ≡ 4 * length words + total words
spelled_length [] = refl
spelled_length (s ∷ ss) = omega (arith, spelled_length ss, length-append (spelled_word s) (flat_map spelled_word ss), length-append (to_be_bytes w32 (length s)) s)

drop_none : (n : ℕ) (xs : List ℕ) → xs ≡ [] → drop n xs ≡ []
drop_none n xs e = nil_from_length (drop n xs) (omega (arith, length-drop n xs, ap (λ (z : List ℕ). length z) e))

-- what is known of a number that begins the octets
pub record IsNumberBegun (octets behind : List ℕ) (n missing : ℕ) : Type 0 where
  pub padded : octets ++ zeros missing ≡ to_be_bytes w32 n ++ behind
  pub least : (number : ℕ) (more rest : List ℕ) → number < 2 ^ 32 → octets ++ more ≡ to_be_bytes w32 number ++ rest → n ≤ number
  pub ended : (missing ≡ 0) ⊎ (behind ≡ [])

-- each request that begins with the octets heard has at least these words, of at least so many octets together
abbrev pub AsksAtLeast : List ℕ → ℕ → ℕ → Type 0
AsksAtLeast heard count octets = (more others : List ℕ) (words : List (List ℕ)) → IsRequest words → heard ++ more ≡ spelled_request words ++ others
    → (count ≤ length words) × (octets ≤ total words)

-- with octets of 0 for those that lack, these words, of which some were passed over, are before the rest
pub record Walked (heard rest : List ℕ) (count done left lacking : ℕ) : Type 0 where
  pub got : List (List ℕ)
  pub many : length got ≡ done
  pub budget : left + total got ≡ LARGEST_REQUEST
  pub spelled : heard ++ zeros lacking ≡ to_be_bytes w32 count ++ (flat_map spelled_word got ++ rest)
  pub ended : (lacking ≡ 0) ⊎ (rest ≡ [])
  pub needs : AsksAtLeast heard count (total got)
  pub few : lacking + left ≤ LARGEST_REQUEST + 4 * (done + 1)

pub needs_count : (heard behind : List ℕ) (count missing : ℕ) → IsNumberBegun heard behind count missing → AsksAtLeast heard count 0
needs_count heard behind count missing b = λ more others words request asked. (
  b.least (length words) more (flat_map spelled_word words ++ others) (omega (arith, request.few))
      (asked ∙ append_assoc (to_be_bytes w32 (length words)) (flat_map spelled_word words) others),
  omega arith,
)

pub walked_none : (heard behind : List ℕ) (count missing : ℕ) → IsNumberBegun heard behind count missing → missing ≤ 4
    → Walked heard behind count 0 LARGEST_REQUEST missing
walked_none heard behind count missing b small = record {
  got = [];
  many = refl;
  budget = omega arith;
  spelled = b.padded;
  ended = b.ended;
  needs = needs_count heard behind count missing b;
  few = omega (arith, small);
}

-- a number of which nothing has arrived may be 0
nothing_begun : (behind : List ℕ) (least missing : ℕ) → IsNumberBegun [] behind least missing → (least ≡ 0) × (behind ≡ [])
nothing_begun behind least missing b = (
  omega (arith, b.least 0 (to_be_bytes w32 0) [] (omega arith) refl),
  elim b.ended [
    | inl e ↦ absurd (omega (arith, ap (λ (z : List ℕ). length z) b.padded, length-append (to_be_bytes w32 least) behind, zeros_length missing, e))
    | inr e ↦ e
  ],
)

module _ (heard rest behind : List ℕ) (count done left lacking n missing : ℕ) (w : Walked heard rest count done left lacking) (b : IsNumberBegun rest behind n missing)
    (lt : count < 2 ^ 32) (few : done < count) where
  -- no word before it is cut short
  needs_whole : heard ≡ to_be_bytes w32 count ++ (flat_map spelled_word w.got ++ rest) → AsksAtLeast heard count (total w.got + n)
  needs_whole spelled = λ more others words request asked.
      let c = same_number count (length words) ((flat_map spelled_word w.got ++ rest) ++ more) (flat_map spelled_word words ++ others) lt (omega (arith, request.few))
      (regroup heard (to_be_bytes w32 count) (flat_map spelled_word w.got ++ rest) more (to_be_bytes w32 (length words) ++ (flat_map spelled_word words ++ others)) spelled
      (asked ∙ append_assoc (to_be_bytes w32 (length words)) (flat_map spelled_word words) others)) in
      let next = next_word w.got words (rest ++ more) others (omega (arith, w.budget)) (omega (arith, request.small)) (omega (arith, few, w.many, c.0))
      (sym (append_assoc (flat_map spelled_word w.got) rest more) ∙ c.1) in
      let low : n ≤ length next.0 = b.least (length next.0) more (next.0 ++ next.1) (omega (arith, next.3, request.small))
      (next.2 ∙ append_assoc (to_be_bytes w32 (length next.0)) next.0 next.1) in
      (omega (arith, c.0), omega (arith, low, next.3))

  -- a word before it is cut short, so nothing of it has arrived
  needs_cut : rest ≡ [] → AsksAtLeast heard count (total w.got + n)
  needs_cut e = λ more others words request asked.
      let none = nothing_begun behind n missing (subst (λ (z : List ℕ). IsNumberBegun z behind n missing) e b) in
      let before = w.needs more others words request asked in
      (before.0, omega (arith, before.1, none.0))

  pub needs_word : AsksAtLeast heard count (total w.got + n)
  needs_word = elim w.ended [
    | inl e ↦ needs_whole (sym (append-nil heard) ∙ ap (λ (k : ℕ). heard ++ zeros k) (sym e) ∙ w.spelled)
    | inr e ↦ needs_cut e
  ]

  pub word_too_long : left < n → BeginsNoRequest heard
  word_too_long long = λ more others words request asked.
      omega (arith, long, w.budget, request.small, (needs_word more others words request asked).1)

  module _ (came : ℕ) (is_min : came ≡ min n (length behind)) where
    abbrev word : List ℕ
    word = take came behind ++ zeros (n - came)

    word_length : length word ≡ n
    word_length = omega (arith, is_min, length-append (take came behind) (zeros (n - came)), length-take-le came behind (omega (arith, is_min)), zeros_length (n - came))

    -- the word ends here, or what has arrived ends within it
    after : ((n - came) ≡ 0) ⊎ (drop came behind ≡ [])
    after = elim (cases_lt (length behind) n) [
      | inl e ↦ inr (nil_from_length (drop came behind) (omega (arith, is_min, e, length-drop came behind)))
      | inr e ↦ inl (omega (arith, is_min, e))
    ]

    word_next : rest ++ zeros (missing + (n - came)) ≡ spelled_word word ++ drop came behind
    word_next = ap (λ (z : List ℕ). rest ++ z) (zeros_on missing (n - came)) ∙ sym (append_assoc rest (zeros missing) (zeros (n - came)))
        ∙ ap (λ (z : List ℕ). z ++ zeros (n - came)) b.padded ∙ append_assoc (to_be_bytes w32 n) behind (zeros (n - came))
        ∙ ap (λ (z : List ℕ). to_be_bytes w32 n ++ z) (parts behind came (n - came) after)
        ∙ ap (λ (k : ℕ). to_be_bytes w32 k ++ (word ++ drop came behind)) (sym word_length)
        ∙ sym (append_assoc (to_be_bytes w32 (length word)) word (drop came behind))

    words_next : (got : List (List ℕ)) → flat_map spelled_word got ++ (rest ++ zeros (missing + (n - came))) ≡ flat_map spelled_word (got ++ word ∷ []) ++ drop came behind
    words_next got = ap (λ (z : List ℕ). flat_map spelled_word got ++ z) word_next
        ∙ sym (append_assoc (flat_map spelled_word got) (spelled_word word) (drop came behind))
        ∙ ap (λ (z : List ℕ). z ++ drop came behind) (sym (spelled_push got word))

    all_next : heard ++ zeros (lacking + (missing + (n - came))) ≡ to_be_bytes w32 count ++ (flat_map spelled_word (w.got ++ word ∷ []) ++ drop came behind)
    all_next = ap (λ (z : List ℕ). heard ++ z) (zeros_on lacking (missing + (n - came))) ∙ sym (append_assoc heard (zeros lacking) (zeros (missing + (n - came))))
        ∙ ap (λ (z : List ℕ). z ++ zeros (missing + (n - came))) w.spelled
        ∙ append_assoc (to_be_bytes w32 count) (flat_map spelled_word w.got ++ rest) (zeros (missing + (n - came)))
        ∙ ap (λ (z : List ℕ). to_be_bytes w32 count ++ z) (append_assoc (flat_map spelled_word w.got) rest (zeros (missing + (n - came))) ∙ words_next w.got)

    -- as long as nothing lacks, nothing is cut short
    ends : ((lacking + (missing + (n - came))) ≡ 0) ⊎ (drop came behind ≡ [])
    ends = elim w.ended [
      | inl e ↦ elim b.ended [
        | inl f ↦ elim after [ inl g ↦ inl (omega (arith, e, f, g)) | inr g ↦ inr g ]
        | inr f ↦ inr (drop_none came behind f)
      ]
      | inr e ↦ inr (drop_none came behind (nothing_begun behind n missing (subst (λ (z : List ℕ). IsNumberBegun z behind n missing) e b)).1)
    ]

    pub walked_more : n ≤ left → missing ≤ 4 → Walked heard (drop came behind) count (done + 1) (left - n) (lacking + (missing + (n - came)))
    walked_more fits small = record {
      got = w.got ++ word ∷ [];
      many = omega (arith, length-append w.got (word ∷ []), w.many);
      budget = omega (arith, total_push w.got word, w.budget, word_length, fits);
      spelled = all_next;
      ended = ends;
      needs = subst (λ (k : ℕ). AsksAtLeast heard count k) (omega (arith, total_push w.got word, word_length)) needs_word;
      few = omega (arith, w.few, small, fits, is_min);
    }

-- all words are there, with octets of 0 for those that lack
module _ (heard rest : List ℕ) (count left lacking : ℕ) (w : Walked heard rest count count left lacking) (few : count ≤ MOST_WORDS) where
  completed : BeginsRequest (heard ++ zeros lacking)
  completed = record {
    words = w.got;
    rest = rest;
    request = record { few = omega (arith, few, w.many); small = omega (arith, w.budget) };
    spelled = w.spelled ∙ ap (λ (k : ℕ). to_be_bytes w32 k ++ (flat_map spelled_word w.got ++ rest)) (sym w.many)
        ∙ sym (append_assoc (to_be_bytes w32 (length w.got)) (flat_map spelled_word w.got) rest);
  }

  none_shorter : rest ≡ [] → (fewer : List ℕ) → BeginsRequest (heard ++ fewer) → lacking ≤ length fewer
  none_shorter e fewer begins =
      let needed = w.needs fewer begins.rest begins.words begins.request begins.spelled in
      omega (
        arith,
        needed.0,
        needed.1,
        w.many,
        ap (λ (z : List ℕ). length z) w.spelled,
        length-append heard (zeros lacking),
        zeros_length lacking,
        length-append (flat_map spelled_word w.got) rest,
        spelled_length w.got,
        ap (λ (z : List ℕ). length z) e,
        ap (λ (z : List ℕ). length z) begins.spelled,
        length-append heard fewer,
        length-append (spelled_request begins.words) begins.rest,
        spelled_length begins.words,
      )

  pub lacks : Lacks heard lacking
  lacks = record {
    more = zeros lacking;
    many = zeros_length lacking;
    enough = completed;
    least = λ fewer begins. elim w.ended [ inl e ↦ omega (arith, e) | inr e ↦ none_shorter e fewer begins ];
  }
