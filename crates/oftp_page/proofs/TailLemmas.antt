-- Line feeds of a text, from its beginning and from its end, and the last octets of a file.
use Rattle.std.proofs.Common.{◌≡◌, ◌∙◌, ◌+◌, ◌-◌, ◌<◌, ◌≤◌, ◌==◌, ℕ, suc, List, [], ◌∷◌, ◌++◌, ap, arith, drop, get_or, length, refl, sym, take}
use Rattle.std.proofs.lemmas.Bool.{cond_both, eq-eqb, le-leb, lt-leb, ne_eqb}
use Rattle.std.proofs.lemmas.List.{length-drop, take_more}
use Rattle.oftp_page.specs.Tails.{before_lines, behind_line, ended_lines, last_octets, lines_told}
use Rattle.oftp_page.specs.declared.tail.TheConstants.{LINE_FEED, MOST_OF_EVENTS}

before_any : (octet : ℕ) (text : List ℕ) (last : ℕ) → before_lines octet (text ++ last ∷ []) ≡ octet ∷ (text ++ last ∷ [])
before_any octet [] last = refl
before_any octet (first ∷ text) last = refl

ended_feed : (text : List ℕ) (last : ℕ) → last ≡ LINE_FEED → ended_lines (text ++ last ∷ []) ≡ text ++ last ∷ []
ended_feed [] last is = rw (eq-eqb last LINE_FEED is) refl
ended_feed (octet ∷ text) last is = ap (before_lines octet) (ended_feed text last is) ∙ before_any octet text last

ended_other : (text : List ℕ) (last : ℕ) → (last ≡ LINE_FEED → ⊥) → ended_lines (text ++ last ∷ []) ≡ ended_lines text
ended_other [] last isnt = rw (ne_eqb last LINE_FEED isnt) refl
ended_other (octet ∷ text) last isnt = ap (before_lines octet) (ended_other text last isnt)

take_last : (text : List ℕ) (n : ℕ) → 0 < n → n ≤ length text → take n text ≡ take (n - 1) text ++ get_or text (n - 1) 0 ∷ []
take_last text n lt le =
    let same : n ≡ n - 1 + 1 = omega (arith, lt) in
    ap (λ (k : ℕ). take k text) same ∙ take_more text (n - 1) 0 (omega (arith, lt, le))

-- the last of so many octets ends a line
pub last_ends : (text : List ℕ) (n : ℕ) → 0 < n → n ≤ length text → get_or text (n - 1) 0 ≡ LINE_FEED
    → ended_lines (take n text) ≡ take n text
last_ends text n lt le is =
    let last = take_last text n lt le in
    ap ended_lines last ∙ ended_feed (take (n - 1) text) (get_or text (n - 1) 0) is ∙ sym last

-- it ends none
pub last_is_cut : (text : List ℕ) (n : ℕ) → 0 < n → n ≤ length text → (get_or text (n - 1) 0 ≡ LINE_FEED → ⊥)
    → ended_lines (take n text) ≡ ended_lines (take (n - 1) text)
last_is_cut text n lt le isnt =
    ap ended_lines (take_last text n lt le) ∙ ended_other (take (n - 1) text) (get_or text (n - 1) 0) isnt

-- of as many octets as are read none is left out
pub told_of_many : (file last : List ℕ) → last ≡ last_octets (MOST_OF_EVENTS + 1) file → MOST_OF_EVENTS < length last
    → ended_lines (behind_line (drop (length last - MOST_OF_EVENTS - 1) last)) ≡ lines_told file
told_of_many file last is many =
    let len = ap length is ∙ length-drop (length file - (MOST_OF_EVENTS + 1)) file in
    let all : length last - MOST_OF_EVENTS - 1 ≡ 0 = omega (arith, len, many) in
    ap (λ (n : ℕ). ended_lines (behind_line (drop n last))) all
    ∙ rw (lt-leb (length file) MOST_OF_EVENTS (omega (arith, len, many))) (ap (λ (text : List ℕ). ended_lines (behind_line text)) is)

-- a file that has no more is told whole
pub told_of_few : (file last : List ℕ) → last ≡ last_octets (MOST_OF_EVENTS + 1) file → length last ≤ MOST_OF_EVENTS
    → ended_lines last ≡ lines_told file
told_of_few file last is few =
    let len = ap length is ∙ length-drop (length file - (MOST_OF_EVENTS + 1)) file in
    let none : length file - (MOST_OF_EVENTS + 1) ≡ 0 = omega (arith, len, few) in
    rw (le-leb (length file) MOST_OF_EVENTS (omega (arith, len, few)))
    (ap ended_lines (is ∙ ap (λ (n : ℕ). drop n file) none))

before_length : (octet : ℕ) (lines : List ℕ) → length (before_lines octet lines) ≤ 1 + length lines
before_length octet [] = cond_both (octet == LINE_FEED) (octet ∷ []) [] (λ (text : List ℕ). length text ≤ 1) (λ _. omega arith) (λ _. omega arith)
before_length octet (first ∷ lines) = omega arith

ended_length : (text : List ℕ) → length (ended_lines text) ≤ length text
ended_length [] = omega arith
ended_length (octet ∷ text) = omega (arith, before_length octet (ended_lines text), ended_length text)

behind_any : (text : List ℕ) → length (behind_line text) ≤ length text
behind_any [] = omega arith
behind_any (octet ∷ text) =
    cond_both (octet == LINE_FEED) text (behind_line text) (λ (rest : List ℕ). length rest ≤ suc (length text)) (λ _. omega arith)
    (λ _. omega (arith, behind_any text))

behind_length : (text : List ℕ) → 0 < length text → length (behind_line text) < length text
behind_length [] lt = absurd (omega (arith, lt))
behind_length (octet ∷ text) lt =
    cond_both (octet == LINE_FEED) text (behind_line text) (λ (rest : List ℕ). length rest < suc (length text)) (λ _. omega arith)
    (λ _. omega (arith, behind_any text))

-- what is told of many octets is no more than may be told
pub many_fit : (last : List ℕ) → MOST_OF_EVENTS < length last
    → length (ended_lines (behind_line (drop (length last - MOST_OF_EVENTS - 1) last))) ≤ MOST_OF_EVENTS
many_fit last many =
    let len = length-drop (length last - MOST_OF_EVENTS - 1) last in
    omega (
      arith,
      many,
      len,
      behind_length (drop (length last - MOST_OF_EVENTS - 1) last) (omega (arith, many, len)),
      ended_length (behind_line (drop (length last - MOST_OF_EVENTS - 1) last)),
    )

-- nor of few
pub few_fit : (last : List ℕ) → length last ≤ MOST_OF_EVENTS → length (ended_lines last) ≤ MOST_OF_EVENTS
few_fit last few = omega (arith, few, ended_length last)
