-- What the search of a router finds in rows that continue with bytes.
use Rattle.std.proofs.Common.{◌≡◌, ℕ, zero, suc, ◌-◌, ◌==◌, nat_lt, true, false, cond, List, [], ◌∷◌, ◌++◌, length, Option, Some, None, refl, ap, ◌∙◌, inl, inr, ◌⊎◌, arith, option_and_then}
use Rattle.std.proofs.lemmas.Bool.{cases_Bool}
use Rattle.std.proofs.lemmas.Bool.Decides.{nat_tests}
use Rattle.std.specs.List.{list_all}
use Rattle.matchit.specs.Rows.{RowsOf, param_token, catch_all_token}
use Rattle.matchit.specs.Seek.{seek, first, step, own, or_else, param_step, has_slash}
use Rattle.oftp_listing.specs.Routes.{behind}

-- a word and what follows it are the text
pub behind_is : (word text rest : List ℕ) → behind word text ≡ Some rest → text ≡ word ++ rest
behind_is [] text rest e = cc e
behind_is (c ∷ word) [] rest e = absurd (cc e)
behind_is (c ∷ word) (x ∷ text) rest e = elim (cases_Bool (c == x)) [
  | inl h ↦ let same : c ≡ x = grind (arith, nat_tests) in rw (same, behind_is word text rest (rw h at e)) refl
  | inr h ↦ absurd (cc (rw h at e))
]

module _ {K : Type 0} where
  abbrev pub no_rows : RowsOf K
  no_rows = []

  -- each row after a word
  abbrev pub prefixed : List ℕ → RowsOf K → RowsOf K
  prefixed w [] = []
  prefixed w ((t, k) ∷ rows) = (w ++ t, k) ∷ prefixed w rows

  prefixed_none : (rows : RowsOf K) → prefixed [] rows ≡ rows
  prefixed_none [] = refl
  prefixed_none ((t, k) ∷ rows) = ap (λ r. (t, k) ∷ r) (prefixed_none rows)

  param_step_none : (path : List ℕ) → (param_step no_rows path).1 ≡ no_rows
  unfolding param_step
  param_step_none path = elim (cases_Bool (has_slash path)) [ inl h ↦ rw h refl | inr h ↦ rw h refl ]

  pub seek_none : (n : ℕ) (p : List ℕ) → seek n no_rows p ≡ None
  unfolding seek
  seek_none n [] = refl
  seek_none (suc n) (b ∷ p) = seek_none n p
  seek_none zero (b ∷ p) =
      let rest = seek_none ((param_step no_rows (b ∷ p)).0 - 1) p in
      rw (param_step_none (b ∷ p), seek_none 0 p, rest) refl

  or_none : (x : Option K) → or_else x None ≡ x
  or_none None = refl
  or_none (Some k) = refl

  -- if no row continues with a parameter or a catch-all, the next byte decides
  pub seek_byte : (rows : RowsOf K) (b : ℕ) (p : List ℕ) → step param_token rows ≡ no_rows → own (step catch_all_token rows) ≡ None
      → seek 0 rows (b ∷ p) ≡ seek 0 (step b rows) p
  unfolding seek
  seek_byte rows b p no_param no_all =
      rw (no_param, no_all, param_step_none (b ∷ p), seek_none ((param_step no_rows (b ∷ p)).0 - 1) p) (or_none (seek 0 (step b rows) p))

  own_prefixed : (x : ℕ) (w : List ℕ) (rows : RowsOf K) → own (prefixed (x ∷ w) rows) ≡ None
  own_prefixed x w [] = refl
  own_prefixed x w ((t, k) ∷ rows) = own_prefixed x w rows

  step_hit : (b : ℕ) (w : List ℕ) (rows : RowsOf K) → step b (prefixed (b ∷ w) rows) ≡ prefixed w rows
  step_hit b w [] = refl
  step_hit b w ((t, k) ∷ rows) =
      let e : (b == b) ≡ true = grind (arith, nat_tests) in
      rw e (ap (λ r. (w ++ t, k) ∷ r) (step_hit b w rows))

  step_miss : (b x : ℕ) (w : List ℕ) (rows : RowsOf K) → (x == b) ≡ false → step b (prefixed (x ∷ w) rows) ≡ no_rows
  step_miss b x w [] n = refl
  step_miss b x w ((t, k) ∷ rows) n = rw n (step_miss b x w rows n)

  -- rows after a word are found if the path begins with it
  pub first_behind : (w : List ℕ) (rows : RowsOf K) (p : List ℕ) → list_all (λ x. nat_lt x 256) w ≡ true
      → first (prefixed w rows) p ≡ option_and_then (first rows) (behind w p)
  unfolding seek
  first_behind [] rows p bytes = ap (λ r. first r p) (prefixed_none rows)
  first_behind (x ∷ w) rows [] bytes = own_prefixed x w rows
  first_behind (x ∷ w) rows (y ∷ p) bytes = elim (cases_Bool (nat_lt x 256)) [
    | inr big ↦ absurd (cc (rw big at bytes))
    | inl small ↦
        let no_param : (x == param_token) ≡ false = grind (arith, nat_tests) in
        let no_all : (x == catch_all_token) ≡ false = grind (arith, nat_tests) in
        let on = seek_byte (prefixed (x ∷ w) rows) y p (step_miss param_token x w rows no_param) (ap own (step_miss catch_all_token x w rows no_all)) in
        on ∙ elim (cases_Bool (x == y)) [
          | inl h ↦ let same : x ≡ y = grind (arith, nat_tests) in rw (h, ← same, step_hit x w rows) (first_behind w rows p (rw small at bytes))
          | inr h ↦ rw (h, step_miss y x w rows h) (seek_none 0 p)
        ]
  ]

  -- a table's two rows: after a slash one entry by a parameter, or the table itself
  abbrev pub table : K → K → RowsOf K
  table one all = (47 ∷ param_token ∷ [], one) ∷ ([], all) ∷ []

  abbrev slashed : K → RowsOf K
  slashed one = (param_token ∷ [], one) ∷ []

  abbrev ended : K → RowsOf K
  ended one = ([], one) ∷ []

  seek_skip : (one : K) (p : List ℕ) → seek (length p) (ended one) p ≡ Some one
  unfolding seek
  seek_skip one [] = refl
  seek_skip one (b ∷ p) = seek_skip one p

  seek_end : (one : K) (p : List ℕ) → (seek 0 (ended one) p ≡ None) ⊎ (seek 0 (ended one) p ≡ Some one)
  unfolding seek
  seek_end one [] = inr refl
  seek_end one (b ∷ p) = inl (seek_byte (ended one) b p refl refl ∙ seek_none 0 p)

  seek_past : (one : K) (b : ℕ) (p : List ℕ) → (seek 0 (step b (slashed one)) p ≡ None) ⊎ (seek 0 (step b (slashed one)) p ≡ Some one)
  seek_past one b p = elim (cases_Bool (param_token == b)) [ inl h ↦ rw h (seek_end one p) | inr h ↦ inl (rw h (seek_none 0 p)) ]

  param_slash : (one : K) (path : List ℕ) → has_slash path ≡ true → param_step (ended one) path ≡ (0, no_rows)
  unfolding param_step
  param_slash one path h = rw h refl

  param_clear : (one : K) (path : List ℕ) → has_slash path ≡ false → param_step (ended one) path ≡ (length path, ended one)
  unfolding param_step
  param_clear one path h = rw h refl

  -- a parameter takes a text that isn't empty and has no slash
  pub slashed_cases : (one : K) (p : List ℕ) → (seek 0 (slashed one) p ≡ Some one) ⊎ ((seek 0 (slashed one) p ≡ None) × ((p ≡ []) ⊎ (has_slash p ≡ true)))
  unfolding seek
  slashed_cases one [] = inr (refl, inl refl)
  slashed_cases one (b ∷ p) = elim (seek_past one b p) [
    | inr x ↦ inl (rw x refl)
    | inl x ↦ elim (cases_Bool (has_slash (b ∷ p))) [
      | inl slash ↦ inr (rw (x, param_slash one (b ∷ p) slash, seek_none 0 p) refl, inr slash)
      | inr clear ↦ let less : suc (length p) - 1 ≡ length p = omega arith in inl (rw (x, param_clear one (b ∷ p) clear, less, seek_skip one p) refl)
    ]
  ]

  pub table_byte : (one all : K) (b : ℕ) (p : List ℕ) → seek 0 (table one all) (b ∷ p) ≡ cond (47 == b) (seek 0 (slashed one) p) None
  table_byte one all b p = seek_byte (table one all) b p refl refl ∙ elim (cases_Bool (47 == b)) [ inl h ↦ rw h refl | inr h ↦ rw h (seek_none 0 p) ]
