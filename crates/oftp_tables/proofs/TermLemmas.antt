-- The results of tests and casts of values.
use Rattle.std.proofs.Common.{◌≡◌, ◌==◌, ◌&&◌, ◌<◌, ℕ, ℤ, pos, Bool, true, false, cond, nat_le, nat_lt, List, [], length, flat_map, Some, Less, Equal, Greater, is_ge, inl, inr, refl, sym, ap, ◌∙◌, arith}
use Rattle.std.proofs.Common.{◌<ℤ◌}
use Rattle.std.specs.List.{filter_map}
use Rattle.std.specs.Str.{bytes_eq}
use Rattle.std.specs.Ordering.{is_eq, nat_cmp}
use Rattle.std.specs.Cmp.{int_cmp_is}
use Rattle.std.proofs.lemmas.Int.{ints}
use Rattle.std.proofs.lemmas.Bool.{cases_Bool}
use Rattle.std.proofs.lemmas.Bool.Decides.{nat_tests}
use Rattle.std.proofs.lemmas.Map.Text.{is_eq-slice_cmp}
use Rattle.sqlite_value.proofs.OrderLemmas.{value_cmp-Text, value_cmp-Int}
use Rattle.sqlite.specs.Collation.TheVariants.{Binary}
use Rattle.sqlite.specs.declared.types.Value.{Value}
use Rattle.sqlite.specs.declared.types.Value.TheVariants.{Null, Int, Text}
use Rattle.sqlite.specs.Order.{Row, value_cmp}
use Rattle.sqlite.specs.Kind.TheVariants.{Integer}
use Rattle.sqlite.specs.Cast.{cast}
use Rattle.sqlite.specs.Term.{Term, op2}
use Rattle.sqlite.specs.Ops.{binary, unary, is_true, from_truth}
use Rattle.sqlite_sql.specs.declared.ops.BinaryOp.TheVariants as by
use Rattle.sqlite_sql.specs.declared.ops.CompareOp.TheVariants as compare
use Rattle.sqlite_schema.specs.declared.schema.Keys.TheVariants.{Enforced}
use Rattle.sqlite_rules.specs.Action.{works, work_by, pairs, deed_for}
use Rattle.sqlite_schema.specs.Rules.{parent_key}
use Rattle.oftp_tables.specs.Schema.{office_schema}

abbrev pub equal : Term → Term → Term
equal = op2 (by.Compare compare.Eq Binary)

abbrev pub at_least : Term → Term → Term
at_least = op2 (by.Compare compare.Ge Binary)

truth_of : (b : Bool) → is_true (from_truth (Some b)) ≡ b
truth_of true = refl
truth_of false = refl

-- `=` on two texts
pub equal_texts : (a b : List ℕ) → is_true (binary (by.Compare compare.Eq Binary) (Text a) (Text b)) ≡ bytes_eq a b
unfolding binary
equal_texts a b = truth_of (is_eq (value_cmp (Text a) (Text b))) ∙ ap is_eq (value_cmp-Text a b) ∙ is_eq-slice_cmp a b

-- the order of two numbers
pub number_cmp : (m n : ℕ) → value_cmp (Int (pos m)) (Int (pos n)) ≡ nat_cmp m n
number_cmp m n =
    elim (cases_Bool (nat_lt m n)) [
      | inl below ↦
          let h : pos m <ℤ pos n = omega (arith, ints, nat_lt_is m n below) in
          rw below (value_cmp-Int (pos m) (pos n) ∙ sym (int_cmp_is (pos m) (pos n) Less h))
      | inr past ↦ elim (cases_Bool (m == n)) [
        | inl same ↦
            let h : pos m ≡ pos n = ap pos (eq_is m n same) in
            rw (past, same) (value_cmp-Int (pos m) (pos n) ∙ sym (int_cmp_is (pos m) (pos n) Equal h))
        | inr other ↦
            let h : pos n <ℤ pos m = omega (arith, ints, nat_gt_is m n past other) in
            rw (past, other) (value_cmp-Int (pos m) (pos n) ∙ sym (int_cmp_is (pos m) (pos n) Greater h))
      ]
    ]
  where
    nat_lt_is : (m n : ℕ) → nat_lt m n ≡ true → m < n
    nat_lt_is m n h = grind (arith, nat_tests, h)

    eq_is : (m n : ℕ) → (m == n) ≡ true → m ≡ n
    eq_is m n h = grind (arith, nat_tests, h)

    nat_gt_is : (m n : ℕ) → nat_lt m n ≡ false → (m == n) ≡ false → n < m
    nat_gt_is m n g h = grind (arith, nat_tests, g, h)

eq_of_cmp : (m n : ℕ) → is_eq (nat_cmp m n) ≡ (m == n)
eq_of_cmp m n =
    elim (cases_Bool (nat_lt m n)) [
      | inl below ↦ let other : (m == n) ≡ false = grind (arith, nat_tests, below) in rw (below, other) refl
      | inr past ↦ elim (m == n) as (λ b. is_eq (cond (nat_lt m n) Less (cond b Equal Greater)) ≡ b) [ true ↦ rw past refl | false ↦ rw past refl ]
    ]

ge_of_cmp : (m n : ℕ) → is_ge (nat_cmp m n) ≡ nat_le n m
ge_of_cmp m n =
    elim (cases_Bool (nat_lt m n)) [
      | inl below ↦ let other : nat_le n m ≡ false = grind (arith, nat_tests, below) in rw (below, other) refl
      | inr past ↦
          let this : nat_le n m ≡ true = grind (arith, nat_tests, past) in
          rw this (elim (m == n) as (λ b. is_ge (cond (nat_lt m n) Less (cond b Equal Greater)) ≡ true) [ true ↦ rw past refl | false ↦ rw past refl ])
    ]

-- `=` and `>=` on two numbers
pub equal_numbers : (m n : ℕ) → is_true (binary (by.Compare compare.Eq Binary) (Int (pos m)) (Int (pos n))) ≡ (m == n)
unfolding binary
equal_numbers m n = truth_of (is_eq (value_cmp (Int (pos m)) (Int (pos n)))) ∙ ap is_eq (number_cmp m n) ∙ eq_of_cmp m n

pub at_least_numbers : (m n : ℕ) → is_true (binary (by.Compare compare.Ge Binary) (Int (pos m)) (Int (pos n))) ≡ nat_le n m
unfolding binary
at_least_numbers m n = truth_of (is_ge (value_cmp (Int (pos m)) (Int (pos n)))) ∙ ap is_ge (number_cmp m n) ∙ ge_of_cmp m n

pub and_true : (b : Bool) → (b && true) ≡ b
and_true true = refl
and_true false = refl

either : (b : Bool) (x : Value) → cond b x x ≡ x
either true x = refl
either false x = refl

pub cast_null : cast Integer Null ≡ Null
unfolding unary
cast_null = either _ Null

pub cast_int : (n : ℤ) → cast Integer (Int n) ≡ Int n
unfolding unary
cast_int n = either _ (Int n)

-- no foreign key has an effect
pub no_works : (tree : ℕ) (olds news : List Row) → works office_schema Enforced 0 tree olds news ≡ []
no_works tree olds news =
    elim (length news == 0) as (λ b.
    flat_map (λ child. filter_map (λ ref. work_by 0 tree (pairs olds news) child ref (deed_for Enforced b ref) (parent_key office_schema.tables ref)) child.references) office_schema.tables
    ≡ []) [
      | true ↦ refl
      | false ↦ refl
    ]
