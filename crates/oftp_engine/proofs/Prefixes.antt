-- What holds of the register after each prefix of a list of changes.
use Rattle.std.proofs.Common.{◌≡◌, ℕ, ◌≤◌, List, [], ◌∷◌, ◌++◌, length, take, Option, None, Some, Ok, ap, sym, ◌∙◌, subst, inl, inr, arith, length-append}
use Rattle.std.proofs.lemmas.Bool.{cases_lt}
use Rattle.std.proofs.lemmas.List.{take-append-le, take_all}
use Rattle.oftp_register.specs.declared.change.Change.{Change}
use Rattle.oftp_register.specs.Register.{Register}
use Rattle.oftp_register.specs.Changes.{apply_all}
use Rattle.oftp_register.proofs.NumberLemmas.{one_result}
use Rattle.oftp_engine.specs.Runs.{with_change}

module _ (Holds : Register → Type 0) (start : Register) where
  abbrev pub AfterEach : List Change → Type 0
  AfterEach changes = (n : ℕ) (s : Register) → n ≤ length changes → apply_all start (take n changes) ≡ Ok s → Holds s

  -- it holds after all of them
  pub after_all : (changes : List Change) (now : Register) → apply_all start changes ≡ Ok now → AfterEach changes → Holds now
  after_all changes now replay each =
      let all = take_all (length changes) changes (omega arith) in
      each (length changes) now (omega arith) (ap (apply_all start) all ∙ replay)

  -- one more change is made, after which it holds
  pub after_more : (list : List Change) (change : Option Change) (now : Register) → apply_all start (with_change list change) ≡ Ok now → Holds now → AfterEach list
      → (n : ℕ) (s : Register) → n ≤ length (with_change list change) → apply_all start (take n (with_change list change)) ≡ Ok s → Holds s
  after_more list None now replay so before n s within made = before n s within made
  after_more list (Some change) now replay so before n s within made = elim (cases_lt (length list) n) [
    | inl over ↦ (
        let longer = list ++ change ∷ [] in
        let all : take n longer ≡ longer = take_all n longer (omega (arith, over, length-append list (change ∷ []))) in
        subst Holds (one_result (apply_all start longer) now s replay (ap (apply_all start) (sym all) ∙ made)) so)
    | inr under ↦ before n s under (ap (apply_all start) (sym (take-append-le n list (change ∷ []) under)) ∙ made)
  ]
