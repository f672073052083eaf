-- What an office does in several look-ups.
use Rattle.std.proofs.Common.{◌≡◌, ℕ, Result, Ok, Err, IfErr, IfOk, inl, inr, sym, subst, ◌∙◌, arith, ◌⊎◌}
use Rattle.oftp_register.specs.Register.{Register}
use Rattle.oftp_register.specs.Offices.{View, LooksUp, Only, next_count}
use Rattle.oftp_register.specs.declared.office.OfficeFault.{OfficeFault}
use Rattle.oftp_register.specs.declared.office.OfficeFault.TheVariants.{Store, Memory, Refused}
use Rattle.oftp_listing.specs.declared.fault.ListFault.{ListFault}
use Rattle.oftp_listing.specs.declared.fault.ListFault.TheVariants as fault
use Rattle.oftp_listing.specs.Finding.{CountsFault, Finds}
use Rattle.oftp_listing.specs.Texts.{Asks}

-- an error that was returned is counted
pub next_differs : (n : ℕ) → next_count n ≡ n → ⊥
next_differs n e = omega (arith, e)

-- one look-up
pub asks_once : {T : Type 0} {Tells : Register → T → Type 0} (old new : View) (result : Result T OfficeFault) → LooksUp Tells old new result → Asks old new
asks_once old new (Ok x) looks = record {
  clean = looks.clean;
  register = looks.register;
  left = looks.left;
  stays = λ same k s. looks.stays k s;
  counts = inl looks.counts;
}
asks_once old new (Err Store) looks = record {
  clean = looks.clean;
  register = looks.register;
  left = looks.left;
  stays = λ same k s. absurd (next_differs old.told (sym looks.counts ∙ same));
  counts = inr looks.counts;
}
asks_once old new (Err Memory) looks = record {
  clean = looks.clean;
  register = looks.register;
  left = looks.left;
  stays = λ same k s. absurd (next_differs old.told (sym looks.counts ∙ same));
  counts = inr looks.counts;
}
asks_once old new (Err (Refused cause)) looks = absurd looks.unrefused

-- one look-up after another, the first without an error
pub asks_on : (old now new : View) → Asks old now → now.told ≡ old.told → Asks now new → Asks old new
asks_on old now new first untold next = record {
  clean = λ k. first.clean (next.clean k);
  register = λ k s is_open.
      let stood = first.stays untold (next.clean k) s in
      next.register k stood is_open ∙ first.register (next.clean k) s (now.opens stood);
  left = λ k s.
      let stood = first.stays untold (next.clean k) s in
      subst (λ r. Only r new) (first.register (next.clean k) s (now.opens stood)) (next.left k stood);
  stays = λ same k s. next.stays (same ∙ sym untold) k (first.stays untold (next.clean k) s);
  counts = subst (λ (n : ℕ). (new.told ≡ n) ⊎ (new.told ≡ next_count n)) untold next.counts;
}

-- what the office returns later is of the register that it had at first
pub told_first : {T : Type 0} {Tells : Register → T → Type 0} (old now new : View) (x : T) → Asks old now → now.told ≡ old.told → LooksUp Tells now new (Ok x)
    → new.clean → old.stands → Tells old.register x
told_first {Tells = Tells} old now new x asks untold looks k s =
    let before = looks.clean k in
    let stood = asks.stays untold before s in
    subst (λ r. Tells r x) (asks.register before s (now.opens stood)) (looks.answer k stood)

-- ---- what is found

-- in one look-up
pub finds_looked : {T : Type 0} {Tells : Register → T → Type 0} (old new : View) (x : T) → LooksUp Tells old new (Ok x) → Finds Tells old new (Ok x)
finds_looked old new x looks = record {
  asks = asks_once old new (Ok x) looks;
  answer = looks.answer;
  counts = looks.counts;
}

-- what is made of what was found, unless memory runs out
pub finds_made : {S T : Type 0} {A : Register → S → Type 0} {B : Register → T → Type 0} (old new : View) (x : S) (result : Result T ListFault) → Finds A old new (Ok x)
    → IfErr result (λ f. f ≡ fault.Memory) → ((r : Register) → A r x → IfOk result (B r)) → Finds B old new result
finds_made old new x (Ok y) found memory made = record {
  asks = found.asks;
  answer = λ k s. made old.register (found.answer k s);
  counts = found.counts;
}
finds_made old new x (Err f) found memory made = record {
  asks = found.asks;
  answer = λ k s. tt;
  counts = subst (CountsFault old.told new.told) (sym memory) found.counts;
}

-- what is made of two results, the second after the first
pub finds_both : {A B C : Type 0} {TellsA : Register → A → Type 0} {TellsB : Register → B → Type 0} (TellsC : Register → C → Type 0) (old now new : View) (a : A) (b : B) (c : C)
    → Finds TellsA old now (Ok a) → Finds TellsB now new (Ok b) → ((r : Register) → TellsA r a → TellsB r b → TellsC r c) → Finds TellsC old new (Ok c)
finds_both {TellsB = TellsB} TellsC old now new a b c first next made = record {
  asks = asks_on old now new first.asks first.counts next.asks;
  answer = λ k s.
      let before = next.asks.clean k in
      let stood = first.asks.stays first.counts before s in
      made old.register (first.answer before s) (subst (λ r. TellsB r b) (first.asks.register before s (now.opens stood)) (next.answer k stood));
  counts = next.counts ∙ first.counts;
}
