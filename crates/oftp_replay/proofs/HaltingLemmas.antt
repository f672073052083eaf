-- An office that stops at a register does what the office in it does.
use Rattle.std.proofs.Common.{◌≡◌, ℕ, Some, Result, Ok, OnOk, OnErr, sym, subst}
use Rattle.oftp_listing.specs.Texts.{Asks}
use Rattle.oftp_register.specs.Changes.{apply}
use Rattle.oftp_register.specs.Offices.{Commits, Counts, IsRefused, View, WithOrWithout}
use Rattle.oftp_register.specs.Soundness.{IsFit}
use Rattle.oftp_register.specs.declared.change.Change.{Change}
use Rattle.oftp_register.specs.declared.office.OfficeFault.{OfficeFault}
use Rattle.oftp_replay.specs.Halting.{counted}

-- a change behind look-ups that found no error
pub commits_behind : {T : Type 0} (change : Change) (old now new : View) (told told' : ℕ) (result : Result T OfficeFault) → Asks old now → now.told ≡ old.told
    → Commits change now new result → Counts told told' result → Commits change (counted old told) (counted new told') result
commits_behind change old now new told told' result asks untold made counts = record {
  clean = λ k. asks.clean (made.clean k);
  done = λ k s fit.
      subst (λ r. OnOk result ((apply r change ≡ Ok new.register) × new.stands)) (same k s) (made.done k (stood k s) (subst (λ r. IsFit r change) (sym (same k s)) fit));
  refused = λ k s. subst (λ r. IsRefused (apply r change) result new.stands) (same k s) (made.refused k (stood k s));
  same = λ k s. subst (λ r. OnErr result (new.is_open → new.register ≡ r)) (same k s) (made.same k (stood k s));
  left = λ k s fit. subst (λ r. WithOrWithout (Some change) r new) (same k s) (made.left k (stood k s) (subst (λ r. IsFit r change) (sym (same k s)) fit));
  counts = counts;
}
  where
    stood : new.clean → old.stands → now.stands
    stood k s = asks.stays untold (made.clean k) s

    same : (k : new.clean) → (s : old.stands) → now.register ≡ old.register
    same k s = asks.register (made.clean k) s (now.opens (stood k s))
