-- Whether there is a file of an identity, and else the number of a new one.
use Rattle.std.proofs.Common.{◌≡◌, ◌+◌, ℕ, Bool, true, false, cond, nat_le, is_some, Option, Some, None, refl, sym, ap, ◌∙◌}
use Rattle.oftp_vfile.specs.declared.limits.Limits.{Limits}
use Rattle.oftp_register.specs.declared.entry.Identity.{Identity}
use Rattle.oftp_register.specs.declared.entries.OutgoingEntry.{OutgoingEntry}
use Rattle.oftp_register.specs.declared.entries.Side.{Side}
use Rattle.oftp_register.specs.declared.entries.Side.TheVariants as side
use Rattle.oftp_register.specs.Register.{Register, Outgoing, same_identity}
use Rattle.oftp_register.specs.Changes.{is_outgoing}
use Rattle.oftp_register.specs.LookUps.{outgoing_entry}
use Rattle.oftp_store.specs.Numbers.{entries_in, file_number, table_of}
use Rattle.oftp_store.specs.Allocations.{IsAllocationOf, allocation_after, allocation_of}
use Rattle.oftp_store.specs.declared.queries.allocation.Allocation.{Allocation}
use Rattle.oftp_store.specs.declared.queries.allocation.Allocation.TheVariants as allocation
use Rattle.oftp_store.proofs.FirstLemmas.{any_wanted, first_wanted}

-- ---- what the look-ups return

pub existing_told : (r : Register) (which : Side) (it : Identity) (n : ℕ) → Some n ≡ file_number r which it → IsAllocationOf r which it (allocation.Existing n)
existing_told r which it n some = ap (allocation_of r.limits (entries_in r (table_of which))) some

pub new_told : (r : Register) (which : Side) (it : Identity) (limits : Limits) (last : ℕ) (found : Allocation) → r.limits ≡ limits → None ≡ file_number r which it
    → last ≡ entries_in r (table_of which) → found ≡ allocation_after limits last
    → IsAllocationOf r which it found
new_told r which it limits last found same none counted is =
    is ∙ ap (λ l. allocation_after l last) (sym same) ∙ ap (allocation_after r.limits) counted ∙ ap (allocation_of r.limits (entries_in r (table_of which))) none

-- ---- what an allocation returns

pub existing_is : (limits : Limits) (count n : ℕ) (o : Option ℕ) → allocation.Existing n ≡ allocation_of limits count o → o ≡ Some n
existing_is limits count n (Some m) is = let same : n ≡ m = cc in ap Some (sym same)
existing_is limits count n None is = absurd (go (nat_le limits.files count) is)
  where
    go : (b : Bool) → allocation.Existing n ≡ cond b allocation.Full (allocation.New (count + 1)) → ⊥
    go true e = let no_such = e in cc
    go false e = let no_such = e in cc

pub new_is : (limits : Limits) (count n : ℕ) (o : Option ℕ) → allocation.New n ≡ allocation_of limits count o → (o ≡ None) × (nat_le limits.files count ≡ false) × (n ≡ count + 1)
new_is limits count n (Some m) is = absurd (let no_such = is in cc)
new_is limits count n None is = let parts = go (nat_le limits.files count) refl is in (refl, parts.0, parts.1)
  where
    go : (b : Bool) → nat_le limits.files count ≡ b → allocation.New n ≡ cond b allocation.Full (allocation.New (count + 1)) → (nat_le limits.files count ≡ false) × (n ≡ count + 1)
    go true e is = absurd (let no_such = is in cc)
    go false e is = let same : n ≡ count + 1 = cc in (e, same)

pub full_is : (limits : Limits) (count : ℕ) (o : Option ℕ) → allocation.Full ≡ allocation_of limits count o → (o ≡ None) × (nat_le limits.files count ≡ true)
full_is limits count (Some m) is = absurd (let no_such = is in cc)
full_is limits count None is = (refl, go (nat_le limits.files count) refl is)
  where
    go : (b : Bool) → nat_le limits.files count ≡ b → allocation.Full ≡ cond b allocation.Full (allocation.New (count + 1)) → nat_le limits.files count ≡ true
    go true e is = e
    go false e is = absurd (let no_such = is in cc)

-- ---- an outgoing file of an identity

pub known_out : (r : Register) (it : Identity) → is_some (file_number r side.Outgoing it) ≡ is_outgoing r it
known_out r it =
    ap is_some (sym (first_wanted outgoing_entry (λ (e : OutgoingEntry). e.no) (λ n x. refl) (λ (e : OutgoingEntry). same_identity e.identity it) (λ n (f : Outgoing). same_identity f.identity it)
    (λ n x. refl) 1 r.outgoing))
    ∙ any_wanted (λ (f : Outgoing). same_identity f.identity it) 1 r.outgoing
