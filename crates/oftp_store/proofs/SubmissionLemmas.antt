-- What a submission does to a register.
use Rattle.std.proofs.Common.{◌≡◌, ◌+◌, ℕ, List, [], ◌∷◌, ◌++◌, length, is_some, Err, refl, sym, ap, ◌∙◌, arith, Bor}
use Rattle.std.proofs.lemmas.Bool.{cond-true, cond-false}
use Rattle.oftp_register.specs.declared.change.Cause.TheVariants.{Duplicate, Full}
use Rattle.oftp_register.specs.declared.entries.Side.TheVariants as side
use Rattle.oftp_register.specs.Register.{Register}
use Rattle.oftp_register.specs.Changes.{apply, is_outgoing}
use Rattle.oftp_store.specs.Edits.{outgoing_with, submit_of}
use Rattle.oftp_store.specs.Numbers.{file_number}
use Rattle.oftp_store.specs.Allocations.{IsAllocationOf}
use Rattle.oftp_store.specs.declared.changes.edit.Edit.{Edit}
use Rattle.oftp_store.specs.declared.changes.edit.EditKind.TheVariants.{AddFile, AddRows}
use Rattle.oftp_store.specs.declared.changes.edit.NewHeader.{NewHeader}
use Rattle.oftp_store.specs.declared.queries.allocation.Allocation.{Allocation}
use Rattle.oftp_store.specs.declared.queries.allocation.Allocation.TheVariants as allocation
use Rattle.oftp_store.proofs.CommitLemmas.{IsMadeBy}
use Rattle.oftp_store.proofs.AllocationLemmas.{new_is, full_is, known_out, existing_is}

-- what is known of the outgoing file of a header's identity
abbrev pub IsOutgoingAllocation : Register → NewHeader → Allocation → Type 0
IsOutgoingAllocation r header found = IsAllocationOf r side.Outgoing header.identity.now found

pub duplicate_submit : (r : Register) (header : NewHeader) (rows : List (List ℕ)) (n : ℕ) → IsOutgoingAllocation r header (allocation.Existing n) → apply r (submit_of header rows) ≡ Err Duplicate
unfolding apply
duplicate_submit r header rows n taken =
    let it = header.identity.now in
    cond-true (is_outgoing r it) _ _ (sym (known_out r it) ∙ ap is_some (existing_is r.limits (length r.outgoing) n (file_number r side.Outgoing it) taken))

pub full_submit : (r : Register) (header : NewHeader) (rows : List (List ℕ)) → IsOutgoingAllocation r header allocation.Full → apply r (submit_of header rows) ≡ Err Full
unfolding apply
full_submit r header rows full =
    let it = header.identity.now in
    let is = full_is r.limits (length r.outgoing) (file_number r side.Outgoing it) full in
    cond-false (is_outgoing r it) _ _ (sym (known_out r it) ∙ ap is_some is.0) ∙ cond-true _ _ _ is.1

-- the edits of a submission: the header, and all rows
abbrev pub submit_edits : ℕ → Bor NewHeader → Bor (List (List ℕ)) → List Edit
submit_edits n header rows = (record { no = n; kind = AddFile side.Outgoing header }) ∷ (record { no = n; kind = AddRows side.Outgoing 0 rows }) ∷ []

pub made_by_submit : (r : Register) (header : Bor NewHeader) (rows : Bor (List (List ℕ))) (n : ℕ) → IsOutgoingAllocation r header.now (allocation.New n)
    → IsMadeBy (submit_edits n header rows) r (submit_of header.now rows.now)
unfolding apply
made_by_submit r header rows n free =
    let it = header.now.identity.now in
    let is = new_is r.limits (length r.outgoing) n (file_number r side.Outgoing it) free in
    let f = outgoing_with header.now [] in
    let mid : Register = record r { outgoing = r.outgoing ++ f ∷ [] } in
    let s : Register = record r { outgoing = r.outgoing ++ (record f { rows = rows.now }) ∷ [] } in
    let number : n ≡ 1 + length r.outgoing = omega (arith, is.2) in
    record {
      now = s;
      is = cond-false (is_outgoing r it) _ _ (sym (known_out r it) ∙ ap is_some is.0) ∙ cond-false _ _ _ is.1;
      limits = refl;
      edited = (
        mid,
        (record { number = number }, refl),
        (s, record { before = r.outgoing; file = f; after = []; here = refl; number = number; was = refl; now = refl }, refl),
      );
    }
