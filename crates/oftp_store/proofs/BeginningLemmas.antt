-- What a start does to a register.
use Rattle.std.proofs.Common.{◌≡◌, ◌+◌, ◌<◌, ◌≤◌, ℕ, suc, true, false, nat_le, nat_lt, List, [], ◌∷◌, ◌++◌, length, take, set, Some, None, Result, Ok, Err, inl, inr, refl, sym, ap, ◌∙◌, arith, Bor}
use Rattle.std.proofs.lemmas.Bool.{cond-true, cond-false}
use Rattle.std.proofs.lemmas.Bool.Decides.{nat_tests}
use Rattle.std.proofs.Math.Seq.{set-append_seam}
use Rattle.std.specs.Option.{option_map}
use Rattle.oftp_register.specs.declared.change.Cause.{Cause}
use Rattle.oftp_register.specs.declared.change.Cause.TheVariants.{Full, State as Unfit}
use Rattle.oftp_register.specs.declared.entry.Identity.{Identity}
use Rattle.oftp_register.specs.declared.entry.IncomingState.{IncomingState}
use Rattle.oftp_register.specs.declared.entry.IncomingState.TheVariants.{Open, Whole}
use Rattle.oftp_register.specs.declared.entries.IncomingEntry.{IncomingEntry}
use Rattle.oftp_register.specs.declared.entries.Side.TheVariants as side
use Rattle.oftp_register.specs.Register.{Register, Incoming}
use Rattle.oftp_register.specs.Changes.{apply, begun, gone_on, mapped, started}
use Rattle.oftp_register.specs.LookUps.{entry_at}
use Rattle.oftp_register.proofs.NameLemmas.{same_identity-true}
use Rattle.oftp_register.proofs.StartLemmas.{IsNew, StandsAt, where_is}
use Rattle.oftp_store.specs.Numbers.{file_number}
use Rattle.oftp_store.specs.Reads.{IsPlaced}
use Rattle.oftp_store.specs.Allocations.{IsIncomingAllocationOf, goes_on, goes_on_in}
use Rattle.oftp_store.specs.Edits.{incoming_with, start_of}
use Rattle.oftp_store.specs.declared.changes.edit.Edit.{Edit}
use Rattle.oftp_store.specs.declared.changes.edit.EditKind.TheVariants.{AddFile, CutRows, SetHeader}
use Rattle.oftp_store.specs.declared.changes.edit.NewHeader.{NewHeader}
use Rattle.oftp_store.specs.declared.queries.progress.IncomingProgress.{IncomingProgress}
use Rattle.oftp_store.specs.declared.queries.allocation.IncomingAllocation.{IncomingAllocation}
use Rattle.oftp_store.specs.declared.queries.allocation.IncomingAllocation.TheVariants as incoming_allocation
use Rattle.oftp_store.proofs.CommitLemmas.{IsMadeBy}
use Rattle.oftp_store.proofs.NumberLemmas.{entry_placed}
use Rattle.oftp_store.proofs.AllocationLemmas.{new_is, full_is}

-- ---- the file of an identity

is_new : (r : Register) (it : Identity) → file_number r side.Incoming it ≡ None → IsNew r it 1 r.incoming
is_new r it none = elim (where_is r it 1 r.incoming) [
  | inl k ↦ absurd (let no_such = sym none ∙ ap (option_map (λ (e : IncomingEntry). e.no)) k.look in cc)
  | inr k ↦ k
]

is_there : (r : Register) (it : Identity) (n : ℕ) → file_number r side.Incoming it ≡ Some n → (k : StandsAt r it 1 r.incoming) × (n ≡ 1 + k.place)
is_there r it n some = elim (where_is r it 1 r.incoming) [
  | inl k ↦ (let both : Some n ≡ Some (1 + k.place) = sym some ∙ ap (option_map (λ (e : IncomingEntry). e.no)) k.look in let same : n ≡ 1 + k.place = cc in (k, same))
  | inr k ↦ absurd (let no_such = sym some ∙ ap (option_map (λ (e : IncomingEntry). e.no)) k.look in cc)
]

-- the register with other incoming files
abbrev with_files : Register → List Incoming → Register
with_files r files = record r { incoming = files }

-- ---- a file that is new

module _ (r : Register) (header : Incoming) (count : ℕ) (none : file_number r side.Incoming header.identity ≡ None) where
  starts_new : started r header count ≡ mapped (with_files r) (mapped (λ y. r.incoming ++ y ∷ []) (begun r header count))
  starts_new = ap (mapped (with_files r)) ((is_new r header.identity none).starts header count refl)

  later : nat_lt 0 count ≡ true → started r header count ≡ Err Unfit
  later above = starts_new ∙ ap (λ (x : Result Incoming Cause). mapped (with_files r) (mapped (λ y. r.incoming ++ y ∷ []) x)) (cond-true (nat_lt 0 count) _ _ above)

  no_room : nat_lt 0 count ≡ false → nat_le r.limits.files (length r.incoming) ≡ true → started r header count ≡ Err Full
  no_room first full =
      starts_new ∙ ap (λ (x : Result Incoming Cause). mapped (with_files r) (mapped (λ y. r.incoming ++ y ∷ []) x)) (cond-false (nat_lt 0 count) _ _ first ∙ cond-true _ _ _ full)

  begins : nat_lt 0 count ≡ false → nat_le r.limits.files (length r.incoming) ≡ false → started r header count ≡ Ok (record r { incoming = r.incoming ++ header ∷ [] })
  begins first room =
      starts_new ∙ ap (λ (x : Result Incoming Cause). mapped (with_files r) (mapped (λ y. r.incoming ++ y ∷ []) x)) (cond-false (nat_lt 0 count) _ _ first ∙ cond-false _ _ _ room)

above_first : (count : ℕ) → 0 < count → nat_lt 0 count ≡ true
above_first count h = grind (arith, nat_tests, h)

at_first : (count : ℕ) → count ≤ 0 → nat_lt 0 count ≡ false
at_first count h = grind (arith, nat_tests, h)

-- what is known of the incoming file of a header's identity
abbrev pub IsKnown : Register → NewHeader → IncomingAllocation → Type 0
IsKnown r header found = IsIncomingAllocationOf r header.identity.now found

pub late_start : (r : Register) (header : NewHeader) (count n : ℕ) → IsKnown r header (incoming_allocation.New n) → 0 < count → apply r (start_of header count) ≡ Err Unfit
unfolding apply
late_start r header count n free above =
    later r (incoming_with header) count (new_is r.limits (length r.incoming) n (file_number r side.Incoming header.identity.now) free).0 (above_first count above)

pub late_start_full : (r : Register) (header : NewHeader) (count : ℕ) → IsKnown r header incoming_allocation.Full → 0 < count → apply r (start_of header count) ≡ Err Unfit
unfolding apply
late_start_full r header count full above =
    later r (incoming_with header) count (full_is r.limits (length r.incoming) (file_number r side.Incoming header.identity.now) full).0 (above_first count above)

pub full_start : (r : Register) (header : NewHeader) (count : ℕ) → IsKnown r header incoming_allocation.Full → count ≤ 0 → apply r (start_of header count) ≡ Err Full
unfolding apply
full_start r header count full first =
    let is = full_is r.limits (length r.incoming) (file_number r side.Incoming header.identity.now) full in
    no_room r (incoming_with header) count is.0 (at_first count first) is.1

-- the edit of a start: a file without rows
abbrev pub begin_edits : ℕ → Bor NewHeader → List Edit
begin_edits n header = (record { no = n; kind = AddFile side.Incoming header }) ∷ []

pub made_by_begin : (r : Register) (header : Bor NewHeader) (count n : ℕ) → IsKnown r header.now (incoming_allocation.New n) → count ≤ 0
    → IsMadeBy (begin_edits n header) r (start_of header.now count)
unfolding apply
made_by_begin r header count n free first =
    let is = new_is r.limits (length r.incoming) n (file_number r side.Incoming header.now.identity.now) free in
    let f = incoming_with header.now in
    let s : Register = record r { incoming = r.incoming ++ f ∷ [] } in
    record {
      now = s;
      is = begins r f count is.0 (at_first count first) is.1;
      limits = refl;
      edited = (s, (record { number = omega (arith, is.2) }, refl), refl);
    }

-- ---- a file that is here

-- the file that a start names, with its number and its place
record Here (r : Register) (header : Incoming) (count n : ℕ) (before : List Incoming) (f : Incoming) (after : List Incoming) : Type 0 where
  same : f.identity ≡ header.identity
  starts : started r header count ≡ mapped (with_files r) (mapped (λ y. before ++ y ∷ after) (gone_on header count f f.state))

here : (r : Register) (header : Incoming) (count n : ℕ) (before : List Incoming) (f : Incoming) (after : List Incoming) → file_number r side.Incoming header.identity ≡ Some n
    → IsPlaced r.incoming n before f after
    → Here r header count n before f after
here r header count n before f after some placed =
    let found = is_there r header.identity n some in
    let k = found.0 in
    let at : k.place ≡ length before = omega (arith, found.1, placed.number) in
    let number : n ≡ suc k.place = omega (arith, found.1) in
    let entry : Some k.file ≡ Some f = sym k.at ∙ ap (λ m. entry_at m r.incoming) (sym number) ∙ entry_placed n r.incoming before f after placed in
    let same : k.file ≡ f = cc in
    record {
      same = ap (λ (g : Incoming). g.identity) (sym same) ∙ same_identity-true k.file.identity header.identity k.same;
      starts = ap (mapped (with_files r)) (
          k.starts header count refl
          ∙ ap (λ g. mapped (λ y. set r.incoming k.place y) (gone_on header count g g.state)) same
          ∙ ap (λ p. mapped (λ y. set r.incoming p y) (gone_on header count f f.state)) at
          ∙ ap (λ xs. mapped (λ y. set xs (length before) y) (gone_on header count f f.state)) placed.here
          ∙ moved (gone_on header count f f.state));
    }
  where
    moved : (x : Result Incoming Cause) → mapped (λ y. set (before ++ f ∷ after) (length before) y) x ≡ mapped (λ y. before ++ y ∷ after) x
    moved (Ok y) = ap Ok (set-append_seam before f after y)
    moved (Err cause) = refl

not_more : (rows count : ℕ) → nat_le count rows ≡ true → nat_lt rows count ≡ false
not_more rows count h = grind (arith, nat_tests, h)

more : (rows count : ℕ) → nat_le count rows ≡ false → nat_lt rows count ≡ true
more rows count h = grind (arith, nat_tests, h)

-- a file in a state, with this many rows, goes on or doesn't

stays_off : (header : Incoming) (count : ℕ) (f : Incoming) (state : IncomingState) → goes_on_in state (length f.rows) count ≡ false → gone_on header count f state ≡ Err Unfit
stays_off header count f Open h = cond-true (nat_lt (length f.rows) count) _ _ (more (length f.rows) count h)
stays_off header count f Whole h = refl

moves_on : (header : Incoming) (count : ℕ) (f : Incoming) (state : IncomingState) → goes_on_in state (length f.rows) count ≡ true
    → (state ≡ Open) × (gone_on header count f state ≡ Ok (record header { rows = take count f.rows; response = f.response }))
moves_on header count f Open h = (refl, cond-false (nat_lt (length f.rows) count) _ _ (not_more (length f.rows) count h))
moves_on header count f Whole h = absurd (let no_such = h in cc)

pub unfit_start : (r : Register) (header : NewHeader) (count n : ℕ) (progress : IncomingProgress) → IsKnown r header (incoming_allocation.Known n progress) → goes_on progress count ≡ false
    → apply r (start_of header count) ≡ Err Unfit
unfolding apply
unfit_start r header count n progress (some, (before, f, after, placed, is)) off =
    let began = incoming_with header in
    (here r began count n before f after some placed).starts
    ∙ ap (λ (x : Result Incoming Cause). mapped (with_files r) (mapped (λ y. before ++ y ∷ after) x)) (stays_off began count f f.state (sym (ap (λ (p : IncomingProgress). goes_on p count) is) ∙ off))

-- the edits of a file that goes on: another header, and no rows but the first
abbrev pub go_on_edits : ℕ → Bor NewHeader → ℕ → List Edit
go_on_edits n header count = (record { no = n; kind = SetHeader header }) ∷ (record { no = n; kind = CutRows count }) ∷ []

pub made_by_go_on : (r : Register) (header : Bor NewHeader) (count n : ℕ) (progress : IncomingProgress) → IsKnown r header.now (incoming_allocation.Known n progress)
    → goes_on progress count ≡ true → IsMadeBy (go_on_edits n header count) r (start_of header.now count)
unfolding apply
made_by_go_on r header count n progress (some, (before, f, after, placed, is)) on =
    let began = incoming_with header.now in
    let h = here r began count n before f after some placed in
    let goes = moves_on began count f f.state (sym (ap (λ (p : IncomingProgress). goes_on p count) is) ∙ on) in
    let g : Incoming = record f { format = header.now.format; longest = header.now.longest; description = header.now.description.now } in
    let mid : Register = record r { incoming = before ++ g ∷ after } in
    let last : Incoming = record g { rows = take count f.rows } in
    let s : Register = record r { incoming = before ++ last ∷ after } in
    let as_made : Incoming = record began { rows = take count f.rows; response = f.response } in
    let same : as_made ≡ last =
    ap (λ i. let x : Incoming = record as_made { identity = i } in x) (sym h.same) ∙ ap (λ st. let x : Incoming = record as_made { identity = f.identity; state = st } in x) (sym goes.0) in
    record {
      now = s;
      is =
          h.starts
          ∙ ap (λ (x : Result Incoming Cause). mapped (with_files r) (mapped (λ y. before ++ y ∷ after) x)) goes.1
          ∙ ap (λ (x : Incoming). let q : Register = record r { incoming = before ++ x ∷ after } in Ok q) same;
      limits = refl;
      edited = (
        mid,
        record { before = before; file = f; after = after; here = placed.here; number = placed.number; was = tt; now = refl },
        (s, record { before = before; file = g; after = after; here = refl; number = placed.number; was = tt; now = refl }, refl),
      );
    }
