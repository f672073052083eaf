-- What the changes of one file by its number do to a register.
use Rattle.std.proofs.Common.{◌≡◌, ◌≤◌, ◌+◌, ◌&&◌, ◌||◌, ℕ, zero, suc, nat_le, Bor, Bool, true, false, cond, List, [], ◌∷◌, ◌++◌, length, Option, Some, None, Result, Ok, Err, refl, sym, ap, subst, ◌∙◌, arith}
use Rattle.std.specs.Option.{option_map}
use Rattle.oftp_register.specs.declared.change.Cause.{Cause}
use Rattle.oftp_register.specs.declared.change.Cause.TheVariants.{Unknown, State as Unfit}
use Rattle.oftp_register.specs.declared.change.Change.{Change}
use Rattle.oftp_register.specs.declared.change.Change.TheVariants as change
use Rattle.oftp_register.specs.declared.entries.Side.TheVariants as side
use Rattle.oftp_register.specs.declared.entry.Dispatch.{Dispatch}
use Rattle.oftp_register.specs.declared.entry.Dispatch.TheVariants.{Due, Sent}
use Rattle.oftp_register.specs.declared.entry.IncomingState.{IncomingState}
use Rattle.oftp_register.specs.declared.entry.IncomingState.TheVariants.{Open, Whole}
use Rattle.oftp_register.specs.declared.entry.OutgoingState.{OutgoingState}
use Rattle.oftp_register.specs.declared.entry.OutgoingState.TheVariants.{Closing, Handed, Refused, Waiting}
use Rattle.oftp_register.specs.Register.{Register, Incoming, Issued, Outgoing}
use Rattle.oftp_register.specs.Changes.{apply, at_number, closed, closing, given_up, handed, if_open, if_unanswered, is_closing, is_waiting, issued, issued_on, kept, mapped, marked, on_incoming, on_outgoing, refused, reopened, sent, sent_as, sent_of}
use Rattle.oftp_register.specs.LookUps.{entry_at}
use Rattle.oftp_tables.proofs.SpotLemmas.{Spot, changed_past, changed_there, past, spot, there, zeroth}
use Rattle.oftp_store.specs.Edits.{AreEdited, IsDone, issue_of, issued_with, more, outgoing_edit}
use Rattle.oftp_store.specs.FileProgress.{dispatch_of, incoming_progress_of, incoming_told, is_answerable, is_answerable_in, is_due_response, is_open, is_open_file, is_sendable, is_unanswered, outgoing_progress_of, outgoing_told, response_progress_of, response_told}
use Rattle.oftp_store.specs.Reads.{IsPlaced, IsToldOf}
use Rattle.oftp_store.specs.declared.changes.edit.Edit.{Edit}
use Rattle.oftp_store.specs.declared.changes.edit.EditKind.{EditKind}
use Rattle.oftp_store.specs.declared.changes.edit.EditKind.TheVariants.{AddIssued, AddRows, CutRows, SetSent, SetWhole}
use Rattle.oftp_store.specs.declared.changes.edit.NewIssued.{NewIssued}
use Rattle.oftp_store.specs.declared.queries.progress.OutgoingProgress.{OutgoingProgress}
use Rattle.oftp_store.specs.declared.queries.progress.ResponseProgress.{ResponseProgress}
use Rattle.oftp_store.proofs.CommitLemmas.{IsMadeIf, IsOfFile}
use Rattle.oftp_store.proofs.NumberLemmas.{entry_placed}

-- ---- the entry with a number

pub at_unknown : {A : Type 0} (g : A → Result A Cause) (k : ℕ) (xs : List A) → entry_at k xs ≡ None → at_number g k xs ≡ Err Unknown
at_unknown g k xs none = go (spot k xs)
  where
    beyond : (k : ℕ) → 1 + length xs ≤ k → at_number g k xs ≡ Err Unknown
    beyond zero h = refl
    beyond (suc k) h = changed_past g k xs (omega (arith, h))

    go : Spot k xs → at_number g k xs ≡ Err Unknown
    go (zeroth is) = ap (λ m. at_number g m xs) is
    go (past h) = beyond k h
    go (there before x after here at) = absurd (let no_such = sym none ∙ entry_placed k xs before x after (record { here = here; number = at }) in cc)

pub at_known : {A : Type 0} (g : A → Result A Cause) (k : ℕ) (xs before : List A) (x : A) (after : List A) → IsPlaced xs k before x after → at_number g k xs ≡ mapped (λ y. before ++ y ∷ after) (g x)
at_known g k xs before x after placed =
    let number : k ≡ suc (length before) = omega (arith, placed.number) in
    ap (λ m. at_number g m xs) number ∙ ap (at_number g (suc (length before))) placed.here ∙ changed_there g before x after

-- ---- the changes of one file by its number

-- a change of one file is made by these edits where the file allows it, and refused otherwise
record IsMadeOf {X : Type 0} (with_entries : Register → List X → Register) (g : X → Result X Cause) (allowed : Bool) (edits : List Edit) (r : Register) (before : List X) (f : X)
    (after : List X) : Type 0 where
  now : X
  is : g f ≡ cond allowed (Ok now) (Err Unfit)
  edited : allowed ≡ true → AreEdited edits r (with_entries r (before ++ now ∷ after))

-- so this is the change of the register
module _ {X A : Type 0} (entries : Register → List X) (with_entries : Register → List X → Register) (same : (r : Register) (xs : List X) → (with_entries r xs).limits ≡ r.limits)
    (tells : X → A) (g : X → Result X Cause) (fits : A → Bool) (edits : A → List Edit) (n : ℕ) (k : Change)
    (applies : (r : Register) → apply r k ≡ mapped (with_entries r) (at_number g n (entries r)))
    (makes : (r : Register) (before : List X) (f : X) (after : List X) → IsPlaced (entries r) n before f after
    → IsMadeOf with_entries g (fits (tells f)) (edits (tells f)) r before f after) where
  made_there : (r : Register) (before : List X) (f : X) (after : List X) (out : Result X Cause) → IsPlaced (entries r) n before f after → g f ≡ out
      → apply r k ≡ mapped (with_entries r) (mapped (λ y. before ++ y ∷ after) out)
  made_there r before f after out placed is =
      applies r ∙ ap (mapped (with_entries r)) (at_known g n (entries r) before f after placed ∙ ap (mapped (λ y. before ++ y ∷ after)) is)

  made_in : (r : Register) (before : List X) (f : X) (after : List X) → IsPlaced (entries r) n before f after → (allowed : Bool) (edits : List Edit)
      → IsMadeOf with_entries g allowed edits r before f after → IsMadeIf allowed edits r k
  made_in r before f after placed true edits made =
      let now : Register = with_entries r (before ++ made.now ∷ after) in
      record { now = now; is = made_there r before f after (Ok made.now) placed made.is; limits = same r _; edited = made.edited }
  made_in r before f after placed false edits made =
      let now : Register = with_entries r (before ++ made.now ∷ after) in
      record { now = now; is = made_there r before f after (Err Unfit) placed made.is; limits = same r _; edited = made.edited }

  known_in : (r : Register) (file : A) → IsToldOf tells (entries r) n (Some file) → IsMadeIf (fits file) (edits file) r k
  known_in r file (before, f, after, placed, told) =
      subst (λ (file : A). IsMadeIf (fits file) (edits file) r k) (sym told)
      (made_in r before f after placed (fits (tells f)) (edits (tells f)) (makes r before f after placed))

  is_of_file : IsOfFile (λ r n found. IsToldOf tells (entries r) n found) fits edits n k
  is_of_file = record { unknown = λ r sound none. applies r ∙ ap (mapped (with_entries r)) (at_unknown g n (entries r) none); known = λ r file sound. known_in r file }

-- ---- the changes of an incoming file

abbrev with_incoming : Register → List Incoming → Register
with_incoming r files = record r { incoming = files }

is_of_incoming : {A : Type 0} (tells : Incoming → A) (g : Incoming → Result Incoming Cause) (fits : A → Bool) (edits : A → List Edit) (n : ℕ) (k : Change)
    → ((r : Register) → apply r k ≡ on_incoming g n r)
    → ((r : Register) (before : List Incoming) (f : Incoming) (after : List Incoming) → IsPlaced r.incoming n before f after
    → IsMadeOf with_incoming g (fits (tells f)) (edits (tells f)) r before f after)
    → IsOfFile (λ r n found. IsToldOf tells r.incoming n found) fits edits n k
is_of_incoming tells g fits edits n k applies makes = is_of_file (λ r. r.incoming) with_incoming (λ r files. refl) tells g fits edits n k applies makes

-- an open file is still incomplete

open_or_not : (f : Incoming) (rows : List (List ℕ)) (to state : IncomingState) → if_open f rows to state ≡ cond (is_open state) (Ok (record f { rows = rows; state = to })) (Err Unfit)
open_or_not f rows to Open = refl
open_or_not f rows to Whole = refl

open_is : (state : IncomingState) → is_open state ≡ true → state ≡ Open
open_is Open h = refl
open_is Whole h = absurd (let no_such = h in cc)

-- other rows in the progress of a file, in the same state
rows_edited : (r : Register) (n : ℕ) (kind : EditKind) (rows : List (List ℕ)) (before : List Incoming) (f : Incoming) (after : List Incoming) → f.state ≡ Open
    → IsDone n kind r (record r { incoming = before ++ (record f { rows = rows }) ∷ after })
    → (let edit : Edit = record { no = n; kind = kind } in AreEdited (edit ∷ []) r (record r { incoming = before ++ (record f { rows = rows; state = Open }) ∷ after }))
rows_edited r n kind rows before f after is_open done =
    (_, done, ap (λ st. let q : Register = record r { incoming = before ++ (record f { rows = rows; state = st }) ∷ after } in q) is_open)

pub keep_is : (n : ℕ) (rows : Bor (List (List ℕ))) → IsOfFile incoming_told is_open_file (λ file. more n file.rows rows ∷ []) n (change.Keep n rows.now)
unfolding apply
keep_is n rows =
    is_of_incoming incoming_progress_of (kept rows.now) is_open_file (λ file. more n file.rows rows ∷ []) n (change.Keep n rows.now) (λ r. refl) (λ r before f after placed.
    let all : List (List ℕ) = f.rows ++ rows.now in
    record {
      now = record f { rows = all; state = Open };
      is = open_or_not f all Open f.state;
      edited = λ h. rows_edited r n (AddRows side.Incoming (length f.rows) rows) all before f after (open_is f.state h)
          (record { before = before; file = f; after = after; here = placed.here; number = placed.number; was = refl; now = refl });
    })

-- the last rows of a file, which is then whole
abbrev pub last_of : ℕ → ℕ → Bor (List (List ℕ)) → List Edit
last_of n from rows = more n from rows ∷ (record { no = n; kind = SetWhole }) ∷ []

pub close_is : (n : ℕ) (rows : Bor (List (List ℕ))) → IsOfFile incoming_told is_open_file (λ file. last_of n file.rows rows) n (change.Close n rows.now)
unfolding apply
close_is n rows =
    is_of_incoming incoming_progress_of (closed rows.now) is_open_file (λ file. last_of n file.rows rows) n (change.Close n rows.now) (λ r. refl) (λ r before f after placed.
    let g : Incoming = record f { rows = f.rows ++ rows.now } in
    record {
      now = record g { state = Whole };
      is = open_or_not f (f.rows ++ rows.now) Whole f.state;
      edited = λ h. (
        record r { incoming = before ++ g ∷ after },
        record { before = before; file = f; after = after; here = placed.here; number = placed.number; was = refl; now = refl },
        (
          record r { incoming = before ++ (record g { state = Whole }) ∷ after },
          record { before = before; file = g; after = after; here = refl; number = placed.number; was = tt; now = refl },
          refl,
        ),
      );
    })

-- all rows of a file are deleted
abbrev pub none_of : ℕ → Edit
none_of n = record { no = n; kind = CutRows 0 }

pub give_up_is : (n : ℕ) → IsOfFile incoming_told is_open_file (λ file. none_of n ∷ []) n (change.GiveUp n)
unfolding apply
give_up_is n =
    is_of_incoming incoming_progress_of given_up is_open_file (λ file. none_of n ∷ []) n (change.GiveUp n) (λ r. refl) (λ r before f after placed. record {
      now = record f { rows = []; state = Open };
      is = open_or_not f [] Open f.state;
      edited = λ h. rows_edited r n (CutRows 0) [] before f after (open_is f.state h)
          (record { before = before; file = f; after = after; here = placed.here; number = placed.number; was = tt; now = refl });
    })

-- ---- the response to an incoming file

-- what is read of the response, in a sound register alone
is_of_answered : (fits : ResponseProgress → Bool) (edits : ResponseProgress → List Edit) (n : ℕ) (k : Change)
    → IsOfFile (λ r n found. IsToldOf response_progress_of r.incoming n found) fits edits n k → IsOfFile response_told fits edits n k
is_of_answered fits edits n k is = record { unknown = λ r sound none. is.unknown r sound (none sound); known = λ r file sound told. is.known r file sound (told sound) }

-- a response is issued
abbrev pub issue_edits : ℕ → Bor NewIssued → ResponseProgress → List Edit
issue_edits n response file = (record { no = n; kind = AddIssued response }) ∷ []

pub issue_is : (n : ℕ) (response : Bor NewIssued) → IsOfFile response_told is_answerable (issue_edits n response) n (issue_of n response.now)
unfolding apply
issue_is n response =
    is_of_answered is_answerable (issue_edits n response) n (issue_of n response.now)
    (is_of_incoming response_progress_of (issued x) is_answerable (issue_edits n response) n (issue_of n response.now) (λ r. refl) (λ r before f after placed. record {
      now = record f { response = Some x };
      is = answers f f.state;
      edited = λ h. (_, record { before = before; file = f; after = after; here = placed.here; number = placed.number; was = unanswered f.state f.response h; now = refl }, refl);
    }))
  where
    x : Issued
    x = issued_with response.now

    whole : (f : Incoming) (o : Option Issued) → if_unanswered x f o ≡ cond (is_unanswered (option_map dispatch_of o)) (Ok (record f { response = Some x })) (Err Unfit)
    whole f None = refl
    whole f (Some other) = refl

    answers : (f : Incoming) (state : IncomingState)
        → issued_on x f state ≡ cond (is_answerable_in state (option_map dispatch_of f.response)) (Ok (record f { response = Some x })) (Err Unfit)
    answers f Open = refl
    answers f Whole = whole f f.response

    unanswered : (state : IncomingState) (o : Option Issued) → is_answerable_in state (option_map dispatch_of o) ≡ true → o ≡ None
    unanswered Open o h = absurd (let no_such = h in cc)
    unanswered Whole None h = refl
    unanswered Whole (Some other) h = absurd (let no_such = h in cc)

-- a response was sent
abbrev pub sent_edit : ℕ → Edit
sent_edit n = record { no = n; kind = SetSent }

pub send_is : (n : ℕ) → IsOfFile response_told is_sendable (λ file. sent_edit n ∷ []) n (change.Send n)
unfolding apply
send_is n =
    is_of_answered is_sendable (λ file. sent_edit n ∷ []) n (change.Send n)
    (is_of_incoming response_progress_of sent is_sendable (λ file. sent_edit n ∷ []) n (change.Send n) (λ r. refl) (λ r before f after placed. record {
      now = record f { response = option_map sent_now f.response };
      is = sends f f.response;
      edited = λ h. let x = issued_is f.response h in (
        _,
        (
          x.0,
          record {
            before = before;
            file = f;
            after = after;
            here = placed.here;
            number = placed.number;
            was = x.1;
            now = ap (λ o. let q : Register = record r { incoming = before ++ (record f { response = option_map sent_now o }) ∷ after } in q) x.1;
          },
        ),
        refl,
      );
    }))
  where
    sent_now : Issued → Issued
    sent_now x = record x { dispatch = Sent }

    dispatched : (f : Incoming) (x : Issued) (d : Dispatch)
        → mapped (λ answer. let g : Incoming = record f { response = Some answer } in g) (sent_as x d) ≡ cond (is_due_response (Some d)) (Ok (record f { response = Some (sent_now x) })) (Err Unfit)
    dispatched f x Due = refl
    dispatched f x Sent = refl

    sends : (f : Incoming) (o : Option Issued) → sent_of f o ≡ cond (is_due_response (option_map dispatch_of o)) (Ok (record f { response = option_map sent_now o })) (Err Unfit)
    sends f None = refl
    sends f (Some x) = dispatched f x x.dispatch

    issued_is : (o : Option Issued) → is_due_response (option_map dispatch_of o) ≡ true → (x : Issued) × (o ≡ Some x)
    issued_is None h = absurd (let no_such = h in cc)
    issued_is (Some x) h = (x, refl)

-- ---- the changes of an outgoing file

abbrev with_outgoing : Register → List Outgoing → Register
with_outgoing r files = record r { outgoing = files }

-- a change that sets mark and state of an outgoing file, where what was read of the file fits
is_of_outgoing : (g : Outgoing → Result Outgoing Cause) (fits : OutgoingProgress → Bool) (mark : OutgoingProgress → ℕ) (to : OutgoingProgress → OutgoingState) (n : ℕ) (k : Change)
    → ((r : Register) → apply r k ≡ on_outgoing g n r)
    → ((f : Outgoing) → (let file = outgoing_progress_of f in g f ≡ cond (fits file) (Ok (record f { mark = mark file; state = to file })) (Err Unfit)))
    → IsOfFile outgoing_told fits (λ file. outgoing_edit n (mark file) (to file) ∷ []) n k
is_of_outgoing g fits mark to n k applies makes =
    is_of_file (λ r. r.outgoing) with_outgoing (λ r files. refl) outgoing_progress_of g fits (λ file. outgoing_edit n (mark file) (to file) ∷ []) n k applies (λ r before f after placed.
    let file = outgoing_progress_of f in
    record {
      now = record f { mark = mark file; state = to file };
      is = makes f;
      edited = λ h. (_, record { before = before; file = f; after = after; here = placed.here; number = placed.number; was = tt; now = refl }, refl);
    })

pub mark_is : (n rows : ℕ) → IsOfFile outgoing_told (λ file. is_waiting file.state && nat_le rows file.rows) (λ file. outgoing_edit n rows file.state ∷ []) n (change.Mark n rows)
unfolding apply
mark_is n rows =
    is_of_outgoing (marked rows) (λ file. is_waiting file.state && nat_le rows file.rows) (λ file. rows) (λ file. file.state) n (change.Mark n rows) (λ r. refl) (λ f. refl)

pub begin_closing_is : (n : ℕ) → IsOfFile outgoing_told (λ file. is_waiting file.state) (λ file. outgoing_edit n file.mark Closing ∷ []) n (change.BeginClosing n)
unfolding apply
begin_closing_is n = is_of_outgoing closing (λ file. is_waiting file.state) (λ file. file.mark) (λ file. Closing) n (change.BeginClosing n) (λ r. refl) (λ f. refl)

pub hand_over_is : (n : ℕ) → IsOfFile outgoing_told (λ file. is_closing file.state) (λ file. outgoing_edit n file.mark Handed ∷ []) n (change.HandOver n)
unfolding apply
hand_over_is n = is_of_outgoing handed (λ file. is_closing file.state) (λ file. file.mark) (λ file. Handed) n (change.HandOver n) (λ r. refl) (λ f. refl)

pub refuse_is : (n reason : ℕ)
    → IsOfFile outgoing_told (λ file. is_waiting file.state || is_closing file.state) (λ file. outgoing_edit n file.mark (Refused reason) ∷ []) n (change.Refuse n reason)
unfolding apply
refuse_is n reason =
    is_of_outgoing (refused reason) (λ file. is_waiting file.state || is_closing file.state) (λ file. file.mark) (λ file. Refused reason) n (change.Refuse n reason) (λ r. refl) (λ f. refl)

pub reopen_is : (n : ℕ) → IsOfFile outgoing_told (λ file. is_closing file.state) (λ file. outgoing_edit n 0 Waiting ∷ []) n (change.Reopen n)
unfolding apply
reopen_is n = is_of_outgoing reopened (λ file. is_closing file.state) (λ file. 0) (λ file. Waiting) n (change.Reopen n) (λ r. refl) (λ f. refl)
