-- The rows of a file stay as they are once no change alters them.
use Rattle.std.proofs.Common.{◌≡◌, ◌==◌, ℕ, zero, suc, ◌+◌, Bool, true, false, cond, List, [], ◌∷◌, ◌++◌, map, find, slice_get, Option, None, Some, is_some, Result, Ok, refl, ap, sym, ◌∙◌, subst, inl, inr, arith}
use Rattle.std.specs.Option.{option_map, unwrap_or}
use Rattle.std.proofs.lemmas.Bool.{cases_Bool, cond-true, cond-false, eq-eqb, ne_eqb}
use Rattle.std.proofs.lemmas.Option.{slice_get-map}
use Rattle.oftp_register.specs.declared.change.Cause.{Cause}
use Rattle.oftp_register.specs.declared.change.Change.{Change}
use Rattle.oftp_register.specs.declared.change.Change.TheVariants as change
use Rattle.oftp_register.specs.declared.entries.IncomingEntry.{IncomingEntry}
use Rattle.oftp_register.specs.declared.entries.OutgoingEntry.{OutgoingEntry}
use Rattle.oftp_register.specs.declared.entries.Side.{Side}
use Rattle.oftp_register.specs.declared.entries.Side.TheVariants as side
use Rattle.oftp_register.specs.declared.entry.Identity.{Identity}
use Rattle.oftp_register.specs.declared.entry.ResponseKind.{ResponseKind}
use Rattle.oftp_register.specs.declared.entry.Dispatch.TheVariants.{Due}
use Rattle.oftp_register.specs.declared.entry.IncomingState.{IncomingState}
use Rattle.oftp_register.specs.declared.entry.IncomingState.TheVariants.{Open, Whole}
use Rattle.oftp_register.specs.declared.entry.OutgoingState.TheVariants.{Waiting, Closing, Handed, Refused}
use Rattle.oftp_register.specs.Register.{Register, Incoming, Outgoing, Issued, Received, same_identity}
use Rattle.oftp_register.specs.Changes.{answered, apply, at_number, closed, closing, given_up, gone_on, handed, if_allowed, if_open, is_closing, is_waiting, issued, kept, mapped, marked, on_incoming, on_outgoing, refused, reopened, sent, settled, started, started_in}
use Rattle.oftp_register.specs.LookUps.{entry_at, file_rows, in_by_no, incoming_entry, numbered, out_by_no, outgoing_entry}
use Rattle.oftp_register.specs.Verdicts.{is_received, is_whole}
use Rattle.oftp_register.proofs.AdditionLemmas.{filed_ok, submitted_ok}
use Rattle.oftp_register.proofs.IncomingLemmas.{gone_on_ok, if_open_ok, issued_on_ok, sent_of_ok}
use Rattle.oftp_register.proofs.LookUpLemmas.{find-number-none}
use Rattle.oftp_register.proofs.NumberLemmas.{mapped_ok}
use Rattle.oftp_register.proofs.OutgoingLemmas.{allowed_ok}
use Rattle.oftp_listing.specs.Remembering.{has_final_rows}

-- ---- lists whose entries stay at their places

abbrev StaysAt : {A : Type 0} → (A → A → Type 0) → List A → List A → Type 0
StaysAt {A = A} R xs ys = (i : ℕ) (x : A) → slice_get xs i ≡ Some x → (y : A) × (slice_get ys i ≡ Some y) × R x y

stays_self : {A : Type 0} (R : A → A → Type 0) → ((x : A) → R x x) → (xs : List A) → StaysAt R xs xs
stays_self R self xs i x e = (x, e, self x)

-- behind the same first entry
stays_behind : {A : Type 0} (R : A → A → Type 0) (x y : A) (xs ys : List A) → R x y → StaysAt R xs ys → StaysAt R (x ∷ xs) (y ∷ ys)
stays_behind R x y xs ys first rest zero z e = let is : x ≡ z = cc in (y, refl, subst (λ w. R w y) is first)
stays_behind R x y xs ys first rest (suc i) z e = rest i z e

stays_push : {A : Type 0} (R : A → A → Type 0) → ((x : A) → R x x) → (xs : List A) (y : A) → StaysAt R xs (xs ++ y ∷ [])
stays_push R self [] y i x e = absurd (cc)
stays_push R self (z ∷ zs) y i x e = stays_behind R z z zs (zs ++ y ∷ []) (self z) (stays_push R self zs y) i x e

stays_map : {A : Type 0} (R : A → A → Type 0) (g : A → A) → ((x : A) → R x (g x)) → (xs : List A) → StaysAt R xs (map g xs)
stays_map R g step xs i x e = (g x, slice_get-map g xs i ∙ ap (option_map g) e, step x)

-- the entry with a number is changed
stays_changed : {A : Type 0} (R : A → A → Type 0) (f : A → Result A Cause) → ((x : A) → R x x) → ((x y : A) → f x ≡ Ok y → R x y) → (n : ℕ) (xs ys : List A) → at_number f n xs ≡ Ok ys
    → StaysAt R xs ys
stays_changed R f self step zero xs ys h = absurd (cc)
stays_changed R f self step (suc n) [] ys h = absurd (cc)
stays_changed R f self step (suc zero) (z ∷ zs) ys h =
    let part = mapped_ok (λ y. y ∷ zs) (f z) ys h in
    subst (StaysAt R (z ∷ zs)) part.2 (stays_behind R z part.0 zs zs (step z part.0 part.1) (stays_self R self zs))
stays_changed R f self step (suc (suc n)) (z ∷ zs) ys h =
    let part = mapped_ok (λ ws. z ∷ ws) (at_number f (suc n) zs) ys h in
    subst (StaysAt R (z ∷ zs)) part.2 (stays_behind R z z zs part.0 (self z) (stays_changed R f self step (suc n) zs part.0 part.1))

-- ---- what changes leave of files

-- a whole file stays whole, with its rows
abbrev IsStillWhole : Incoming → Incoming → Type 0
IsStillWhole x y = x.state ≡ Whole → (y.state ≡ Whole) × (y.rows ≡ x.rows)

abbrev HasItsRows : Outgoing → Outgoing → Type 0
HasItsRows x y = y.rows ≡ x.rows

record StillHas (r s : Register) : Type 0 where
  incoming : StaysAt IsStillWhole r.incoming s.incoming
  outgoing : StaysAt HasItsRows r.outgoing s.outgoing

same_in : (x : Incoming) → IsStillWhole x x
same_in x whole = (whole, refl)

same_out : (x : Outgoing) → HasItsRows x x
same_out x = refl

was_open : (x y : Incoming) → x.state ≡ Open → IsStillWhole x y
was_open x y is whole = absurd (let no : Open ≡ Whole = sym is ∙ whole in cc)

opened : (x : Incoming) (rows : List (List ℕ)) (next : IncomingState) (y : Incoming) → if_open x rows next x.state ≡ Ok y → IsStillWhole x y
opened x rows next y h = was_open x y (if_open_ok x rows next x.state y h).0

was_issued : (response : Issued) (x y : Incoming) → issued response x ≡ Ok y → IsStillWhole x y
was_issued response x y h whole =
    let made = (issued_on_ok response x x.state y h).1 in
    (ap (λ (f : Incoming). f.state) (sym made) ∙ whole, ap (λ (f : Incoming). f.rows) (sym made))

was_sent : (x y : Incoming) → sent x ≡ Ok y → IsStillWhole x y
was_sent x y h whole =
    let made = (sent_of_ok x x.response y h).3 in
    (ap (λ (f : Incoming). f.state) (sym made) ∙ whole, ap (λ (f : Incoming). f.rows) (sym made))

was_allowed : (allowed : Bool) (x now y : Outgoing) → now.rows ≡ x.rows → if_allowed allowed now ≡ Ok y → HasItsRows x y
was_allowed allowed x now y same h = ap (λ (f : Outgoing). f.rows) (sym (allowed_ok allowed now y h).1) ∙ same

was_settled : (kind : ResponseKind) (identity : Identity) (x : Outgoing) → HasItsRows x (settled kind identity x)
was_settled kind identity x = by (same_identity x.identity identity)
  where
    by : (b : Bool) → let y : Outgoing = cond b (record x { state = answered kind x.state }) x in HasItsRows x y
    by true = refl
    by false = refl

was_started : (r : Register) (header : Incoming) (count : ℕ) (files after : List Incoming) → started_in r header count files ≡ Ok after → StaysAt IsStillWhole files after
was_started r header count [] after h = λ i x e. absurd (cc)
was_started r header count (file ∷ files) after h =
    let same = same_identity file.identity header.identity in
    let going : Result (List Incoming) Cause = mapped (λ f. f ∷ files) (gone_on header count file file.state) in
    let later : Result (List Incoming) Cause = mapped (λ fs. file ∷ fs) (started_in r header count files) in
    elim (cases_Bool same) [
      | inl e ↦
          let part = mapped_ok (λ f. f ∷ files) (gone_on header count file file.state) after (sym (cond-true same going later e) ∙ h) in
          let made = gone_on_ok header count file file.state part.0 part.1 in
          subst (StaysAt IsStillWhole (file ∷ files)) part.2
          (stays_behind IsStillWhole file part.0 files files (was_open file part.0 made.0) (stays_self IsStillWhole same_in files))
      | inr e ↦
          let part = mapped_ok (λ fs. file ∷ fs) (started_in r header count files) after (sym (cond-false same going later e) ∙ h) in
          subst (StaysAt IsStillWhole (file ∷ files)) part.2
          (stays_behind IsStillWhole file file files part.0 (same_in file) (was_started r header count files part.0 part.1))
    ]

in_still : (f : Incoming → Result Incoming Cause) → ((x y : Incoming) → f x ≡ Ok y → IsStillWhole x y) → (n : ℕ) (r s : Register) → on_incoming f n r ≡ Ok s → StillHas r s
in_still f step n r s h =
    let part = mapped_ok (λ files. record r { incoming = files }) (at_number f n r.incoming) s h in
    subst (StillHas r) part.2 (record {
      incoming = stays_changed IsStillWhole f same_in step n r.incoming part.0 part.1;
      outgoing = stays_self HasItsRows same_out r.outgoing;
    })

out_still : (f : Outgoing → Result Outgoing Cause) → ((x y : Outgoing) → f x ≡ Ok y → HasItsRows x y) → (n : ℕ) (r s : Register) → on_outgoing f n r ≡ Ok s → StillHas r s
out_still f step n r s h =
    let part = mapped_ok (λ files. record r { outgoing = files }) (at_number f n r.outgoing) s h in
    subst (StillHas r) part.2 (record {
      incoming = stays_self IsStillWhole same_in r.incoming;
      outgoing = stays_changed HasItsRows f same_out step n r.outgoing part.0 part.1;
    })

start_still : (r s : Register) (header : Incoming) (count : ℕ) → started r header count ≡ Ok s → StillHas r s
start_still r s header count h =
    let part = mapped_ok (λ files. record r { incoming = files }) (started_in r header count r.incoming) s h in
    subst (StillHas r) part.2 (record {
      incoming = was_started r header count r.incoming part.0 part.1;
      outgoing = stays_self HasItsRows same_out r.outgoing;
    })

-- each change
changed_still : (r : Register) (k : Change) (s : Register) → apply r k ≡ Ok s → StillHas r s
unfolding apply
changed_still r (change.Submit identity format longest description rows) s h =
    let file : Outgoing = record { identity = identity; format = format; longest = longest; description = description; rows = rows; mark = 0; state = Waiting } in
    subst (StillHas r) (submitted_ok r s file h).1 (record {
      incoming = stays_self IsStillWhole same_in r.incoming;
      outgoing = stays_push HasItsRows same_out r.outgoing file;
    })
changed_still r (change.Start identity format longest description count) s h =
    start_still r s (record { identity = identity; format = format; longest = longest; description = description; state = Open; rows = []; response = None }) count h
changed_still r (change.Keep n rows) s h = in_still (kept rows) (λ x y d. opened x (x.rows ++ rows) Open y d) n r s h
changed_still r (change.Close n rows) s h = in_still (closed rows) (λ x y d. opened x (x.rows ++ rows) Whole y d) n r s h
changed_still r (change.GiveUp n) s h = in_still given_up (λ x y d. opened x [] Open y d) n r s h
changed_still r (change.File kind identity reason creator text) s h =
    let response : Received = record { kind = kind; identity = identity; reason = reason; creator = creator; text = text } in
    subst (StillHas r) (filed_ok r s response h).1 (record {
      incoming = stays_self IsStillWhole same_in r.incoming;
      outgoing = stays_map HasItsRows (settled kind identity) (was_settled kind identity) r.outgoing;
    })
changed_still r (change.Issue n kind reason text) s h =
    let response : Issued = record { kind = kind; reason = reason; text = text; dispatch = Due } in
    in_still (issued response) (λ x y d. was_issued response x y d) n r s h
changed_still r (change.Mark n rows) s h = out_still (marked rows) (λ x y d. was_allowed _ x (record x { mark = rows }) y refl d) n r s h
changed_still r (change.BeginClosing n) s h = out_still closing (λ x y d. was_allowed (is_waiting x.state) x (record x { state = Closing }) y refl d) n r s h
changed_still r (change.HandOver n) s h = out_still handed (λ x y d. was_allowed (is_closing x.state) x (record x { state = Handed }) y refl d) n r s h
changed_still r (change.Refuse n reason) s h = out_still (refused reason) (λ x y d. was_allowed _ x (record x { state = Refused reason }) y refl d) n r s h
changed_still r (change.Reopen n) s h = out_still reopened (λ x y d. was_allowed (is_closing x.state) x (record x { state = Waiting; mark = 0 }) y refl d) n r s h
changed_still r (change.Send n) s h = in_still sent was_sent n r s h

-- ---- the entry with a number

-- the entry at a place is found by its number
found_at : {A B : Type 0} (entry : ℕ → A → B) (number : B → ℕ) → ((n : ℕ) (x : A) → number (entry n x) ≡ n) → (n : ℕ) (xs : List A) (i : ℕ)
    → find (λ b. number b == (n + i)) (numbered entry n xs) ≡ option_map (entry (n + i)) (slice_get xs i)
found_at entry number same n [] i = refl
found_at entry number same n (x ∷ xs) zero =
    let here : n ≡ n + 0 = omega arith in
    cond-true (number (entry n x) == (n + 0)) _ _ (eq-eqb (number (entry n x)) (n + 0) (same n x ∙ here)) ∙ ap (λ k. Some (entry k x)) here
found_at entry number same n (x ∷ xs) (suc i) =
    let e : n + 1 + i ≡ n + suc i = omega arith in
    cond-false (number (entry n x) == (n + suc i)) _ _ (ne_eqb (number (entry n x)) (n + suc i) (λ h. absurd (omega (arith, same n x, h))))
    ∙ ap (λ k. find (λ b. number b == k) (numbered entry (n + 1) xs)) (sym e)
    ∙ found_at entry number same (n + 1) xs i
    ∙ ap (λ k. option_map (entry k) (slice_get xs i)) e

found_by : {A B : Type 0} (entry : ℕ → A → B) (number : B → ℕ) → ((n : ℕ) (x : A) → number (entry n x) ≡ n) → (n : ℕ) (xs : List A)
    → find (λ b. number b == n) (numbered entry 1 xs) ≡ option_map (entry n) (entry_at n xs)
found_by entry number same zero xs = find-number-none entry number same 1 0 xs (inl (omega arith))
found_by entry number same (suc i) xs =
    let e : 1 + i ≡ suc i = omega arith in
    ap (λ k. find (λ b. number b == k) (numbered entry 1 xs)) (sym e) ∙ found_at entry number same 1 xs i ∙ ap (λ k. option_map (entry k) (slice_get xs i)) e

in_found : (r : Register) (n : ℕ) → in_by_no r n ≡ option_map (incoming_entry n) (entry_at n r.incoming)
in_found r n = found_by incoming_entry (λ (e : IncomingEntry). e.no) (λ n x. refl) n r.incoming

out_found : (r : Register) (n : ℕ) → out_by_no r n ≡ option_map (outgoing_entry n) (entry_at n r.outgoing)
out_found r n = found_by outgoing_entry (λ (e : OutgoingEntry). e.no) (λ n x. refl) n r.outgoing

-- what stays at its place keeps its number
stays_with_number : {A : Type 0} (R : A → A → Type 0) (xs ys : List A) → StaysAt R xs ys → (n : ℕ) (x : A) → entry_at n xs ≡ Some x → (y : A) × (entry_at n ys ≡ Some y) × R x y
stays_with_number R xs ys stays zero x e = absurd (cc)
stays_with_number R xs ys stays (suc i) x e = stays i x e

rows_at : {A : Type 0} (rows : A → List (List ℕ)) (n : ℕ) (xs : List A) (x : A) → entry_at n xs ≡ Some x → unwrap_or (entry_at n (map rows xs)) [] ≡ rows x
rows_at rows zero xs x e = absurd (cc)
rows_at rows (suc i) xs x e = ap (λ o. unwrap_or o []) (slice_get-map rows xs i ∙ ap (option_map rows) e)

-- a whole file has an entry
whole_entry : (n : ℕ) (o : Option Incoming) → is_received (option_map (incoming_entry n) o) ≡ true → (x : Incoming) × (o ≡ Some x) × (x.state ≡ Whole)
whole_entry n None h = absurd (cc)
whole_entry n (Some x) h = (x, refl, by x.state h)
  where
    by : (state : IncomingState) → is_whole state ≡ true → state ≡ Whole
    by Open h = absurd (cc)
    by Whole h = refl

any_entry : {A B : Type 0} (g : A → B) (o : Option A) → is_some (option_map g o) ≡ true → (x : A) × (o ≡ Some x)
any_entry g None h = absurd (cc)
any_entry g (Some x) h = (x, refl)

-- ---- rows that no change alters

-- they stay what they are, and no later change alters them
pub record StaysFinal (r s : Register) (which : Side) (n : ℕ) : Type 0 where
  pub is_final : has_final_rows s which n ≡ true
  pub rows : file_rows s which n ≡ file_rows r which n

final_still : (r s : Register) → StillHas r s → (which : Side) (n : ℕ) → has_final_rows r which n ≡ true → StaysFinal r s which n
final_still r s still side.Incoming n h =
    let was = whole_entry n (entry_at n r.incoming) (sym (ap is_received (in_found r n)) ∙ h) in
    let now = stays_with_number IsStillWhole r.incoming s.incoming still.incoming n was.0 was.1 in
    let kept_so = now.2 was.2 in
    record {
      is_final = ap is_received (in_found s n ∙ ap (option_map (incoming_entry n)) now.1) ∙ ap is_whole kept_so.0;
      rows = rows_at (λ (f : Incoming). f.rows) n s.incoming now.0 now.1 ∙ kept_so.1 ∙ sym (rows_at (λ (f : Incoming). f.rows) n r.incoming was.0 was.1);
    }
final_still r s still side.Outgoing n h =
    let was = any_entry (outgoing_entry n) (entry_at n r.outgoing) (sym (ap is_some (out_found r n)) ∙ h) in
    let now = stays_with_number HasItsRows r.outgoing s.outgoing still.outgoing n was.0 was.1 in
    record {
      is_final = ap is_some (out_found s n ∙ ap (option_map (outgoing_entry n)) now.1);
      rows = rows_at (λ (f : Outgoing). f.rows) n s.outgoing now.0 now.1 ∙ now.2 ∙ sym (rows_at (λ (f : Outgoing). f.rows) n r.outgoing was.0 was.1);
    }

-- each change leaves them so
pub stays_final : (r : Register) (k : Change) (s : Register) → apply r k ≡ Ok s → (which : Side) (n : ℕ) → has_final_rows r which n ≡ true → StaysFinal r s which n
stays_final r k s h = final_still r s (changed_still r k s h)
