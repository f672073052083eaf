-- The entry with a number: what is known of it, and what a change does to it.
use Rattle.std.proofs.Common.{◌≡◌, ℕ, zero, suc, false, List, [], ◌∷◌, ◌++◌, All, Option, None, Some, is_some, slice_get, map, take, drop, Result, Ok, refl, ap, sym, ◌∙◌, subst}
use Rattle.std.proofs.lemmas.List.Elements.{All-cons, All-head, All-nil, All-tail}
use Rattle.oftp_register.specs.declared.change.Cause.{Cause}
use Rattle.oftp_register.specs.declared.change.Change.TheVariants.{Close, GiveUp, Keep}
use Rattle.oftp_register.specs.declared.entry.IncomingState.TheVariants.{Open, Whole}
use Rattle.oftp_register.specs.Register.{Register, Incoming, Outgoing}
use Rattle.oftp_register.specs.Changes.{apply, at_number, closed, given_up, if_open, kept, mapped, on_incoming, on_outgoing}
use Rattle.oftp_register.specs.Soundness.{AtNumber, Ends, GoesOn, IfOpen, IsFit, IsSound, IsSoundIncoming, IsSoundOutgoing}
use Rattle.oftp_register.specs.LookUps.{entry_at, file_rows, rows_of}
use Rattle.oftp_vfile.specs.VirtualFile.{AreRows}
use Rattle.std.specs.Option.{unwrap_or}
use Rattle.oftp_register.specs.declared.entries.Side.TheVariants as side
use Rattle.oftp_register.proofs.IncomingLemmas.{open_unanswered}
use Rattle.oftp_register.proofs.RowLemmas.{rows-part}

-- a fact of each entry holds of the one with a number
pub all_at : {A : Type 0} (P : A → Type 0) (n : ℕ) (xs : List A) (x : A) → All P xs → entry_at n xs ≡ Some x → P x
all_at {A = A} P zero xs x all e = absurd (cc)
all_at {A = A} P (suc n) xs x all e = by n xs all e
  where
    by : (n : ℕ) (xs : List A) → All P xs → slice_get xs n ≡ Some x → P x
    by n [] all e = absurd (cc)
    by zero (y ∷ ys) all e = let is : y ≡ x = cc in subst P is (All-head P y ys all)
    by (suc n) (y ∷ ys) all e = by n ys (All-tail P y ys all) e

-- a fact that holds at each place is a fact of all
pub all_from : {A : Type 0} (P : A → Type 0) (xs : List A) → ((n : ℕ) (x : A) → slice_get xs n ≡ Some x → P x) → All P xs
all_from P [] h = All-nil P
all_from P (x ∷ xs) h = All-cons P x xs (h 0 x refl) (all_from P xs (λ n y e. h (suc n) y e))

-- a fact of the entry with a number
pub at_entry_number : {A : Type 0} (P : A → Type 0) (n : ℕ) (xs : List A) (x : A) → entry_at n xs ≡ Some x → P x → AtNumber P n xs
at_entry_number {A = A} P zero xs x e h = tt
at_entry_number {A = A} P (suc n) xs x e h = by n xs e
  where
    by : (n : ℕ) (xs : List A) → slice_get xs n ≡ Some x → AtNumber P (suc n) xs
    by n [] e = tt
    by zero (y ∷ ys) e = let is : y ≡ x = cc in subst P (sym is) h
    by (suc n) (y ∷ ys) e = by n ys e

-- a change of the entry with a number is made, if the entry allows it
pub at_entry : {A : Type 0} (g : A → Result A Cause) (n : ℕ) (xs : List A) (x y : A) → entry_at n xs ≡ Some x → g x ≡ Ok y
    → (ys : List A) × (at_number g n xs ≡ Ok ys) × (entry_at n ys ≡ Some y)
at_entry {A = A} g zero xs x y e h = absurd (cc)
at_entry {A = A} g (suc n) xs x y e h = by n xs e
  where
    by : (n : ℕ) (xs : List A) → slice_get xs n ≡ Some x → (ys : List A) × (at_number g (suc n) xs ≡ Ok ys) × (slice_get ys n ≡ Some y)
    by n [] e = absurd (cc)
    by zero (z ∷ zs) e =
        let is : z ≡ x = cc in
        (y ∷ zs, ap (λ w. mapped (λ v. v ∷ zs) (g w)) is ∙ ap (mapped (λ v. v ∷ zs)) h, refl)
    by (suc n) (z ∷ zs) e = let later = by n zs e in (z ∷ later.0, ap (mapped (λ vs. z ∷ vs)) later.1, later.2)

-- the register after a change of a file, and the file in it
pub record IsChanged {F : Type 0} (files : Register → List F) (n : ℕ) (r : Register) (file : F) (change : Result Register Cause) : Type 0 where
  pub after : Register
  pub made : change ≡ Ok after
  pub entry : entry_at n (files after) ≡ Some file

pub changes_incoming : (g : Incoming → Result Incoming Cause) (n : ℕ) (r : Register) (x y : Incoming) → entry_at n r.incoming ≡ Some x → g x ≡ Ok y
    → IsChanged (λ (s : Register). s.incoming) n r y (on_incoming g n r)
changes_incoming g n r x y e h =
    let at = at_entry g n r.incoming x y e h in
    record { after = record r { incoming = at.0 }; made = ap (mapped (λ files. record r { incoming = files })) at.1; entry = at.2 }

pub changes_outgoing : (g : Outgoing → Result Outgoing Cause) (n : ℕ) (r : Register) (x y : Outgoing) → entry_at n r.outgoing ≡ Some x → g x ≡ Ok y
    → IsChanged (λ (s : Register). s.outgoing) n r y (on_outgoing g n r)
changes_outgoing g n r x y e h =
    let at = at_entry g n r.outgoing x y e h in
    record { after = record r { outgoing = at.0 }; made = ap (mapped (λ files. record r { outgoing = files })) at.1; entry = at.2 }

-- an open file has no response
pub open_silent : (file : Incoming) → IsSoundIncoming file → file.state ≡ Open → file.response ≡ None
open_silent file sound is = none file.response (open_unanswered file sound is)
  where
    none : {A : Type 0} (o : Option A) → is_some o ≡ false → o ≡ None
    none None h = refl
    none (Some x) h = absurd (cc)

module _ (r : Register) (n : ℕ) (file : Incoming) (entry : entry_at n r.incoming ≡ Some file) (is_open : file.state ≡ Open) where
  -- a premise on the open file holds of it
  asked : (Q : Incoming → Type 0) → Q file → AtNumber (λ (f : Incoming). IfOpen f.state (Q f)) n r.incoming
  asked Q h = at_entry_number (λ (f : Incoming). IfOpen f.state (Q f)) n r.incoming file entry (subst (λ state. IfOpen state (Q file)) (sym is_open) h)

  -- rows that continue an open file, or end it, are fit
  pub keep_fit : (rows : List (List ℕ)) → GoesOn rows file → IsFit r (Keep n rows)
  unfolding IsFit
  keep_fit rows h = asked (GoesOn rows) h

  pub close_fit : (rows : List (List ℕ)) → Ends rows file → IsFit r (Close n rows)
  unfolding IsFit
  close_fit rows h = asked (Ends rows) h

  -- an open file takes more rows
  pub keep_changes : (rows : List (List ℕ)) → IsChanged (λ (s : Register). s.incoming) n r (record file { rows = file.rows ++ rows; state = Open }) (apply r (Keep n rows))
  unfolding apply
  keep_changes rows = changes_incoming (kept rows) n r file _ entry (ap (if_open file (file.rows ++ rows) Open) is_open)

  -- it takes its last ones
  pub close_changes : (rows : List (List ℕ)) → IsChanged (λ (s : Register). s.incoming) n r (record file { rows = file.rows ++ rows; state = Whole }) (apply r (Close n rows))
  unfolding apply
  close_changes rows = changes_incoming (closed rows) n r file _ entry (ap (if_open file (file.rows ++ rows) Whole) is_open)

  -- and its rows can be deleted
  pub give_up_changes : IsChanged (λ (s : Register). s.incoming) n r (record file { rows = []; state = Open }) (apply r (GiveUp n))
  unfolding apply
  give_up_changes = changes_incoming given_up n r file _ entry (ap (if_open file [] Open) is_open)

pub give_up_fit : (r : Register) (n : ℕ) → IsFit r (GiveUp n)
unfolding IsFit
give_up_fit r n = tt

-- the rows of the file with a number
rows_at : {A : Type 0} (rows : A → List (List ℕ)) (xs : List A) (n : ℕ) (x : A) → slice_get xs n ≡ Some x → slice_get (map rows xs) n ≡ Some (rows x)
rows_at rows [] n x h = absurd (cc)
rows_at rows (y ∷ ys) zero x h = let same : y ≡ x = cc in ap (λ z. Some (rows z)) same
rows_at rows (y ∷ ys) (suc n) x h = rows_at rows ys n x h

pub rows_of_incoming : (r : Register) (n : ℕ) (f : Incoming) → entry_at n r.incoming ≡ Some f → file_rows r side.Incoming n ≡ f.rows
rows_of_incoming r zero f h = absurd (cc)
rows_of_incoming r (suc n) f h = ap (λ o. unwrap_or o []) (rows_at (λ (x : Incoming). x.rows) r.incoming n f h)

pub rows_of_outgoing : (r : Register) (n : ℕ) (f : Outgoing) → entry_at n r.outgoing ≡ Some f → file_rows r side.Outgoing n ≡ f.rows
rows_of_outgoing r zero f h = absurd (cc)
rows_of_outgoing r (suc n) f h = ap (λ o. unwrap_or o []) (rows_at (λ (x : Outgoing). x.rows) r.outgoing n f h)

-- the rows of an outgoing file that are looked up fit its format, so that `are_rows` finds nothing wrong
pub outgoing_fit : (r : Register) (n from most : ℕ) (f : Outgoing) → IsSound r → entry_at n r.outgoing ≡ Some f → AreRows f.format f.longest (rows_of r side.Outgoing n from most)
outgoing_fit r n from most f sound entry =
    let fits = (all_at IsSoundOutgoing n r.outgoing f sound.outgoing entry).fits in
    subst (λ rows. AreRows f.format f.longest (take most (drop from rows))) (sym (rows_of_outgoing r n f entry)) (rows-part f.format f.longest from most f.rows fits)
