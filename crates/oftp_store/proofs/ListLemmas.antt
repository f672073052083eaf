-- Lists of entries that grow by one, and what is found by number.
use Rattle.std.proofs.Common.{◌≡◌, ◌==◌, ◌+◌, ◌<◌, ◌≤◌, ◌++◌, ◌^◌, nat_lt, ℕ, suc, Bool, true, false, cond, List, [], ◌∷◌, length, map, take, find, get_or, Option, Some, None, inl, inr, refl, sym, ap, subst, ◌∙◌, arith}
use Rattle.std.specs.List.{filter_map}
use Rattle.std.specs.Option.{option_map}
use Rattle.std.proofs.lemmas.Bool.{cases_Bool}
use Rattle.std.proofs.lemmas.Bool.Decides.{nat_tests}
use Rattle.std.proofs.lemmas.List.{map_more}
use Rattle.std.proofs.lemmas.List.Elements.{filter_map-append}
use Rattle.oftp_register.specs.declared.entries.Cursor.{Cursor}
use Rattle.oftp_register.specs.declared.entries.IssuedEntry.{IssuedEntry}
use Rattle.oftp_register.specs.declared.entries.IssuedResponse.{IssuedResponse}
use Rattle.oftp_register.specs.declared.entries.Item.{Item}
use Rattle.oftp_register.specs.declared.entries.Item.TheVariants as item
use Rattle.oftp_register.specs.declared.entries.OutgoingEntry.{OutgoingEntry}
use Rattle.oftp_register.specs.Register.{Register, Incoming, Issued, Outgoing}
use Rattle.oftp_register.specs.LookUps.{entry_at, is_next_file, is_next_response, issued_entry, issued_response, item_of, next_file, next_item, next_response, numbered, outgoing_entry}
use Rattle.oftp_tables.proofs.SpotLemmas.{Spot, past, spot, there, zeroth}
use Rattle.oftp_store.specs.Reads.{IsPlaced, IsResponseTo, IsToldOf, incoming_header_of, issued_entry_of}
use Rattle.oftp_store.specs.Tells.{issued_by_no, listed}
use Rattle.oftp_store.specs.declared.queries.header.IncomingHeader.{IncomingHeader}
use Rattle.oftp_store.proofs.NumberLemmas.{entry_placed}

-- ---- all entries

module _ {X E : Type 0} (entry : ℕ → X → E) where
  pub length-numbered : (n : ℕ) (xs : List X) → length (numbered entry n xs) ≡ length xs
  length-numbered n [] = refl
  length-numbered n (x ∷ xs) = ap suc (length-numbered (n + 1) xs)

  -- each of them is listed
  pub listed_all : (n : ℕ) (xs : List X) → filter_map (λ item. item) (numbered (λ n x. Some (entry n x)) n xs) ≡ numbered entry n xs
  listed_all n [] = refl
  listed_all n (x ∷ xs) = ap (λ es. entry n x ∷ es) (listed_all (n + 1) xs)

one_listed : {E : Type 0} (o : Option E) → filter_map (λ item. item) (o ∷ []) ≡ listed o
one_listed None = refl
one_listed (Some e) = refl

-- what one row more tells
pub listed_more : {A E : Type 0} (told : A → Option E) (rows : List A) (at : ℕ) (row : A) (found : Option E) → at < length rows → get_or rows at row ≡ row → found ≡ told row
    → filter_map (λ item. item) (map told (take at rows)) ++ listed found ≡ filter_map (λ item. item) (map told (take (at + 1) rows))
listed_more told rows at row found short is found_is =
    let before = map told (take at rows) in
    ap (λ o. filter_map (λ item. item) before ++ listed o) found_is ∙ ap (λ es. filter_map (λ item. item) before ++ es) (sym (one_listed (told row)))
    ∙ sym (filter_map-append (λ item. item) before (told row ∷ []))
    ∙ sym (ap (filter_map (λ item. item)) (map_more told rows at row short ∙ ap (λ x. before ++ told x ∷ []) is))

-- ---- issued responses; not every file has one

abbrev pub issued_in_order : ℕ → List Incoming → List IssuedEntry
issued_in_order n fs = filter_map (λ entry. entry) (numbered issued_entry n fs)

number : IssuedEntry → ℕ
number e = e.no

-- the entry of a response to a file with a number
abbrev pub entry_so : ℕ → Incoming → Issued → IssuedEntry
entry_so n f x = issued_entry_of n (incoming_header_of f) (issued_response x)

-- it is made of the header of the file and of the response
pub entry_made : (n : ℕ) (f : Incoming) (o : Option Issued) → option_map (issued_entry_of n (incoming_header_of f)) (option_map issued_response o) ≡ option_map (entry_so n f) o
entry_made n f None = refl
entry_made n f (Some x) = refl

-- an entry that isn't wanted is skipped
passed_by : (wanted : IssuedEntry → Bool) (n : ℕ) (f : Incoming) (o : Option Issued) (rest : List (Option IssuedEntry)) → ((x : Issued) → wanted (entry_so n f x) ≡ false)
    → find wanted (filter_map (λ entry. entry) (option_map (entry_so n f) o ∷ rest)) ≡ find wanted (filter_map (λ entry. entry) rest)
passed_by wanted n f None rest other = refl
passed_by wanted n f (Some x) rest other = rw (other x) refl

issued_low : (k n : ℕ) (fs : List Incoming) → k < n → find (λ (e : IssuedEntry). e.no == k) (issued_in_order n fs) ≡ None
issued_low k n [] h = refl
issued_low k n (f ∷ fs) h =
    passed_by (λ e. e.no == k) n f f.response (numbered issued_entry (n + 1) fs) (λ x. grind (arith, nat_tests, h)) ∙ issued_low k (n + 1) fs (omega (arith, h))

issued_past : (k n : ℕ) (fs : List Incoming) → n + length fs ≤ k → find (λ (e : IssuedEntry). e.no == k) (issued_in_order n fs) ≡ None
issued_past k n [] h = refl
issued_past k n (f ∷ fs) h =
    passed_by (λ e. e.no == k) n f f.response (numbered issued_entry (n + 1) fs) (λ x. grind (arith, nat_tests, h)) ∙ issued_past k (n + 1) fs (omega (arith, h))

issued_there : (k n : ℕ) (before : List Incoming) (f : Incoming) (after : List Incoming) → k ≡ n + length before
    → find (λ (e : IssuedEntry). e.no == k) (issued_in_order n (before ++ f ∷ after)) ≡ issued_entry k f
issued_there k n [] f after is = go f.response (issued_low n (n + 1) after (omega arith))
  where
    here : n ≡ k
    here = omega (arith, is)

    yes : (n == k) ≡ true
    yes = grind (arith, nat_tests, here)

    go : (o : Option Issued) → find (λ (e : IssuedEntry). e.no == n) (issued_in_order (n + 1) after) ≡ None
        → find (λ (e : IssuedEntry). e.no == k) (filter_map (λ entry. entry) (option_map (entry_so n f) o ∷ numbered issued_entry (n + 1) after))
        ≡ option_map (entry_so k f) o
    go None later = subst (λ m. find (λ (e : IssuedEntry). e.no == m) (issued_in_order (n + 1) after) ≡ None) here later
    go (Some x) later = rw yes (ap (λ m. Some (entry_so m f x)) here)
issued_there k n (b ∷ before) f after is =
    passed_by (λ e. e.no == k) n b b.response (numbered issued_entry (n + 1) (before ++ f ∷ after)) (λ x. grind (arith, nat_tests, is))
    ∙ issued_there k (n + 1) before f after (omega (arith, is))

pub issued_known : (k : ℕ) (fs before : List Incoming) (f : Incoming) (after : List Incoming) → IsPlaced fs k before f after
    → find (λ (e : IssuedEntry). e.no == k) (issued_in_order 1 fs) ≡ issued_entry k f
issued_known k fs before f after placed = ap (λ all. find (λ (e : IssuedEntry). e.no == k) (issued_in_order 1 all)) placed.here ∙ issued_there k 1 before f after placed.number

-- the response that is wanted is the one with its number
module _ (wanted : IssuedEntry → Bool) where
  issued_below : (k n : ℕ) (fs : List Incoming) → option_map (λ (e : IssuedEntry). e.no) (find wanted (issued_in_order n fs)) ≡ Some k → n ≤ k
  issued_below k n [] is = absurd (let no_such = is in cc)
  issued_below k n (f ∷ fs) is = go f.response (issued_below k (n + 1) fs) is
    where
      rest : Option IssuedEntry
      rest = find wanted (issued_in_order (n + 1) fs)

      pick : (b : Bool) (x : Issued) → (option_map (λ (e : IssuedEntry). e.no) rest ≡ Some k → n + 1 ≤ k)
          → option_map (λ (e : IssuedEntry). e.no) (cond b (Some (entry_so n f x)) rest) ≡ Some k → n ≤ k
      pick true x later is = let at : n ≡ k = cc is in omega (arith, at)
      pick false x later is = let more = later is in omega (arith, more)

      go : (o : Option Issued) → (option_map (λ (e : IssuedEntry). e.no) rest ≡ Some k → n + 1 ≤ k)
          → option_map (λ (e : IssuedEntry). e.no) (find wanted (filter_map (λ entry. entry) (option_map (entry_so n f) o ∷ numbered issued_entry (n + 1) fs))) ≡ Some k → n ≤ k
      go None later is = let more = later is in omega (arith, more)
      go (Some x) later is = pick (wanted (entry_so n f x)) x later is

  pub issued_by_number : (k n : ℕ) (fs : List Incoming) → option_map (λ (e : IssuedEntry). e.no) (find wanted (issued_in_order n fs)) ≡ Some k
      → find (λ (e : IssuedEntry). e.no == k) (issued_in_order n fs) ≡ find wanted (issued_in_order n fs)
  issued_by_number k n [] is = refl
  issued_by_number k n (f ∷ fs) is = go f.response (issued_below k (n + 1) fs) (issued_by_number k (n + 1) fs) is
    where
      rest : Option IssuedEntry
      rest = find wanted (issued_in_order (n + 1) fs)

      by : Option IssuedEntry
      by = find (λ (e : IssuedEntry). e.no == k) (issued_in_order (n + 1) fs)

      pick : (b : Bool) (x : Issued) → (option_map (λ (e : IssuedEntry). e.no) rest ≡ Some k → n + 1 ≤ k) → (option_map (λ (e : IssuedEntry). e.no) rest ≡ Some k → by ≡ rest)
          → option_map (λ (e : IssuedEntry). e.no) (cond b (Some (entry_so n f x)) rest) ≡ Some k → cond (n == k) (Some (entry_so n f x)) by ≡ cond b (Some (entry_so n f x)) rest
      pick true x below later is = let at : n ≡ k = cc is in let yes : (n == k) ≡ true = grind (arith, nat_tests, at) in rw yes refl
      pick false x below later is = let above = below is in let other : (n == k) ≡ false = grind (arith, nat_tests, above) in rw other (later is)

      go : (o : Option Issued) → (option_map (λ (e : IssuedEntry). e.no) rest ≡ Some k → n + 1 ≤ k) → (option_map (λ (e : IssuedEntry). e.no) rest ≡ Some k → by ≡ rest)
          → option_map (λ (e : IssuedEntry). e.no) (find wanted (filter_map (λ entry. entry) (option_map (entry_so n f) o ∷ numbered issued_entry (n + 1) fs))) ≡ Some k
          → find (λ (e : IssuedEntry). e.no == k) (filter_map (λ entry. entry) (option_map (entry_so n f) o ∷ numbered issued_entry (n + 1) fs))
          ≡ find wanted (filter_map (λ entry. entry) (option_map (entry_so n f) o ∷ numbered issued_entry (n + 1) fs))
      go None below later is = later is
      go (Some x) below later is = pick (wanted (entry_so n f x)) x below later is

-- ---- beyond the last number

no_response : (partner : List ℕ) (tried n : ℕ) (fs : List Incoming) → n + length fs ≤ tried + 1 → find (is_next_response partner tried) (issued_in_order n fs) ≡ None
no_response partner tried n [] h = refl
no_response partner tried n (f ∷ fs) h =
    let low : nat_lt tried n ≡ false = grind (arith, nat_tests, h) in
    passed_by (is_next_response partner tried) n f f.response (numbered issued_entry (n + 1) fs) (λ x. rw low refl) ∙ no_response partner tried (n + 1) fs (omega (arith, h))

no_file : (partner : List ℕ) (tried n : ℕ) (fs : List Outgoing) → n + length fs ≤ tried + 1 → find (is_next_file partner tried) (numbered outgoing_entry n fs) ≡ None
no_file partner tried n [] h = refl
no_file partner tried n (f ∷ fs) h = let low : nat_lt tried n ≡ false = grind (arith, nat_tests, h) in rw low (no_file partner tried (n + 1) fs (omega (arith, h)))

-- The next above a number is the next above the one that is used in its place. That is the number itself if the database can store it, and
-- else the greatest.
same_within : {E : Type 0} (next : ℕ → Option E) (entries tried given : ℕ) → entries < 2 ^ 63 → ((at : ℕ) → 1 + entries ≤ at + 1 → next at ≡ None)
    → (tried < 2 ^ 63 → given ≡ tried) → (2 ^ 63 ≤ tried → given + 1 ≡ 2 ^ 63) → next given ≡ next tried
same_within next entries tried given few none same far =
    elim (cases_Bool (nat_lt tried (2 ^ 63))) [
      | inl low ↦ ap next (same (grind (arith, nat_tests, low)))
      | inr high ↦
          let above : 2 ^ 63 ≤ tried = grind (arith, nat_tests, high) in
          let past = far above in
          none given (omega (arith, few, past)) ∙ sym (none tried (omega (arith, few, above)))
    ]

pub response_within : (r : Register) (partner : List ℕ) (tried given : ℕ) → length r.incoming < 2 ^ 63 → (tried < 2 ^ 63 → given ≡ tried) → (2 ^ 63 ≤ tried → given + 1 ≡ 2 ^ 63)
    → next_response r partner given ≡ next_response r partner tried
response_within r partner tried given few = same_within (next_response r partner) (length r.incoming) tried given few (λ at. no_response partner at 1 r.incoming)

pub file_within : (r : Register) (partner : List ℕ) (tried given : ℕ) → length r.outgoing < 2 ^ 63 → (tried < 2 ^ 63 → given ≡ tried) → (2 ^ 63 ≤ tried → given + 1 ≡ 2 ^ 63)
    → next_file r partner given ≡ next_file r partner tried
file_within r partner tried given few = same_within (next_file r partner) (length r.outgoing) tried given few (λ at. no_file partner at 1 r.outgoing)

-- ---- the response to one file

issued_placed : (r : Register) (k : ℕ) (o : Option IssuedResponse) (before : List Incoming) (f : Incoming) (after : List Incoming) → IsPlaced r.incoming k before f after
    → o ≡ option_map issued_response f.response → option_map (issued_entry_of k (incoming_header_of f)) o ≡ issued_by_no r k
issued_placed r k o before f after placed is =
    ap (option_map (issued_entry_of k (incoming_header_of f))) is ∙ entry_made k f f.response ∙ sym (issued_known k r.incoming before f after placed)

pub issued_none : (r : Register) (k : ℕ) → IsResponseTo r k None → None ≡ issued_by_no r k
issued_none r k is = go (spot k r.incoming)
  where
    go : Spot k r.incoming → None ≡ issued_by_no r k
    go (zeroth at) = sym (issued_low k 1 r.incoming (omega (arith, at)))
    go (past h) = sym (issued_past k 1 r.incoming (omega (arith, h)))
    go (there before f after here at) =
        let placed : IsPlaced r.incoming k before f after = record { here = here; number = at } in issued_placed r k None before f after placed (is before f after placed)

-- an unknown file has none
pub issued_unknown : (r : Register) (k : ℕ) → entry_at k r.incoming ≡ None → None ≡ issued_by_no r k
issued_unknown r k unknown = issued_none r k (λ before f after placed. absurd (let no_such = sym unknown ∙ entry_placed k r.incoming before f after placed in cc))

pub issued_some : (r : Register) (k : ℕ) (h : IncomingHeader) (x : IssuedResponse) → IsToldOf incoming_header_of r.incoming k (Some h) → IsResponseTo r k (Some x)
    → Some (issued_entry_of k h x) ≡ issued_by_no r k
issued_some r k h x (before, f, after, placed, header) is =
    ap (λ (h : IncomingHeader). Some (issued_entry_of k h x)) header ∙ issued_placed r k (Some x) before f after placed (is before f after placed)

-- ---- what is next

pub item_nothing : (r : Register) (partner : List ℕ) (cursor : Cursor) → None ≡ next_response r partner cursor.response → None ≡ next_item r partner cursor false
item_nothing r partner cursor none = ap (λ o. item_of o None) none

pub item_response : (r : Register) (partner : List ℕ) (cursor : Cursor) (e : IssuedEntry) → Some e ≡ next_response r partner cursor.response
    → Some (item.Response e) ≡ next_item r partner cursor false
item_response r partner cursor e found = ap (λ o. item_of o None) found

-- a response goes before a file
pub item_due : (r : Register) (partner : List ℕ) (cursor : Cursor) (found : Item) → Some found ≡ next_item r partner cursor false → Some found ≡ next_item r partner cursor true
item_due r partner cursor found = go (next_response r partner cursor.response)
  where
    go : (o : Option IssuedEntry) → Some found ≡ item_of o None → Some found ≡ item_of o (next_file r partner cursor.file)
    go (Some e) is = is
    go None is = absurd (let no_such = is in cc)

pub item_file : (r : Register) (partner : List ℕ) (cursor : Cursor) (file : Option OutgoingEntry) → None ≡ next_item r partner cursor false → file ≡ next_file r partner cursor.file
    → item_of None file ≡ next_item r partner cursor true
item_file r partner cursor file none found = go (next_response r partner cursor.response) none
  where
    go : (o : Option IssuedEntry) → None ≡ item_of o None → item_of None file ≡ item_of o (next_file r partner cursor.file)
    go (Some e) is = absurd (let no_such = is in cc)
    go None is = ap (item_of None) found
