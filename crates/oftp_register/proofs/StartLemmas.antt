-- Where the incoming file with an identity is, and what its start does to the register.
use Rattle.std.proofs.Common.{◌≡◌, ◌⊎◌, ℕ, suc, ◌+◌, ◌/◌, ◌==◌, ◌<◌, ◌≤◌, ◌&&◌, Bool, true, false, cond, not, min, nat_le, nat_lt, List, [], ◌∷◌, ◌++◌, length, set, take, find, slice_get, Option, None, Some, is_none, Ok, Err, refl, ap, sym, ◌∙◌, subst, inl, inr, arith}
use Rattle.std.specs.List.{position_or_len}
use Rattle.std.specs.Str.{bytes_eq}
use Rattle.std.proofs.lemmas.Bool.{cases_Bool, cond-true, cond-false, and_parts, eqb-true, leb-true, ltb-true, le-ltb, ltb-false, not-false}
use Rattle.oftp_wire.specs.declared.command.Layout.{Layout}
use Rattle.oftp_wire.specs.declared.command.Layout.TheVariants as layout
use Rattle.oftp_wire.specs.declared.command.Sfid.{Sfid}
use Rattle.oftp_wire.specs.declared.reason.StartReason.{StartReason}
use Rattle.oftp_wire.specs.declared.reason.StartReason.TheVariants.{InvalidFilename, InvalidDestination, InvalidOrigin, MaximumRecordLengthNotSupported, FileSizeTooBig, DuplicateFile, FileDirectionRefused, Unspecified}
use Rattle.oftp_vfile.specs.declared.format.Format.{Format}
use Rattle.oftp_vfile.specs.declared.format.Format.TheVariants.{Fixed, Variable, Unstructured, Text}
use Rattle.oftp_vfile.specs.declared.format.TheConstants.{LONGEST_RECORD}
use Rattle.oftp_vfile.specs.VirtualFile.{IsLongest}
use Rattle.oftp_register.specs.declared.change.Cause.TheVariants.{State, Full}
use Rattle.oftp_register.specs.declared.change.Change.TheVariants.{Start}
use Rattle.oftp_register.specs.declared.entries.IncomingEntry.{IncomingEntry}
use Rattle.oftp_register.specs.declared.entries.Side.TheVariants as side
use Rattle.oftp_register.specs.declared.entry.Identity.{Identity}
use Rattle.oftp_register.specs.declared.entry.IncomingState.{IncomingState}
use Rattle.oftp_register.specs.declared.entry.IncomingState.TheVariants.{Open, Whole}
use Rattle.oftp_register.specs.declared.verdicts.StartVerdict.{StartVerdict}
use Rattle.oftp_register.specs.declared.verdicts.StartVerdict.TheVariants as start
use Rattle.oftp_register.specs.declared.verdicts.TheConstants.{SIZE_UNIT}
use Rattle.oftp_register.specs.declared.verdicts.Terms.{Terms}
use Rattle.oftp_register.specs.Register.{Register, Incoming, Issued, same_identity}
use Rattle.oftp_register.specs.Changes.{apply, begun, gone_on, mapped, new_incoming, started, started_in}
use Rattle.oftp_register.specs.Verdicts.{format_of, has_length, is_empty, is_plain, is_received, is_whole, longest_of, restart_position, same_format, start_verdict}
use Rattle.oftp_register.specs.LookUps.{entry_at, file_rows, files_full, incoming_entry, look_in, numbered}
use Rattle.oftp_register.specs.Soundness.{AreFullRows, IfOpen, IsFit, IsSound, IsSoundIncoming, MayGoOn, MayStart}
use Rattle.oftp_register.specs.ByIdentity.{AcceptedStarts, IsStarted, StartsAreFound, incoming_name, named, number_of, started_file}
use Rattle.oftp_register.proofs.NumberLemmas.{mapped_ok}
use Rattle.oftp_register.proofs.IncomingLemmas.{begun_ok, gone_on_ok, open_rows}
use Rattle.oftp_register.proofs.RowLemmas.{full-nil, full-take}
use Rattle.oftp_register.proofs.Places.{mapped-mapped}
use Rattle.oftp_register.proofs.ByIdentityLemmas.{found_named, same_self}
use Rattle.oftp_register.proofs.EntryLemmas.{all_at, all_from, open_silent, rows_of_incoming}

-- an incoming entry has this identity
abbrev pub is_of : Identity → IncomingEntry → Bool
is_of identity e = same_identity e.identity identity

-- The file with an identity is in a list, whose first number is n, at a place. It is the first with this identity, a look-up finds it, and
-- a start changes this file.
pub record StandsAt (r : Register) (identity : Identity) (n : ℕ) (xs : List Incoming) : Type 0 where
  pub place : ℕ
  pub file : Incoming
  pub at : slice_get xs place ≡ Some file
  pub position : position_or_len (λ (f : Incoming). same_identity f.identity identity) xs ≡ place
  pub same : same_identity file.identity identity ≡ true
  pub look : find (is_of identity) (numbered incoming_entry n xs) ≡ Some (incoming_entry (n + place) file)
  pub starts : (header : Incoming) (count : ℕ) → header.identity ≡ identity
      → started_in r header count xs ≡ mapped (λ y. set xs place y) (gone_on header count file file.state)
  pub at_now : (y : Incoming) → slice_get (set xs place y) place ≡ Some y
  pub look_now : (y : Incoming) → same_identity y.identity identity ≡ true
      → find (is_of identity) (numbered incoming_entry n (set xs place y)) ≡ Some (incoming_entry (n + place) y)

-- No file has an identity: a look-up finds none, and a start adds one after the others.
pub record IsNew (r : Register) (identity : Identity) (n : ℕ) (xs : List Incoming) : Type 0 where
  pub position : position_or_len (λ (f : Incoming). same_identity f.identity identity) xs ≡ length xs
  pub look : find (is_of identity) (numbered incoming_entry n xs) ≡ None
  pub starts : (header : Incoming) (count : ℕ) → header.identity ≡ identity
      → started_in r header count xs ≡ mapped (λ y. xs ++ y ∷ []) (begun r header count)
  pub at_now : (y : Incoming) → slice_get (xs ++ y ∷ []) (length xs) ≡ Some y
  pub look_now : (y : Incoming) → same_identity y.identity identity ≡ true
      → find (is_of identity) (numbered incoming_entry n (xs ++ y ∷ [])) ≡ Some (incoming_entry (n + length xs) y)

-- an entry with this identity is found first, and another is skipped
finds_first : (identity : Identity) (n : ℕ) (f : Incoming) (fs : List Incoming) → same_identity f.identity identity ≡ true
    → find (is_of identity) (numbered incoming_entry n (f ∷ fs)) ≡ Some (incoming_entry (n + 0) f)
finds_first identity n f fs h =
    let e : n ≡ n + 0 = omega arith in
    cond-true (same_identity f.identity identity) (Some (incoming_entry n f)) _ h ∙ ap (λ k. Some (incoming_entry k f)) e

passes_over : (identity : Identity) (n place : ℕ) (f y : Incoming) (fs : List Incoming) → same_identity f.identity identity ≡ false
    → find (is_of identity) (numbered incoming_entry (n + 1) fs) ≡ Some (incoming_entry (n + 1 + place) y)
    → find (is_of identity) (numbered incoming_entry n (f ∷ fs)) ≡ Some (incoming_entry (n + suc place) y)
passes_over identity n place f y fs h later =
    let e : n + 1 + place ≡ n + suc place = omega arith in
    cond-false (same_identity f.identity identity) (Some (incoming_entry n f)) _ h ∙ later ∙ ap (λ k. Some (incoming_entry k y)) e

-- a file exists, or it is new
pub where_is : (r : Register) (identity : Identity) (n : ℕ) (xs : List Incoming) → StandsAt r identity n xs ⊎ IsNew r identity n xs
where_is r identity n [] = inr (record {
  position = refl;
  look = refl;
  starts = λ header count e. refl;
  at_now = λ y. refl;
  look_now = λ y h. finds_first identity n y [] h;
})
where_is r identity n (f ∷ fs) = elim (cases_Bool (same_identity f.identity identity)) [
  | inl t ↦ inl (record {
    place = 0;
    file = f;
    at = refl;
    same = t;
    position = ap (λ b. cond (not b) (1 + position_or_len p fs) 0) t;
    look = finds_first identity n f fs t;
    starts = λ header count e. cond-true (same_identity f.identity header.identity) _ _ (ap (same_identity f.identity) e ∙ t);
    at_now = λ y. refl;
    look_now = λ y h. finds_first identity n y fs h;
  })
  | inr t ↦ elim (where_is r identity (n + 1) fs) [
    | inl k ↦ inl (record {
      place = suc k.place;
      file = k.file;
      at = k.at;
      same = k.same;
      position = ap (λ b. cond (not b) (1 + position_or_len p fs) 0) t ∙ (let e : 1 + position_or_len p fs ≡ suc k.place = omega (arith, k.position) in e);
      look = passes_over identity n k.place f k.file fs t k.look;
      starts = λ header count e.
          cond-false (same_identity f.identity header.identity) _ _ (ap (same_identity f.identity) e ∙ t)
          ∙ ap (mapped (λ gs. f ∷ gs)) (k.starts header count e)
          ∙ mapped-mapped (λ gs. f ∷ gs) (λ y. set fs k.place y) (gone_on header count k.file k.file.state);
      at_now = k.at_now;
      look_now = λ y h. passes_over identity n k.place f y (set fs k.place y) t (k.look_now y h);
    })
    | inr k ↦ inr (record {
      position = ap (λ b. cond (not b) (1 + position_or_len p fs) 0) t ∙ (let e : 1 + position_or_len p fs ≡ suc (length fs) = omega (arith, k.position) in e);
      look = cond-false (same_identity f.identity identity) (Some (incoming_entry n f)) _ t ∙ k.look;
      starts = λ header count e.
          cond-false (same_identity f.identity header.identity) _ _ (ap (same_identity f.identity) e ∙ t)
          ∙ ap (mapped (λ gs. f ∷ gs)) (k.starts header count e)
          ∙ mapped-mapped (λ gs. f ∷ gs) (λ y. fs ++ y ∷ []) (begun r header count);
      at_now = k.at_now;
      look_now = λ y h. passes_over identity n (length fs) f y (fs ++ y ∷ []) t (k.look_now y h);
    })
  ]
]
  where
    p : Incoming → Bool
    p g = same_identity g.identity identity

-- What an accepted start leaves.
module _ (r s : Register) (header : Incoming) (count : ℕ) (silent : header.response ≡ None) (made : started r header count ≡ Ok s) where
  abbrev identity : Identity
  identity = header.identity

  abbrev number : ℕ
  number = number_of r identity

  -- a file that existed
  again_leaves : IsSound r → StandsAt r identity 1 r.incoming → IsStarted r s header count
  again_leaves sound k =
      let part = mapped_ok (λ files. record r { incoming = files }) (started_in r header count r.incoming) s made in
      let step = mapped_ok (λ y. set r.incoming k.place y) (gone_on header count k.file k.file.state) part.0 (sym (k.starts header count refl) ∙ part.1) in
      let y = step.0 in
      let gone = gone_on_ok header count k.file k.file.state y step.1 in
      let number_is : number ≡ suc k.place = omega (arith, k.position) in
      let counted : 1 + k.place ≡ number = omega (arith, k.position) in
      let entry : entry_at number r.incoming ≡ Some k.file = ap (λ n. entry_at n r.incoming) number_is ∙ k.at in
      let none : k.file.response ≡ None = open_silent k.file (all_at IsSoundIncoming number r.incoming k.file sound.incoming entry) gone.0 in
      let rows = rows_of_incoming r number k.file entry in
      let file : y ≡ started_file r header count =
      sym gone.1
      ∙ ap (λ (o : Option Issued). let f : Incoming = record header { rows = take count k.file.rows; response = o } in f) (none ∙ sym silent)
      ∙ ap (λ (x : List (List ℕ)). let f : Incoming = record header { rows = take count x } in f) (sym rows) in
      let files : set r.incoming k.place y ≡ s.incoming = step.2 ∙ ap (λ (z : Register). z.incoming) part.2 in
      let name : same_identity y.identity identity ≡ true = ap (λ (f : Incoming). same_identity f.identity identity) file ∙ same_self identity in
      record {
        kept = subst (λ x. count ≤ length x) (sym rows) (ltb-false (length k.file.rows) count gone.2);
        entry = ap (λ n. entry_at n s.incoming) number_is ∙ ap (λ xs. slice_get xs k.place) (sym files) ∙ k.at_now y ∙ ap Some file;
        look = ap (λ xs. find (is_of identity) (numbered incoming_entry 1 xs)) (sym files) ∙ k.look_now y name
            ∙ ap (λ m. Some (incoming_entry m y)) counted ∙ ap (λ f. Some (incoming_entry number f)) file;
      }

  -- a new one
  new_leaves : header.rows ≡ [] → IsNew r identity 1 r.incoming → IsStarted r s header count
  new_leaves blank k =
      let part = mapped_ok (λ files. record r { incoming = files }) (started_in r header count r.incoming) s made in
      let step = mapped_ok (λ y. r.incoming ++ y ∷ []) (begun r header count) part.0 (sym (k.starts header count refl) ∙ part.1) in
      let y = step.0 in
      let first = begun_ok r header count y step.1 in
      let number_is : number ≡ suc (length r.incoming) = omega (arith, k.position) in
      let counted : 1 + length r.incoming ≡ number = omega (arith, k.position) in
      let cut : take count (file_rows r side.Incoming number) ≡ header.rows = ap (λ n. take n (file_rows r side.Incoming number)) first.1 ∙ sym blank in
      let file : y ≡ started_file r header count =
      sym first.0 ∙ ap (λ (x : List (List ℕ)). let f : Incoming = record header { rows = x } in f) (sym cut) in
      let files : r.incoming ++ y ∷ [] ≡ s.incoming = step.2 ∙ ap (λ (z : Register). z.incoming) part.2 in
      let name : same_identity y.identity identity ≡ true = ap (λ (f : Incoming). same_identity f.identity identity) file ∙ same_self identity in
      record {
        kept = omega (arith, first.1);
        entry = ap (λ n. entry_at n s.incoming) number_is ∙ ap (λ xs. slice_get xs (length r.incoming)) (sym files) ∙ k.at_now y ∙ ap Some file;
        look = ap (λ xs. find (is_of identity) (numbered incoming_entry 1 xs)) (sym files) ∙ k.look_now y name
            ∙ ap (λ m. Some (incoming_entry m y)) counted ∙ ap (λ f. Some (incoming_entry number f)) file;
      }

-- a start that a register accepts leaves the file under its number
pub starts_are_found : StartsAreFound
unfolding apply
starts_are_found r s identity format longest description count sound made =
    let header = new_incoming identity format longest description in
    elim (where_is r identity 1 r.incoming) [
      | inl k ↦ again_leaves r s header count refl made sound k
      | inr k ↦ new_leaves r s header count refl made refl k
    ]

-- Which starts are fit.

-- a premise on a file if it is open
if_open_from : (state : IncomingState) (P : Type 0) → (state ≡ Open → P) → IfOpen state P
if_open_from Open P h = h refl
if_open_from Whole P h = tt

-- a file that starts at its first row may start
from_first : (format : Format) (longest : ℕ) (rows : List (List ℕ)) (count : ℕ) → count ≡ 0 → AreFullRows format longest (take count rows)
from_first format longest rows count h = subst (λ n. AreFullRows format longest (take n rows)) (sym h) (full-nil format longest)

pub first_fit : (r : Register) (identity : Identity) (format : Format) (longest : ℕ) (description : List ℕ) (count : ℕ) → IsLongest format longest → count ≡ 0
    → IsFit r (Start identity format longest description count)
unfolding IsFit MayStart
first_fit r identity format longest description count size h =
    (size, all_from (MayStart identity format longest count) r.incoming (λ n x at t. if_open_from x.state _ (λ _ _. from_first format longest x.rows count h)))

-- so may one that goes on in its own format
pub again_fit : (r : Register) (identity : Identity) (format : Format) (longest : ℕ) (description : List ℕ) (count : ℕ) → IsSound r → IsLongest format longest
    → (k : StandsAt r identity 1 r.incoming) → k.file.format ≡ format → k.file.longest ≡ longest → IsFit r (Start identity format longest description count)
unfolding IsFit MayStart
again_fit r identity format longest description count sound size k same_format same_longest =
    let one : named incoming_name identity r.incoming ≡ Some k.file = found_named incoming_name k.place r.incoming k.file identity sound.incoming_once k.at k.same in
    let file_sound = all_at IsSoundIncoming (suc k.place) r.incoming k.file sound.incoming k.at in
    let full : k.file.state ≡ Open → AreFullRows format longest k.file.rows = λ is. (
    subst (λ f. AreFullRows f longest k.file.rows) same_format (subst (λ l. AreFullRows k.file.format l k.file.rows) same_longest (open_rows k.file file_sound is))) in
    let goes_on : MayGoOn format longest count k.file = if_open_from k.file.state _ (λ is _. full-take format longest count k.file.rows (full is)) in (
      size,
      all_from (MayStart identity format longest count) r.incoming (λ n x at t. (
          let found : named incoming_name identity r.incoming ≡ Some x = found_named incoming_name n r.incoming x identity sound.incoming_once at t in
          let same : k.file ≡ x = (let q : Some k.file ≡ Some x = sym one ∙ found in cc) in
          subst (MayGoOn format longest count) same goes_on)),
    )

-- What the answer to SFID accepts.

-- what an accepted offer says
pub record IsAcceptedOffer (sfid : Sfid) (found : Option IncomingEntry) (is_full : Bool) (terms : Terms) (count : ℕ) : Type 0 where
  pub sized : has_length sfid.layout ≡ true
  pub open_yet : is_received found ≡ false
  pub fits : (is_none found && is_full) ≡ false
  pub count_is : restart_position sfid found terms.restart ≡ count

goes_past : (b : Bool) (reason : StartReason) (retry : Bool) (x : StartVerdict) (count : ℕ) → cond b (start.Refuse reason retry) x ≡ start.Accept count
    → (b ≡ false) × (x ≡ start.Accept count)
goes_past true reason retry x count h = absurd (cc)
goes_past false reason retry x count h = (refl, h)

pub accepted : (sfid : Sfid) (found : Option IncomingEntry) (is_full : Bool) (terms : Terms) (count : ℕ) → start_verdict sfid found is_full terms ≡ start.Accept count
    → IsAcceptedOffer sfid found is_full terms count
accepted sfid found is_full terms count h =
    let h1 = goes_past (not terms.receives) FileDirectionRefused false _ count h in
    let h2 = goes_past (not (is_plain sfid)) Unspecified false _ count h1.1 in
    let h3 = goes_past (is_empty sfid.dataset) InvalidFilename false _ count h2.1 in
    let h4 = goes_past (not (bytes_eq sfid.destination terms.station)) InvalidDestination false _ count h3.1 in
    let h5 = goes_past (not (bytes_eq sfid.originator terms.partner)) InvalidOrigin false _ count h4.1 in
    let h6 = goes_past (not (has_length sfid.layout)) MaximumRecordLengthNotSupported false _ count h5.1 in
    let h7 = goes_past (nat_lt (terms.limits.octets / SIZE_UNIT) sfid.size) FileSizeTooBig false _ count h6.1 in
    let h8 = goes_past (is_received found) DuplicateFile false _ count h7.1 in
    let h9 = goes_past (is_none found && is_full) Unspecified true _ count h8.1 in
    let q : start.Accept (restart_position sfid found terms.restart) ≡ start.Accept count = h9.1 in
    record { sized = not-false (has_length sfid.layout) h6.0; open_yet = h8.0; fits = h9.0; count_is = cc }

record_size : (longest : ℕ) → (nat_lt 0 longest && nat_le longest LONGEST_RECORD) ≡ true → (0 < longest) × (longest ≤ LONGEST_RECORD)
record_size longest h =
    let p = and_parts (nat_lt 0 longest) (nat_le longest LONGEST_RECORD) h in
    (ltb-true 0 longest p.0, leb-true longest LONGEST_RECORD p.1)

pub layout_size : (l : Layout) → has_length l ≡ true → IsLongest (format_of l) (longest_of l)
layout_size (layout.Fixed longest) h = record_size longest h
layout_size (layout.Variable longest) h = record_size longest h
layout_size layout.Unstructured h = refl
layout_size layout.Text h = refl

formats_same : (a b : Format) → same_format a b ≡ true → a ≡ b
formats_same Fixed Fixed h = refl
formats_same Variable Variable h = refl
formats_same Unstructured Unstructured h = refl
formats_same Text Text h = refl
formats_same _ _ h = absurd (cc)

-- the row from which an existing file goes on
pub goes_from : (sfid : Sfid) (n : ℕ) (file : Incoming) (restart : Bool) (count : ℕ) → restart_position sfid (Some (incoming_entry n file)) restart ≡ count
    → (count ≤ length file.rows) × ((count ≡ 0) ⊎ ((file.format ≡ format_of sfid.layout) × (file.longest ≡ longest_of sfid.layout)))
goes_from sfid n file restart count h = by (restart && same) refl h
  where
    same : Bool
    same = same_format file.format (format_of sfid.layout) && file.longest == longest_of sfid.layout

    by : (b : Bool) → (restart && same) ≡ b → cond b (min sfid.restart (length file.rows)) 0 ≡ count
        → (count ≤ length file.rows) × ((count ≡ 0) ⊎ ((file.format ≡ format_of sfid.layout) × (file.longest ≡ longest_of sfid.layout)))
    by true e g =
        let p = and_parts (same_format file.format (format_of sfid.layout)) (file.longest == longest_of sfid.layout) (and_parts restart same e).1 in
        (omega (arith, g), inr (formats_same file.format (format_of sfid.layout) p.0, eqb-true file.longest (longest_of sfid.layout) p.1))
    by false e g = (omega (arith, g), inl (sym g))

not_whole : (state : IncomingState) → is_whole state ≡ false → state ≡ Open
not_whole Open h = refl
not_whole Whole h = absurd (cc)

not_none : (o : Option IncomingEntry) (full : Bool) → o ≡ None → (is_none o && full) ≡ false → full ≡ false
not_none None full e h = h
not_none (Some x) full e h = absurd (cc)

-- what is accepted is started
pub accepted_starts : AcceptedStarts
unfolding apply
accepted_starts r sfid identity terms count sound h =
    let a = accepted sfid (look_in r identity) (files_full r side.Incoming) terms count h in
    let format = format_of sfid.layout in
    let longest = longest_of sfid.layout in
    let size = layout_size sfid.layout a.sized in
    let header = new_incoming identity format longest sfid.description in
    let done : (ys : List Incoming) → started_in r header count r.incoming ≡ Ok ys → (s : Register) × (started r header count ≡ Ok s) = λ ys e.
    (record r { incoming = ys }, ap (mapped (λ files. record r { incoming = files })) e) in
    elim (where_is r identity 1 r.incoming) [
      | inl k ↦ (let opened : k.file.state ≡ Open = not_whole k.file.state (ap is_received (sym k.look) ∙ a.open_yet) in
          let from = goes_from sfid (1 + k.place) k.file terms.restart count (ap (λ o. restart_position sfid o terms.restart) (sym k.look) ∙ a.count_is) in
          let next : Incoming = record header { rows = take count k.file.rows; response = k.file.response } in
          let past = nat_lt (length k.file.rows) count in
          let goes : gone_on header count k.file k.file.state ≡ Ok next =
          ap (gone_on header count k.file) opened ∙ cond-false past (Err State) (Ok next) (le-ltb (length k.file.rows) count from.0) in
          let fit : IsFit r (Start identity format longest sfid.description count) = elim from.1 [
            | inl z ↦ first_fit r identity format longest sfid.description count size z
            | inr q ↦ again_fit r identity format longest sfid.description count sound size k q.0 q.1
          ] in
          (fit, done (set r.incoming k.place next) (k.starts header count refl ∙ ap (mapped (λ y. set r.incoming k.place y)) goes)))
      | inr k ↦ (let none : count ≡ 0 = sym (ap (λ o. restart_position sfid o terms.restart) (sym k.look) ∙ a.count_is) in
          let free : nat_le r.limits.files (length r.incoming) ≡ false = not_none (look_in r identity) (files_full r side.Incoming) k.look a.fits in
          let begins : begun r header count ≡ Ok header = ap (begun r header) none ∙ cond-false (nat_le r.limits.files (length r.incoming)) (Err Full) (Ok header) free in
          let fit = first_fit r identity format longest sfid.description count size none in
          (fit, done (r.incoming ++ header ∷ []) (k.starts header count refl ∙ ap (mapped (λ y. r.incoming ++ y ∷ [])) begins)))
    ]
