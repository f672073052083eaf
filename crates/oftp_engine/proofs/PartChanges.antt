-- What each change does to the entry of a file that comes in parts.
use Rattle.std.proofs.Common.{◌≡◌, ℕ, List, [], ◌++◌, take, Option, None, Some, Result, Ok, refl, sym, ◌∙◌, subst, inl, inr}
use Rattle.std.specs.Prelude.{⊤}
use Rattle.oftp_vfile.specs.declared.format.Format.{Format}
use Rattle.oftp_vfile.specs.VirtualFile.{BeginsWith}
use Rattle.oftp_register.specs.declared.change.Cause.{Cause}
use Rattle.oftp_register.specs.declared.change.Change.{Change}
use Rattle.oftp_register.specs.declared.change.Change.TheVariants as change
use Rattle.oftp_register.specs.declared.entry.Dispatch.TheVariants.{Due}
use Rattle.oftp_register.specs.declared.entry.Identity.{Identity}
use Rattle.oftp_register.specs.declared.entry.IncomingState.TheVariants.{Open, Whole}
use Rattle.oftp_register.specs.Register.{Register, Incoming, Outgoing, Issued, Received}
use Rattle.oftp_register.specs.Changes.{apply, at_number, closed, closing, given_up, handed, issued, kept, marked, new_incoming, new_outgoing, on_incoming, on_outgoing, refused, reopened, sent, started, started_in}
use Rattle.oftp_register.specs.LookUps.{entry_at}
use Rattle.oftp_register.specs.Soundness.{IsSound}
use Rattle.oftp_register.specs.ByIdentity.{WasStarted, in_at, incoming_name}
use Rattle.oftp_register.proofs.NumberLemmas.{mapped_ok}
use Rattle.oftp_register.proofs.IncomingLemmas.{closed_same, given_up_same, if_open_ok, issued_on_ok, issued_same, kept_same, sent_of_ok, sent_same}
use Rattle.oftp_register.proofs.AdditionLemmas.{filed_ok, submitted_ok}
use Rattle.oftp_register.proofs.ByIdentityLemmas.{changed_named, started_named}
use Rattle.oftp_engine.specs.Parts.{File, IsSoFar, IsUnbroken}
use Rattle.oftp_engine.proofs.PartRows.{cut_begins}

-- the grounds of a change of the file: rows that are kept continue a beginning of it, and those that close it make it whole
abbrev pub PartGrounds : File → Identity → Register → Change → Type 0
PartGrounds file identity r (change.Keep n rows) =
    (e : Incoming) → entry_at n r.incoming ≡ Some e → e.identity ≡ identity → BeginsWith file.rows (e.rows ++ rows)
PartGrounds file identity r (change.Close n rows) =
    (e : Incoming) → entry_at n r.incoming ≡ Some e → e.identity ≡ identity → IsUnbroken file (record e { rows = e.rows ++ rows; state = Whole })
PartGrounds file identity r _ = ⊤

module _ (file : File) where
  -- entries

  kept_entry : (rows : List (List ℕ)) (x y : Incoming) → kept rows x ≡ Ok y → BeginsWith file.rows (x.rows ++ rows) → IsSoFar file (Some y)
  kept_entry rows x y h begins =
      let made = if_open_ok x (x.rows ++ rows) Open x.state y h in
      let begun : IsSoFar file (Some (record x { rows = x.rows ++ rows; state = Open })) = inl (record { opened = refl; rows = begins }) in
      subst (λ (z : Incoming). IsSoFar file (Some z)) made.1 begun

  closed_entry : (rows : List (List ℕ)) (x y : Incoming) → closed rows x ≡ Ok y → IsUnbroken file (record x { rows = x.rows ++ rows; state = Whole })
      → IsSoFar file (Some y)
  closed_entry rows x y h whole =
      let made = if_open_ok x (x.rows ++ rows) Whole x.state y h in
      subst (λ (z : Incoming). IsSoFar file (Some z)) made.1 (inr whole)

  given_entry : (x y : Incoming) → given_up x ≡ Ok y → IsSoFar file (Some y)
  given_entry x y h =
      let made = if_open_ok x [] Open x.state y h in
      let begun : IsSoFar file (Some (record x { rows = []; state = Open })) = inl (record { opened = refl; rows = (file.rows, refl) }) in
      subst (λ (z : Incoming). IsSoFar file (Some z)) made.1 begun

  answered_entry : (x : Incoming) (answer : Option Issued) → IsSoFar file (Some x) → IsSoFar file (Some (record x { response = answer }))
  answered_entry x answer was = elim was [
    | inl b ↦ inl (record { opened = b.opened; rows = b.rows })
    | inr u ↦ inr (record { whole = u.whole; format = u.format; longest = u.longest; rows = u.rows })
  ]

  issued_entry : (response : Issued) (x y : Incoming) → issued response x ≡ Ok y → IsSoFar file (Some x) → IsSoFar file (Some y)
  issued_entry response x y h was =
      subst (λ (z : Incoming). IsSoFar file (Some z)) (issued_on_ok response x x.state y h).1 (answered_entry x (Some response) was)

  sent_entry : (x y : Incoming) → sent x ≡ Ok y → IsSoFar file (Some x) → IsSoFar file (Some y)
  sent_entry x y h was =
      let made = sent_of_ok x x.response y h in
      subst (λ (z : Incoming). IsSoFar file (Some z)) made.3 (answered_entry x (Some made.1) was)

  -- a start cuts the rows to a beginning
  started_entry : (identity : Identity) (format : Format) (longest : ℕ) (description : List ℕ) (count : ℕ) (old : Option Incoming) (new : Incoming)
      → WasStarted (new_incoming identity format longest description) count old new → IsSoFar file old → IsSoFar file (Some new)
  started_entry identity format longest description count None new was so_far =
      let header = new_incoming identity format longest description in
      let begun : IsSoFar file (Some header) = inl (record { opened = refl; rows = (file.rows, refl) }) in
      subst (λ (z : Incoming). IsSoFar file (Some z)) (sym was.0) begun
  started_entry identity format longest description count (Some old) new was so_far =
      let next : Incoming = record (new_incoming identity format longest description) { rows = take count old.rows; response = old.response } in
      let cut : IsSoFar file (Some next) = elim so_far [
        | inl b ↦ inl (record { opened = refl; rows = cut_begins file.rows old.rows b.rows count })
        | inr u ↦ absurd (let both : Whole ≡ Open = sym u.whole ∙ was.0 in cc)
      ] in
      subst (λ (z : Incoming). IsSoFar file (Some z)) (sym was.2) cut

  module _ (identity : Identity) (r s : Register) (was : IsSoFar file (in_at r identity)) where
    abbrev IsSo : Identity → Option Incoming → Type 0
    IsSo i o = i ≡ identity → IsSoFar file o

    first : (i : Identity) → IsSo i (in_at r i)
    first i is = subst (λ j. IsSoFar file (in_at r j)) (sym is) was

    -- a change of the incoming file with a number
    at_incoming : (g : Incoming → Result Incoming Cause) → ((x y : Incoming) → g x ≡ Ok y → y.identity ≡ x.identity) → (n : ℕ) → IsSound r
        → ((x y : Incoming) → entry_at n r.incoming ≡ Some x → x.identity ≡ identity → g x ≡ Ok y → IsSoFar file (Some x) → IsSoFar file (Some y))
        → on_incoming g n r ≡ Ok s → IsSoFar file (in_at s identity)
    at_incoming g same n sound step h =
        let part = mapped_ok (λ files. record r { incoming = files }) (at_number g n r.incoming) s h in
        let now = changed_named incoming_name g same IsSo n r.incoming part.0 sound.incoming_once part.1 (λ x y e d old is. step x y e is d (old is)) first in
        subst (λ (z : Register). IsSoFar file (in_at z identity)) part.2 (now identity refl)

    -- a change that doesn't concern an incoming file
    at_outgoing : (g : Outgoing → Result Outgoing Cause) (n : ℕ) → on_outgoing g n r ≡ Ok s → IsSoFar file (in_at s identity)
    at_outgoing g n h =
        let part = mapped_ok (λ files. record r { outgoing = files }) (at_number g n r.outgoing) s h in
        subst (λ (z : Register). IsSoFar file (in_at z identity)) part.2 was

    at_start : (i : Identity) (format : Format) (longest : ℕ) (description : List ℕ) (count : ℕ) → started r (new_incoming i format longest description) count ≡ Ok s
        → IsSoFar file (in_at s identity)
    at_start i format longest description count h =
        let header = new_incoming i format longest description in
        let part = mapped_ok (λ files. record r { incoming = files }) (started_in r header count r.incoming) s h in
        let now = started_named IsSo r header count r.incoming part.0 part.1
        (λ old new found begins so is. started_entry i format longest description count old new begins (so is)) first in
        subst (λ (z : Register). IsSoFar file (in_at z identity)) part.2 (now identity refl)

    -- each change
    pub part_change : (k : Change) → IsSound r → PartGrounds file identity r k → apply r k ≡ Ok s → IsSoFar file (in_at s identity)
    unfolding apply
    part_change (change.Submit i format longest description rows) sound g h =
        subst (λ (z : Register). IsSoFar file (in_at z identity)) (submitted_ok r s (new_outgoing i format longest description rows) h).1 was
    part_change (change.Start i format longest description count) sound g h = at_start i format longest description count h
    part_change (change.Keep n rows) sound g h =
        at_incoming (kept rows) (kept_same rows) n sound (λ x y e is d so. kept_entry rows x y d (g x e is)) h
    part_change (change.Close n rows) sound g h =
        at_incoming (closed rows) (closed_same rows) n sound (λ x y e is d so. closed_entry rows x y d (g x e is)) h
    part_change (change.GiveUp n) sound g h = at_incoming given_up given_up_same n sound (λ x y e is d so. given_entry x y d) h
    part_change (change.File kind i reason creator text) sound g h =
        let response : Received = record { kind = kind; identity = i; reason = reason; creator = creator; text = text } in
        subst (λ (z : Register). IsSoFar file (in_at z identity)) (filed_ok r s response h).1 was
    part_change (change.Issue n kind reason text) sound g h =
        let response : Issued = record { kind = kind; reason = reason; text = text; dispatch = Due } in
        at_incoming (issued response) (issued_same response) n sound (λ x y e is d so. issued_entry response x y d so) h
    part_change (change.Mark n rows) sound g h = at_outgoing (marked rows) n h
    part_change (change.BeginClosing n) sound g h = at_outgoing closing n h
    part_change (change.HandOver n) sound g h = at_outgoing handed n h
    part_change (change.Refuse n reason) sound g h = at_outgoing (refused reason) n h
    part_change (change.Reopen n) sound g h = at_outgoing reopened n h
    part_change (change.Send n) sound g h = at_incoming sent sent_same n sound (λ x y e is d so. sent_entry x y d so) h
