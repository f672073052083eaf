-- Files that hold no table are read as an empty database.
use Rattle.std.proofs.Common.{◌≡◌, ◌<◌, ◌-◌, ◌*◌, ℕ, List, [], length, take, slice_index, Option, Some, unwrap_or, inl, inr, sym, ap, subst, ◌∙◌, arith, get_or-take, length-take, zero-add, refl, true, false}
use Rattle.std.proofs.Math.Logic.{∥∥₁_elim}
use Rattle.sqlite.specs.Tree.{Trees}
use Rattle.sqlite.specs.Effect.{Database}
use Rattle.sqlite.specs.State.{State}
use Rattle.sqlite.specs.Files.{AreFoundIn, HoldsDatabase, IsNothing}
use Rattle.sqlite.specs.Files as files
use Rattle.sqlite.specs.Recovery.{Image, Pages, pages_after}
use Rattle.sqlite.proofs.ListingLemmas.{empty_is_sound}
use Rattle.sqlite_wal.specs.Format.{part}
use Rattle.sqlite_wal.proofs.AppendLemmas.{page_from_pages, some_value}
use Rattle.sqlite_wal.proofs.PartLemmas.{part_within, slice_index-part}
use Rattle.sqlite_wal.proofs.RecoveryLemmas.{replays_once}
use Rattle.sqlite_pool.specs.File.{IsSoundFile, header_in}
use Rattle.sqlite_pool.specs.Opening.{IsBlankFile}
use Rattle.sqlite_pool.specs.Stored.{Adopts, stored_size, used_size}
use Rattle.sqlite_pool.specs.StoredLaws.{trimmed_some}
use Rattle.sqlite_pool.proofs.ProbeLemmas.{first_byte}
use Rattle.sqlite_catalog.specs.Listing.{IsSound}
use Rattle.oftp_tables.specs.Schema.{no_schema}
use Rattle.oftp_tables.specs.Making.{IsEmpty}
use Rattle.oftp_tables.proofs.SchemaLemmas.{same_none}
use Rattle.oftp_store.specs.Opens.{HoldsNoTable}
use Rattle.oftp_store.proofs.OpenLemmas.{IsReadFrom}

-- ---- pages of a database don't come from files that hold none

module _ (size : ℕ) (image : Image) (pages : Pages) (found : Adopts size image pages) (sound : IsSoundFile size pages) where
  -- where no frame of the log is taken, the database file begins as SQLite's do
  begins : found.found.frames ≡ 0 → (1 < length image.db) × (slice_index image.db 0 ≡ 83)
  begins none =
      let whole = stored_size size in
      let raw = found.found in
      let (page, is) = some_value (found.stored 1) found.whole.first in
      let used : pages 1 ≡ Some (take size page) = ap (λ (p : Pages). p 1) (sym found.shows) ∙ trimmed_some size _ 1 page is in
      let head : header_in pages ≡ take 100 (take size page) = ap (λ (o : Option (List ℕ)). take 100 (unwrap_or o [])) used in
      let sixteen : length (take 16 (take 100 (take size page))) ≡ 16 = ap (λ (b : List ℕ). length (take 16 b)) (sym head) ∙ ap length sound.header.0.magic in
      let large : 15 < size = omega (arith, sixteen, length-take 16 (take 100 (take size page)), length-take 100 (take size page), length-take size page) in
      let alone : pages_after whole image.log image.db 0 1 ≡ Some page = ap (λ (p : Pages). p 1) (ap (pages_after whole image.log image.db) (sym none) ∙ raw.gives) ∙ is in
      let start : (1 - 1) * whole ≡ 0 = omega arith in
      let front : part image.db 0 whole ≡ page = ap (λ (at : ℕ). part image.db at whole) (sym start) ∙ (page_from_pages whole image.log image.db 0 1 page alone).0 in
      let long = part_within image.db 0 whole (omega (arith, large)) (ap length front ∙ found.whole.sized 1 page is) in
      let magic : slice_index (take 100 (take size page)) 0 ≡ 83 =
      ap (λ (b : List ℕ). slice_index b 0) (sym head) ∙ sym (get_or-take 16 (header_in pages) 0 0 (omega arith)) ∙ ap (λ (b : List ℕ). slice_index b 0) sound.header.0.magic in (
        omega (arith, long, large),
        ap (slice_index image.db) (sym (zero-add 0)) ∙ sym (slice_index-part image.db 0 whole 0 (omega (arith, large))) ∙ ap (λ (b : List ℕ). slice_index b 0) front
            ∙ sym (get_or-take size page 0 0 (omega (arith, large))) ∙ sym (get_or-take 100 (take size page) 0 0 (omega arith)) ∙ magic,
      )

  not_blank : (other : ℕ) → 0 < other → ¬ IsBlankFile other image
  not_blank other some (inl none) = omega (arith, found.found.present)
  not_blank other some (inr blank) =
      let raw = found.found in
      let none : raw.frames ≡ 0 = elim blank.0 [
        | inl ignored ↦ replays_once (stored_size size) image.log raw.frames 0 raw.replays (inl (ignored.0, refl))
        | inr taken ↦ elim raw.replays [
          | inl ignored ↦ ignored.1
          | inr ours ↦ replays_once (stored_size size) image.log raw.frames 0 raw.replays (rw (sym ours.0.head.size ∙ taken.0.head.size) blank.0)
        ]
      ] in
      let (long, magic) = begins none in
      elim blank.1.0 [
        | inl short ↦ omega arith
        | inr more ↦ elim more [ inl nul ↦ omega (arith, nul.1, magic) | inr rest ↦ rest.1 (magic ∙ sym (first_byte other some)) ]
      ]

  something : ¬ IsNothing image
  something nothing = elim nothing [ inl plain ↦ not_blank (used_size 4096 false) (omega arith) plain | inr summed ↦ not_blank (used_size 4096 true) (omega arith) summed ]

nothing_is_read : (image : Image) (db : Trees) → AreFoundIn image db → IsNothing image → files.IsEmpty db
nothing_is_read image db (inl found) nothing =
    absurd (∥∥₁_elim found.4 (λ p q. absurd p) (λ ours. something found.0 image found.1 found.3 ours.file.sound nothing))
nothing_is_read image db (inr found) nothing = found.1

-- a connection over files that hold no table shows an empty database
pub no_table_is_read : (image : Image) (s : State) → IsReadFrom (HoldsDatabase image) s → AreFoundIn image s.committed.trees → HoldsNoTable image → IsEmpty s.now
no_table_is_read image s read found (inl nothing) =
    let empty : IsSound no_schema s.committed.trees = empty_is_sound s.committed.trees (nothing_is_read image s.committed.trees found nothing).1 in
    let same : s.committed.trees ≡ s.now.trees = sym (ap (λ (d : Database). d.trees) read.settled) in
    same_none s.now.schema s.now.trees (subst (IsSound no_schema) same empty) read.sound
no_table_is_read image s read found (inr held) =
    same_none s.now.schema s.now.trees (subst (IsSound no_schema) (sym (read.holds held.0 held.1)) held.2) read.sound
