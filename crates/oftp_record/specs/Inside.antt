-- What private contracts alone cite: entries of one length, one after another, and one that was passed over.
use Rattle.std.specs.Prelude.{◌≡◌, ℕ, ◌+◌, ◌*◌, ◌<◌, ◌≤◌, List, [], ◌∷◌, drop, length}
use Rattle.oftp_record.specs.Entries.{noted}
use Rattle.oftp_record.specs.Next.{IsNext, Whole, passed_noted}
use Rattle.oftp_record.specs.declared.eight_read.PassedEntry.{PassedEntry}
use Rattle.oftp_record.specs.declared.next.StoredEntry.{StoredEntry}

-- this entry is to be told of octets that have entries of `stride` octets each, at this place
pub record IsAt (stride : ℕ) (octets : List ℕ) (place : ℕ) (before : List ℕ) (p : PassedEntry) : Type 0 where
  pub next : IsNext before (drop (place * stride) octets) (Whole (passed_noted (drop (place * stride) octets) p) p.length p.digest.0)
  pub size : p.length ≡ stride

-- these entries are to be told of them from this place on
abbrev pub AreAt : ℕ → List ℕ → ℕ → List ℕ → List PassedEntry → Type 0
AreAt stride octets place before [] = Unit {0}
AreAt stride octets place before (p ∷ more) = IsAt stride octets place before p × AreAt stride octets (place + 1) p.digest.0 more

-- an entry that was passed over, as it stands at the beginning of octets
pub record IsStoredAt (octets : List ℕ) (p : PassedEntry) (stored : StoredEntry) : Type 0 where
  pub entry : noted stored.entry ≡ passed_noted octets p
  pub length_is : stored.length ≡ p.length
  pub digest_is : stored.digest ≡ p.digest
  pub some : 0 < stored.length
  pub within : stored.length ≤ length octets
