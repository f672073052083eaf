-- An octet of an entry that was changed, and that it is told.
use Rattle.std.specs.Prelude.{◌≡◌, ◌≢◌, ℕ, ◌-◌, ◌<◌, ◌≤◌, ◌⊎◌, List, ◌++◌, length, take, drop, slice_index, slice_set}
use Rattle.oftp_record.specs.Entries.{Noted, chained, entry_length, entry_octets}
use Rattle.oftp_record.specs.Next.{Changed}
use Rattle.oftp_record.specs.Records.{IsRead, last_digest}
use Rattle.oftp_record.specs.declared.chain.TheConstants.{DIGEST_LEN}
use Rattle.oftp_record.specs.declared.header.TheConstants.{COUNT_AT, HEADER_LEN, KIND_AT}
use Rattle.oftp_record.specs.declared.next.Alteration.{Alteration}

-- one of these octets was changed
pub record IsChangedAt (was octets : List ℕ) (at : ℕ) : Type 0 where
  pub octet : ℕ
  pub small : octet < 256
  pub within : at < length was
  pub other : octet ≢ slice_index was at
  pub is : octets ≡ slice_set was at octet

-- a place in an entry of `count` octets that the digest alone guards: the kind, the moment, and the content
abbrev pub IsGuardedByDigest : ℕ → ℕ → Type 0
IsGuardedByDigest count at = (KIND_AT ≤ at) × (at < count - DIGEST_LEN) × ((at < COUNT_AT) ⊎ (HEADER_LEN ≤ at))

-- the digest at the end of an entry's octets is another than that of the octets before it
abbrev pub EndsWithOtherDigest : List ℕ → List ℕ → Type 0
EndsWithOtherDigest before octets =
    drop (length octets - DIGEST_LEN) octets ≡ chained (take (length octets - DIGEST_LEN) octets) before → ⊥

-- These are the octets of an entry behind these entries, but for one octet. If the digest alone guards that, it is another than it should be.
pub record IsChangedBehind (before : List ℕ) (entries : List Noted) (entry : Noted) (octets : List ℕ) : Type 0 where
  pub at : ℕ
  pub changed : IsChangedAt (entry_octets entry (last_digest before entries)) octets at
  pub told : IsGuardedByDigest (entry_length entry) at → EndsWithOtherDigest (last_digest before entries) octets

-- the octets are read as these entries, and then it is told that something was changed
pub record TellsChange (before octets : List ℕ) (entries : List Noted) : Type 0 where
  pub sign : Alteration
  pub read : IsRead before octets entries (Changed sign)
