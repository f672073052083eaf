-- What stands at the beginning of octets: an entry as it was written, nothing, an entry that is cut off, or none.
use Rattle.std.specs.Prelude.{◌≡◌, ℕ, ◌+◌, ◌-◌, ◌<◌, ◌≤◌, List, [], ◌∷◌, ◌++◌, length, take, drop, Option, Some, None}
use Rattle.oftp_record.specs.Entries.{IsEntry, Noted, entry_body, entry_digest, entry_header, entry_length, entry_octets, noted}
use Rattle.oftp_record.specs.declared.chain.TheConstants.{DIGEST_LEN}
use Rattle.oftp_record.specs.declared.header.TheConstants.{HEADER_LEN, LONGEST_CONTENT}
use Rattle.oftp_record.specs.declared.kind.RecordKind.{RecordKind}
use Rattle.oftp_record.specs.declared.next.Alteration.{Alteration}
use Rattle.oftp_record.specs.declared.next.Alteration.TheVariants as signs
use Rattle.oftp_record.specs.declared.next.NextEntry.{NextEntry}
use Rattle.oftp_record.specs.declared.eight_read.PassedEntry.{PassedEntry}
use Rattle.oftp_record.specs.declared.next.NextEntry.TheVariants as shows

-- What is told of octets. It is an entry with the number of its octets and its digest, the end, or what shows a change. Or it is how many octets
-- are lacking, if that is known.
pub data Next : Type 0 where
  Whole : Noted → ℕ → List ℕ → Next
  Ends : Next
  Cut : Option ℕ → Next
  Changed : Alteration → Next

-- what a caller of `next_entry` is told
abbrev pub shown_next : NextEntry → Next
shown_next (shows.Whole stored) = Whole (noted stored.entry) stored.length stored.digest.0
shown_next shows.End = Ends
shown_next (shows.Cut lacking) = Cut lacking
shown_next (shows.Changed sign) = Changed sign

-- the octets begin with those of an entry behind one whose digest is `before`
pub record BeginsEntry (before octets : List ℕ) (entry : Noted) (count : ℕ) (digest : List ℕ) : Type 0 where
  pub sound : IsEntry entry
  pub stored : octets ≡ entry_octets entry before ++ drop count octets
  pub count_is : count ≡ entry_length entry
  pub digest_is : digest ≡ entry_digest entry before

-- the octets are fewer than those of a header
pub record BreaksInHeader (octets : List ℕ) : Type 0 where
  pub some : 0 < length octets
  pub few : length octets < HEADER_LEN

-- the octets are a header, and so many fewer than its content and a digest
pub record BreaksBehind (octets : List ℕ) (lacking : ℕ) : Type 0 where
  pub kind : RecordKind
  pub moment : ℕ
  pub count : ℕ
  pub part : List ℕ
  pub headed : octets ≡ entry_header kind moment count ++ part
  pub within : count ≤ LONGEST_CONTENT
  pub some : 0 < lacking
  pub lacks : length part + lacking ≡ count + DIGEST_LEN

-- as many octets as a header has are there, and none begins them
pub record HasNoHeader (octets : List ℕ) : Type 0 where
  pub enough : HEADER_LEN ≤ length octets
  pub none : (kind : RecordKind) (moment count : ℕ) (rest : List ℕ) → count ≤ LONGEST_CONTENT → octets ≡ entry_header kind moment count ++ rest → ⊥

-- the octets begin with a header, its content, and another digest than that of an entry behind one whose digest is `before`
pub record HasOtherDigest (before octets : List ℕ) : Type 0 where
  pub entry : Noted
  pub stored : List ℕ
  pub rest : List ℕ
  pub sound : IsEntry entry
  pub parts : octets ≡ entry_body entry ++ (stored ++ rest)
  pub size : length stored ≡ DIGEST_LEN
  pub other : stored ≡ entry_digest entry before → ⊥

-- this is to be told of octets behind an entry whose digest is `before`
abbrev pub IsNext : List ℕ → List ℕ → Next → Type 0
IsNext before octets (Whole entry count digest) = BeginsEntry before octets entry count digest
IsNext before octets Ends = octets ≡ []
IsNext before octets (Cut None) = BreaksInHeader octets
IsNext before octets (Cut (Some lacking)) = BreaksBehind octets lacking
IsNext before octets (Changed signs.Header) = HasNoHeader octets
IsNext before octets (Changed signs.Digest) = HasOtherDigest before octets

-- a whole entry has octets, and all of them are there
abbrev pub IsThere : List ℕ → NextEntry → Type 0
IsThere octets (shows.Whole stored) = (0 < stored.length) × (stored.length ≤ length octets)
IsThere octets shows.End = Unit {0}
IsThere octets (shows.Cut lacking) = Unit {0}
IsThere octets (shows.Changed sign) = Unit {0}

-- what an entry tells that was passed over, at the beginning of octets
abbrev pub passed_noted : List ℕ → PassedEntry → Noted
passed_noted octets p = record { kind = p.kind; moment = p.moment; content = take (p.length - HEADER_LEN - DIGEST_LEN) (drop HEADER_LEN octets) }

-- these entries are to be told of octets, one after another
abbrev pub ArePassed : List ℕ → List ℕ → List PassedEntry → Type 0
ArePassed before octets [] = Unit {0}
ArePassed before octets (p ∷ more) = IsNext before octets (Whole (passed_noted octets p) p.length p.digest.0) × ArePassed p.digest.0 (drop p.length octets) more
