-- An entry of a record as octets: a header of fixed length, a content, and a digest. By the digests the entries of a record are a chain.
use Rattle.std.specs.Prelude.{ℕ, ◌+◌, ◌-◌, ◌^◌, ◌<◌, ◌≤◌, List, ◌∷◌, ◌++◌, codes, length, replicate}
use Rattle.std.specs.Int.{w32, w64, to_be_bytes}
use Rattle.sha2.specs.Sha256.{sha256}
use Rattle.oftp_record.specs.declared.chain.TheConstants.{DIGEST_LEN}
use Rattle.oftp_record.specs.declared.entry.RecordEntry.{RecordEntry}
use Rattle.oftp_record.specs.declared.header.TheConstants.{HEADER_LEN, LONGEST_CONTENT}
use Rattle.oftp_record.specs.declared.kind.RecordKind.{RecordKind}
use Rattle.oftp_record.specs.declared.kind.RecordKind.TheVariants as kinds

-- what an entry tells
pub record Noted : Type 0 where
  pub kind : RecordKind
  pub moment : ℕ  -- microseconds since 1970 began
  pub content : List ℕ

-- what an entry tells whose content is borrowed
abbrev pub noted : RecordEntry → Noted
noted entry = record { kind = entry.kind; moment = entry.moment; content = entry.content.now }

-- an entry that can be written
pub record IsEntry (entry : Noted) : Type 0 where
  pub moment : entry.moment < 2 ^ 64
  pub content : length entry.content ≤ LONGEST_CONTENT

-- the number of a kind
abbrev pub kind_number : RecordKind → ℕ
kind_number kinds.Opening = 1
kind_number kinds.Session = 2
kind_number kinds.OctetsIn = 3
kind_number kinds.OctetsOut = 4
kind_number kinds.End = 5
kind_number kinds.Call = 6
kind_number kinds.Backup = 7
kind_number kinds.Mark = 8

-- The header of an entry whose content has `count` octets. That count stands there twice, the second time as what it lacks of the greatest number of
-- 32 bits. So none is read where one octet of it was changed.
abbrev pub entry_header : RecordKind → ℕ → ℕ → List ℕ
entry_header kind moment count =
    codes "OREC2" ++ (kind_number kind ∷ (to_be_bytes w64 moment ++ (to_be_bytes w32 count ++ to_be_bytes w32 (2 ^ 32 - 1 - count))))

-- its header and its content
abbrev pub entry_body : Noted → List ℕ
entry_body entry = entry_header entry.kind entry.moment (length entry.content) ++ entry.content

-- the digest that stands behind a header and a content, and before which the digest `before` stood
abbrev pub chained : List ℕ → List ℕ → List ℕ
chained body before = sha256 (sha256 body ++ before)

-- its digest, behind an entry whose digest is `before`
abbrev pub entry_digest : Noted → List ℕ → List ℕ
entry_digest entry before = chained (entry_body entry) before

-- the octets of an entry, behind one whose digest is `before`
abbrev pub entry_octets : Noted → List ℕ → List ℕ
entry_octets entry before = entry_body entry ++ entry_digest entry before

-- how many they are
abbrev pub entry_length : Noted → ℕ
entry_length entry = HEADER_LEN + length entry.content + DIGEST_LEN

-- what takes the place of a digest before the first entry
abbrev pub no_digest : List ℕ
no_digest = replicate DIGEST_LEN 0
