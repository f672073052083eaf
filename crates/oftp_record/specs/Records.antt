-- A record: entries one after another, each behind the one before it, and how octets are read as one.
use Rattle.std.specs.Prelude.{◌≡◌, ℕ, ◌+◌, ◌-◌, ◌<◌, ◌≤◌, nat_lt, ◌==◌, if◌then◌else◌, List, [], ◌∷◌, ◌++◌, length, take, Some, None}
use Rattle.std.specs.List.{AllByRecursion}
use Rattle.oftp_record.specs.Entries.{IsEntry, Noted, entry_digest, entry_length, entry_octets}
use Rattle.oftp_record.specs.Next.{Next, Whole, Ends, Cut, Changed, IsNext}
use Rattle.oftp_record.specs.declared.header.TheConstants.{HEADER_LEN}

-- the octets of entries, the first of them behind one whose digest is `before`
abbrev pub record_octets : List ℕ → List Noted → List ℕ
record_octets before [] = []
record_octets before (entry ∷ entries) = entry_octets entry before ++ record_octets (entry_digest entry before) entries

-- the digest of the last of them
abbrev pub last_digest : List ℕ → List Noted → List ℕ
last_digest before [] = before
last_digest before (entry ∷ entries) = last_digest (entry_digest entry before) entries

-- nothing is read after this is told
abbrev pub IsStop : Next → Type 0
IsStop (Whole entry count digest) = ⊥
IsStop Ends = Unit {0}
IsStop (Cut lacking) = Unit {0}
IsStop (Changed sign) = Unit {0}

-- the octets are read as these entries, one after another, and then this is told
pub record IsRead (before octets : List ℕ) (entries : List Noted) (next : Next) : Type 0 where
  pub rest : List ℕ
  pub whole : octets ≡ record_octets before entries ++ rest
  pub each : AllByRecursion IsEntry entries
  pub told : IsNext (last_digest before entries) rest next
  pub stops : IsStop next

-- what is told of the first `at` octets of an entry that has `count`
abbrev pub cut_next : ℕ → ℕ → Next
cut_next at count = if at == 0 then Ends else (if nat_lt at HEADER_LEN then Cut None else Cut (Some (count - at)))

-- The first `at` octets of a record are read as the entries that are whole there. How the next one is cut off is told.
pub record IsCutRead (before : List ℕ) (entries : List Noted) (at : ℕ) : Type 0 where
  pub whole : List Noted
  pub broken : Noted
  pub later : List Noted
  pub parts : entries ≡ whole ++ broken ∷ later
  pub begun : length (record_octets before whole) ≤ at
  pub ends : at < length (record_octets before whole) + entry_length broken
  pub read : IsRead before (take at (record_octets before entries)) whole (cut_next (at - length (record_octets before whole)) (entry_length broken))
