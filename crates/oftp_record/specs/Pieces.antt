-- Entries of one kind and moment that share out octets: the content of each is a head, and a piece of the octets.
use Rattle.std.specs.Prelude.{ℕ, zero, suc, ◌*◌, List, [], ◌∷◌, ◌++◌, take, drop}
use Rattle.oftp_record.specs.Entries.{Noted}
use Rattle.oftp_record.specs.declared.eight.PieceEntries.{PieceEntries}
use Rattle.oftp_record.specs.declared.kind.RecordKind.{RecordKind}

-- what they share out
pub record Shared : Type 0 where
  pub kind : RecordKind
  pub moment : ℕ
  pub head : List ℕ
  pub octets : List ℕ

-- that of entries whose octets are borrowed
abbrev pub shared : PieceEntries → Shared
shared entries = record { kind = entries.kind; moment = entries.moment; head = entries.head.now; octets = entries.pieces.now }

-- the entry with a piece of `size` octets
abbrev pub piece_entry : Shared → ℕ → ℕ → Noted
piece_entry s size place = record { kind = s.kind; moment = s.moment; content = s.head ++ take size (drop (place * size) s.octets) }

-- the first `count` of them
abbrev pub piece_entries : Shared → ℕ → ℕ → List Noted
piece_entries s size zero = []
piece_entries s size (suc count) = piece_entries s size count ++ (piece_entry s size count ∷ [])
