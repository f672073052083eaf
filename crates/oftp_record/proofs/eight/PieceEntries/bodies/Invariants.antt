use Rattle.std.proofs.Common.{◌≡◌, ℕ, ◌+◌, ◌*◌, ◌/◌, ◌<◌, length, take, drop}
use Rattle.oftp_record.specs.Entries.{entry_body}
use Rattle.oftp_record.specs.Pieces.{piece_entry, shared}
use Rattle.oftp_record.specs.declared.header.TheConstants.{HEADER_LEN}
use Rattle.oftp_record.proofs.eight.PieceEntries.bodies.Given as goal

abbrev pub invariant-each : goal.invariant-each
invariant-each l =
    (length l.bodies.items ≡ l.place * (HEADER_LEN + length l.self.head.now + length l.self.pieces.now / 8))
    × ((j : ℕ) → j < l.place
    → take (HEADER_LEN + length l.self.head.now + length l.self.pieces.now / 8)
    (drop (j * (HEADER_LEN + length l.self.head.now + length l.self.pieces.now / 8)) l.bodies.items)
    ≡ entry_body (piece_entry (shared l.self) (length l.self.pieces.now / 8) j))
