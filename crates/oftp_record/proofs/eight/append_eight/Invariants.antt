use Rattle.std.proofs.Common.{◌≡◌, ◌+◌, ◌*◌, ◌/◌, ◌++◌, ◌≤◌, length, vec_capacity, vec_len}
use Rattle.oftp_record.specs.Pieces.{piece_entries, shared}
use Rattle.oftp_record.specs.Records.{last_digest, record_octets}
use Rattle.oftp_record.specs.declared.chain.TheConstants.{DIGEST_LEN}
use Rattle.oftp_record.specs.declared.header.TheConstants.{HEADER_LEN}
use Rattle.oftp_record.proofs.eight.append_eight.Given as goal

-- there is room for the entries that are still to come
abbrev pub invariant-each : goal.invariant-each
invariant-each l =
    (l.octets.items ≡ l.fn.octets.items ++ record_octets l.before.0 (piece_entries (shared l.entries) (length l.entries.pieces.now / 8) l.place))
    × (l.digest.0 ≡ last_digest l.before.0 (piece_entries (shared l.entries) (length l.entries.pieces.now / 8) l.place))
    × (vec_len l.octets + 8 * (HEADER_LEN + length l.entries.head.now + length l.entries.pieces.now / 8 + DIGEST_LEN)
    ≤ vec_capacity l.octets + l.place * (HEADER_LEN + length l.entries.head.now + length l.entries.pieces.now / 8 + DIGEST_LEN))
