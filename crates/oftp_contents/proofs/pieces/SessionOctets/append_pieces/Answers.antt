use Rattle.std.proofs.Common.{◌/◌, length, refl, arith}
use Rattle.oftp_contents.specs.Pieces.{talked}
use Rattle.oftp_contents.proofs.PieceLemmas.{appended_pieces, appends_ok}
use Rattle.oftp_contents.proofs.pieces.SessionOctets.append_pieces.Goals as goal

pub returns : goal.returns
returns c =
    let s = talked c.args.self.now in
    let old = c.args.record.now.items in
    let new = c.append_eight.new.octets.items in
    let before = c.args.before.now.0 in
    appends_ok s old new before c.in_ok-digest.digest
    (appended_pieces s _ refl refl c.head.ensures refl (length s.octets / 8) old new before c.in_ok-digest.digest.0 (omega arith) c.in_ok-digest.ensures.written c.in_ok-digest.ensures.digest)
