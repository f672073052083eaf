use Rattle.std.proofs.Common.{◌-◌, ◌*◌, ◌++◌, length, take, drop, ap, ◌∙◌}
use Rattle.std.proofs.lemmas.List.{take-append-drop, take_rest}
use Rattle.oftp_contents.specs.Pieces.{talked}
use Rattle.oftp_contents.proofs.PieceLemmas.{appended_behind, appends_ok}
use Rattle.oftp_contents.proofs.pieces.SessionOctets.append.Goals as goal

pub returns-in-Ok : goal.returns-in-Ok
returns-in-Ok c =
    let s = talked c.args.self.now in
    let at = 8 * c.piece_size-size.result in
    let first = take at s.octets in
    let rest = take (length s.octets - at) (drop at s.octets) in
    appends_ok s c.args.record.now.items c.append_rest.new.record.items c.args.before.now.0 c.in-Ok.digest
    (appended_behind s first rest c.args.record.now.items c.append_pieces.new.record.items c.append_rest.new.record.items
    c.args.before.now.0 c.in_ok-digest.digest.0 c.in-Ok.digest.0 (ap (λ z. first ++ z) (take_rest s.octets at) ∙ take-append-drop at s.octets)
    c.in_ok-digest.ensures.ok c.in-Ok.ensures.ok)
