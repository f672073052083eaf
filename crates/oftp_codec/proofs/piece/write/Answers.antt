use Rattle.std.proofs.Common.{◌≤◌, length, take, get_or, ap, arith}
use Rattle.std.proofs.lemmas.List.{length-append}
use Rattle.oftp_codec.specs.Piece.{spelling, octets_of}
use Rattle.oftp_codec.proofs.Pieces.{within, spelling_more, spelling_step, no_piece}
use Rattle.oftp_codec.proofs.piece.write.Goals as goal

pub put-requires-clause-room : goal.put-requires-clause-room
put-requires-clause-room c =
    let w = within c.args.pieces.now c.loop-piece.piece-index no_piece c.loop-piece-test.true in
    let room : length (spelling c.args.pieces.now) ≤ length c.args.out.now = c.has_room.ensures.0 c.if-not-has_room.false in
    omega arith

pub loop-piece-preserved : goal.loop-piece-preserved
loop-piece-preserved c =
    let i = c.loop-piece.piece-index in
    let ps = c.args.pieces.now in
    let lt = c.loop-piece-test.true in
    let room : length (spelling ps) ≤ length c.args.out.now = c.has_room.ensures.0 c.if-not-has_room.false in
    let step = spelling_step ps i no_piece c.loop-piece.at c.loop-piece.out c.put.new.out c.args.out.now lt c.loop-piece.invariant.count c.loop-piece.invariant.octets room c.put.ensures in
    record {
      count = omega (arith, ap length (spelling_more ps i no_piece lt), length-append (spelling (take i ps)) (octets_of (get_or ps i no_piece)), c.len-at.ensures);
      octets = rw c.len-at.ensures step;
    }
