use Rattle.std.proofs.Common.{rules, length, arith}
use Rattle.oftp_session.proofs.Framing.{canon_fits, frame_spelled}
use Rattle.oftp_session.proofs.frame.encode_frame.Goals as goal

pub unreachable-requires-in-Err : goal.unreachable-requires-in-Err
unreachable-requires-in-Err c =
    canon_fits c.args.command.now (length c.split_at_mut-head.result.1.now) (omega (arith, c.told-frame, c.split_at_mut-head.ensures.back_len))
    c.in-Err.ensures.written.1 c.in-Err.ensures.fit c.requires

pub returns-clause-frame : goal.returns-clause-frame
returns-clause-frame c =
    frame_spelled c.args.command.now c.encode.new.out c.split_at_mut-head.result.1.now c.copy_from_slice.new.self c.in-Ok.count c.in-Ok.ensures.written.0 c.in-Ok.ensures.written.1 (search rules)
