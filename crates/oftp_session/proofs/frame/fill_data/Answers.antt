use Rattle.std.proofs.Common.{◌∙◌}
use Rattle.oftp_session.proofs.Lending.{next_data}
use Rattle.oftp_session.proofs.frame.fill_data.Goals as goal

pub returns-in-Buffer-clause-fills : goal.returns-in-Buffer-clause-fills
returns-in-Buffer-clause-fills c =
    next_data c.args.size _ c.in-Buffer.count c.args.filler.now c.next_buffer-filled.new.self c.args.rows.now c.args.last c.copy_from_slice.new.self c.next_buffer-filled.new.out
    c.split_at_mut-payload.result.1.now c.split_at_mut-payload.ensures.front_len c.next_buffer-filled.auto.out c.in-Buffer.ensures.buffer.0
    (c.copy_from_slice.ensures.after ∙ c.data_head.ensures) c.in-Buffer.ensures.fills.moves c.in-Buffer.ensures.sent
