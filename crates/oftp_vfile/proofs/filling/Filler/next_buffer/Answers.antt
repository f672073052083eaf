use Rattle.std.proofs.Common.{length}
use Rattle.oftp_vfile.proofs.SentLemmas.{tells}
use Rattle.oftp_vfile.proofs.filling.Filler.next_buffer.Goals as goal

pub returns-then-is_stream : goal.returns-then-is_stream
returns-then-is_stream c =
    let e = c.next_of_stream.ensures in
    let t = tells (length c.args.out.now) c.args.self.now _ c.args.rows.now c.args.last _ _ c.requires.room e.buffer e.fills in
    record { buffer = t.buffer; fills = e.fills; sent = t.sent; all = t.all }

pub returns-else-is_stream : goal.returns-else-is_stream
returns-else-is_stream c =
    let e = c.next_of_records.ensures in
    let t = tells (length c.args.out.now) c.args.self.now _ c.args.rows.now c.args.last _ _ c.requires.room e.buffer e.fills in
    record { buffer = t.buffer; fills = e.fills; sent = t.sent; all = t.all }
