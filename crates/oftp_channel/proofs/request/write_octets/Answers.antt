use Rattle.std.proofs.Common.{ℕ, List, ◌++◌, subst}
use Rattle.oftp_io.specs.Ports.{Sent}
use Rattle.oftp_channel.proofs.SentLemmas.{sent_then}
use Rattle.oftp_channel.proofs.request.write_octets.Goals as goal

pub returns : goal.returns
returns g c =
    let contents = g.W.Write.contents in
    let first = subst (Sent contents c.args.writer.now c.send.new.self c.to_be_bytes.result) c.if-not-send.false c.send.ensures in
    subst (λ (head : List ℕ). Sent contents c.args.writer.now c.send-2.new.self (head ++ c.args.word.now) c.send-2.result) c.to_be_bytes.ensures
    (sent_then contents c.args.writer.now c.send.new.self c.send-2.new.self c.to_be_bytes.result c.args.word.now c.send-2.result first c.send-2.ensures)
