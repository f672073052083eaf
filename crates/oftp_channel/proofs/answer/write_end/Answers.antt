use Rattle.std.proofs.Common.{ℕ, List, [], ◌∷◌, subst}
use Rattle.std.specs.Int.{w64, to_be_bytes}
use Rattle.oftp_io.specs.Ports.{Sent, SentAll}
use Rattle.oftp_channel.specs.declared.labels.Label.{Label}
use Rattle.oftp_channel.proofs.SentLemmas.{sent_then}
use Rattle.oftp_channel.proofs.answer.write_end.Goals as goal

pub returns : goal.returns
returns g c =
    let contents = g.W.Write.contents in
    let label = c.label-label.result in
    let head : List ℕ = 0 ∷ label.kind ∷ [] in
    let first : SentAll contents c.args.writer.now c.send.new.self head = c.if-not-send.ensures in
    let whole = sent_then contents c.args.writer.now c.send.new.self c.send-2.new.self head c.to_be_bytes.result c.send-2.result first c.send-2.ensures in
    subst (λ (l : Label). Sent contents c.args.writer.now c.send-2.new.self (0 ∷ l.kind ∷ to_be_bytes w64 l.number) c.send-2.result) c.label-label.ensures
    (subst (λ (number : List ℕ). Sent contents c.args.writer.now c.send-2.new.self (0 ∷ label.kind ∷ number) c.send-2.result) c.to_be_bytes.ensures whole)
