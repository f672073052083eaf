use Rattle.std.proofs.Common.{ℕ, List, [], ◌∷◌, length, get_or, ap, ◌∙◌, subst}
use Rattle.std.specs.Int.{w32, to_be_bytes}
use Rattle.oftp_io.specs.Ports.{SentAll}
use Rattle.oftp_channel.specs.Answers.{outlet_code}
use Rattle.oftp_channel.proofs.SentLemmas.{sent_then}
use Rattle.oftp_channel.proofs.answer.write_piece.Goals as goal

pub returns : goal.returns
returns g c =
    let contents = g.W.Write.contents in
    let outlet = outlet_code c.args.outlet in
    let bytes = c.to_be_bytes-length.result in
    let head : List ℕ = outlet ∷ to_be_bytes w32 (length c.args.octets.now) in
    let first : SentAll contents c.args.writer.now c.send.new.self head = subst (SentAll contents c.args.writer.now c.send.new.self)
    (ap (λ (x : ℕ). x ∷ get_or bytes 0 0 ∷ get_or bytes 1 0 ∷ get_or bytes 2 0 ∷ get_or bytes 3 0 ∷ []) c.code.ensures
    ∙ ap (λ (z : List ℕ). outlet ∷ get_or z 0 0 ∷ get_or z 1 0 ∷ get_or z 2 0 ∷ get_or z 3 0 ∷ []) c.to_be_bytes-length.ensures) c.if-not-send.ensures in
    sent_then contents c.args.writer.now c.send.new.self c.send-2.new.self head c.args.octets.now c.send-2.result first c.send-2.ensures
