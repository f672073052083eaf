use Rattle.std.proofs.Common.{ap, ◌∙◌, arith}
use Rattle.sha2.specs.Sha256.{word_at}
use Rattle.oftp_digest.proofs.LaneLemmas.{below_four}
use Rattle.oftp_digest.proofs.rounds.load.Goals as goal

pub returns : goal.returns
returns c =
    let at = word_at c.args.octets.now in
    below_four _
    (c.word.ensures ∙ ap at (omega arith))
    (c.word-2.ensures ∙ ap at (omega arith))
    (c.word-3.ensures ∙ ap at (omega arith))
    (c.word-4.ensures ∙ ap at (omega arith))
