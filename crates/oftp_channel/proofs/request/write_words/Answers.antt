use Rattle.std.proofs.Common.{subst}
use Rattle.oftp_io.specs.Ports.{Sent}
use Rattle.oftp_channel.specs.Asked.{octets_in}
use Rattle.oftp_channel.proofs.RequestLemmas.{all_fit, broken_off}
use Rattle.oftp_channel.proofs.request.write_words.Goals as goal

pub write_word-requires : goal.write_word-requires
write_word-requires g c = all_fit (λ s. octets_in s) c.args.words.now c.requires.small c.loop-word.word-index _ c.loop-word-test.true

pub returns-then-not-write_word : goal.returns-then-not-write_word
returns-then-not-write_word g c = broken_off g.W.Write.contents c.args.writer.now c.loop-word.writer c.write_word.new.writer (λ s. octets_in s) c.args.words.now c.loop-word.word-index _
    c.loop-word-test.true c.loop-word.invariant (subst (Sent g.W.Write.contents _ _ _) c.if-not-write_word.true c.write_word.ensures)
