use Rattle.std.proofs.Common.{◌++◌, length, take, map}
use Rattle.std.specs.Int.{w32, to_be_bytes}
use Rattle.std.specs.List.{flat_map}
use Rattle.oftp_io.specs.Ports.{SentAll}
use Rattle.oftp_channel.specs.Asked.{octets_in}
use Rattle.oftp_channel.specs.Requests.{spelled_word}
use Rattle.oftp_channel.proofs.request.write_words.Given as goal

abbrev pub invariant-loop-word : goal.invariant-loop-word
invariant-loop-word g l = SentAll g.W.Write.contents l.fn.writer l.writer
    (to_be_bytes w32 (length l.words) ++ flat_map spelled_word (map (λ s. octets_in s) (take l.word-index l.words)))
