use Rattle.std.proofs.Common.{◌≡◌, ◌+◌, take, map}
use Rattle.oftp_channel.specs.Asked.{octets_in}
use Rattle.oftp_channel.specs.Requests.{total}
use Rattle.oftp_channel.specs.declared.request.TheConstants.{LARGEST_REQUEST}
use Rattle.oftp_channel.proofs.request.words_fit.Given as goal

abbrev pub invariant-loop-word : goal.invariant-loop-word
invariant-loop-word l = l.left + total (map (λ s. octets_in s) (take l.word-index l.words)) ≡ LARGEST_REQUEST
