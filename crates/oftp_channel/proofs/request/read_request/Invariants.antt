use Rattle.std.proofs.Common.{◌≡◌, ◌≤◌, ◌+◌, ◌-◌, length, map}
use Rattle.oftp_channel.specs.Requests.{total}
use Rattle.oftp_channel.specs.declared.request.TheConstants.{LARGEST_REQUEST}
use Rattle.oftp_channel.proofs.RequestLemmas.{SoFar}
use Rattle.oftp_channel.proofs.request.read_request.Given as goal

abbrev pub invariant-words : goal.invariant-words
invariant-words g l = record {
  within : length l.words.items ≤ l.count;
  budget : l.left + total (map (λ s. s.items) l.words.items) ≡ LARGEST_REQUEST;
  so_far : SoFar g.R.Read.remaining l.fn.reader l.reader l.count (map (λ s. s.items) l.words.items);
}

abbrev pub decreases-words : goal.decreases-words
decreases-words g l = l.count - length l.words.items
