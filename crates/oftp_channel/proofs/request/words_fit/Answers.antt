use Rattle.std.proofs.Common.{◌≡◌, ℕ, ◌+◌, ◌-◌, ◌<◌, ◌≤◌, take, map, sym, subst}
use Rattle.oftp_channel.specs.Asked.{octets_in}
use Rattle.oftp_channel.specs.Requests.{total}
use Rattle.oftp_channel.specs.declared.request.TheConstants.{LARGEST_REQUEST}
use Rattle.oftp_channel.proofs.RequestLemmas.{budget_more, not_request}
use Rattle.oftp_channel.proofs.request.words_fit.Goals as goal

pub returns-then-left-length : goal.returns-then-left-length
returns-then-left-length c = (
  λ no. absurd cc,
  λ request. absurd (not_request (λ s. octets_in s) c.args.words.now c.loop-word.word-index _ c.loop-word.left c.loop-word.invariant c.loop-word-test.true
      (subst (λ (n : ℕ). c.loop-word.left < n) c.len-length.ensures c.if-left-length.true) request),
)

pub loop-word-preserved : goal.loop-word-preserved
loop-word-preserved c =
    let words = c.args.words.now in
    let next = c.loop-word.word-index + 1 in
    subst (λ (n : ℕ). c.loop-word.left - n + total (map (λ s. octets_in s) (take next words)) ≡ LARGEST_REQUEST) (sym c.len-length.ensures)
    (budget_more (λ s. octets_in s) words c.loop-word.word-index _ c.loop-word.left c.loop-word.invariant c.loop-word-test.true
    (subst (λ (n : ℕ). n ≤ c.loop-word.left) c.len-length.ensures c.if-left-length.false))
