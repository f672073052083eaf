use Rattle.std.proofs.Common.{◌-◌, ◌<◌, length, take, drop, map, sym, ◌∙◌, arith}
use Rattle.oftp_channel.proofs.AskedLemmas.{first_and_rest, no_words}
use Rattle.oftp_channel.proofs.asking.Request.of.Goals as goal

pub returns-clause-none : goal.returns-clause-none
returns-clause-none c = λ gone request askable whole.
    let xs = c.args.words.now in
    let rest = map (λ word. word.items) (take (length xs - 1) (drop 1 xs)) in
    let lt : 0 < length xs = omega (arith, c.in-len1-up.len_at_least) in
    no_words c.in_ok-kind_in.field-0 c.kind-item.result.items rest request (c.in_ok-kind_in.ensures.some ∙ c.deref.ensures.value) (c.request_in.ensures.none gone) askable
    (whole ∙ sym (first_and_rest (λ word. word.items) xs c.kind-item.result lt c.kind-item.is))
