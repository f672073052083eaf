use Rattle.std.proofs.Common.{◌-◌, ◌<◌, length, take, drop, map, refl, ◌∙◌, subst, arith}
use Rattle.oftp_channel.specs.InsideAsked.{IsNoSubmission}
use Rattle.oftp_channel.proofs.AskedLemmas.{first, first_and_rest}
use Rattle.oftp_channel.proofs.asked.submit_in.Goals as goal

pub returns-in_err-submission_in-clause-none : goal.returns-in_err-submission_in-clause-none
returns-in_err-submission_in-clause-none c = λ gone book others whole.
    let xs = c.args.fields.now in
    let rest = map (λ word. word.items) (take (length xs - 1) (drop 1 xs)) in
    let lt : 0 < length xs = omega (arith, c.in-len1-up.len_at_least) in
    let parts = first c.book-item.result.items book rest others (first_and_rest (λ word. word.items) xs c.book-item.result lt c.book-item.is ∙ whole) in
    subst IsNoSubmission parts.1 (c.in_err-submission_in.ensures.none refl)
