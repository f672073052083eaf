use Rattle.std.proofs.Common.{◌<◌, ◌≤◌, length, ◌∙◌, arith}
use Rattle.oftp_channel.proofs.AskedLemmas.{field_on, no_field_on}
use Rattle.oftp_channel.proofs.asked.submission_in.Goals as goal

pub returns-clause-some : goal.returns-clause-some
returns-clause-some c =
    let xs = c.args.fields.now in
    let long : 7 < length xs = omega (arith, c.in-len8.len_at_least) in
    let short : length xs ≤ 8 = omega (arith, c.in-len8.len_below) in
    let stamp = c.in_ok-stamp.ensures.some in
    field_on (λ word. word.items) xs 0 c.dataset-item.result _ _ (omega (arith, long)) c.dataset-item.is (stamp.name ∙ c.deref.ensures.value)
    (field_on (λ word. word.items) xs 1 c.date-item.result _ _ (omega (arith, long)) c.date-item.is (stamp.day ∙ c.deref-2.ensures.value)
    (field_on (λ word. word.items) xs 2 c.time-item.result _ _ (omega (arith, long)) c.time-item.is (stamp.hour ∙ c.deref-3.ensures.value)
    (field_on (λ word. word.items) xs 3 c.to-item.result _ _ (omega (arith, long)) c.to-item.is (c.in_ok-text_in.ensures.some ∙ c.deref-4.ensures.value)
    (field_on (λ word. word.items) xs 4 c.format-item.result _ _ (omega (arith, long)) c.format-item.is (c.in_ok-format_in.ensures.some ∙ c.deref-5.ensures.value)
    (field_on (λ word. word.items) xs 5 c.longest-item.result _ _ (omega (arith, long)) c.longest-item.is (c.in_ok-small_number_in.ensures.some ∙ c.deref-6.ensures.value)
    (field_on (λ word. word.items) xs 6 c.description-item.result _ _ (omega (arith, long)) c.description-item.is (c.in_ok-text_in-2.ensures.some ∙ c.deref-7.ensures.value)
    (field_on (λ word. word.items) xs 7 c.content-item.result _ _ (omega (arith, long)) c.content-item.is c.deref-8.ensures.value
    (no_field_on (λ word. word.items) xs 8 short))))))))
