use Rattle.std.proofs.Common.{refl, sym, ◌∙◌}
use Rattle.std.proofs.lemmas.List.{take_rest}
use Rattle.oftp_contents.proofs.FieldLemmas.{second_behind}
use Rattle.oftp_contents.proofs.fields.ContentFields.of.Goals as goal

pub returns-in_err-second-clause-none : goal.returns-in_err-second-clause-none
returns-in_err-second-clause-none c = λ _ fields is spelled.
    let first = c.in_ok-first.first in
    let begun = sym (take_rest c.args.octets.now 9) ∙ c.in_ok-first.ensures.some in
    c.in_err-second.ensures.none refl fields.second fields.rest is.second
    (second_behind c.args.octets.now first.text.now first.behind.now fields is begun c.in_ok-first.ensures.short spelled)
