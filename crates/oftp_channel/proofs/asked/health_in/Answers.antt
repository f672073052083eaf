use Rattle.std.proofs.Common.{◌≡◌, ◌∙◌, ℕ, List, [], ◌∷◌, arith, drop, map, refl, sym}
use Rattle.oftp_channel.specs.Asked.{number_word}
use Rattle.oftp_channel.proofs.AskedLemmas.{field_on, first, no_field_on}
use Rattle.oftp_channel.proofs.asked.health_in.Goals as goal

pub returns-in_err-number_in-2-clause-none : goal.returns-in_err-number_in-2-clause-none
returns-in_err-number_in-2-clause-none c = λ gone warn critical whole.
    let xs = c.args.fields.now in
    let end : List (List ℕ) = c.critical-item.result.items ∷ [] in
    let last : end ≡ map (λ word. word.items) (drop 1 xs) =
    field_on (λ word. word.items) xs 1 c.critical-item.result c.critical-item.result.items [] (omega (arith, c.in-len2.len_at_least)) c.critical-item.is refl
    (no_field_on (λ word. word.items) xs 2 (omega (arith, c.in-len2.len_below))) in
    let both = field_on (λ word. word.items) xs 0 c.warn-item.result c.warn-item.result.items end (omega (arith, c.in-len2.len_at_least)) c.warn-item.is refl last in
    let parts = first c.warn-item.result.items (number_word warn) end (number_word critical ∷ []) (both ∙ whole) in
    let same = first c.critical-item.result.items (number_word critical) [] [] parts.1 in
    c.in_err-number_in-2.ensures.none refl critical (sym (c.deref-2.ensures.value ∙ same.0))
