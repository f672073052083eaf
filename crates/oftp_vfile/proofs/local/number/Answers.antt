use Rattle.std.proofs.Common.{rules, ℕ, List, ◌≡◌, ◌<◌, ◌+◌, ◌-◌, ◌*◌, ◌++◌, ◌∷◌, [], All, length, take, get_or, sym, ap, subst, ◌∙◌, arith}
use Rattle.std.proofs.lemmas.List.{length-take-le, take_more, take_all}
use Rattle.std.proofs.lemmas.List.Elements.{All-push}
use Rattle.std.proofs.lemmas.List.Sums.{fold_more}
use Rattle.oftp_vfile.specs.LocalForm.{digits_of}
use Rattle.oftp_vfile.proofs.LocalLemmas.{IsDigit, digits_number, number_of, number_small}
use Rattle.oftp_vfile.proofs.local.number.Goals as goal

pub overflow_mul-number : goal.overflow_mul-number
overflow_mul-number c =
    let l = c.loop-digit in
    let small = number_small (take l.digit-index c.args.digits.now) (omega (arith, length-take-le l.digit-index c.args.digits.now (omega arith))) l.invariant.digits in
    omega (arith, small, l.invariant.value)

pub overflow_add-number : goal.overflow_add-number
overflow_add-number c =
    let l = c.loop-digit in
    let small = number_small (take l.digit-index c.args.digits.now) (omega (arith, length-take-le l.digit-index c.args.digits.now (omega arith))) l.invariant.digits in
    omega (arith, small, l.invariant.value)

pub loop-digit-preserved : goal.loop-digit-preserved
loop-digit-preserved c =
    let l = c.loop-digit in
    let ds = c.args.digits.now in
    let d = get_or ds l.digit-index 0 in
    let lt : l.digit-index < length ds = omega arith in
    let next : take (l.digit-index + 1) ds ≡ take l.digit-index ds ++ d ∷ [] = take_more ds l.digit-index 0 lt in
    let more = fold_more (λ (n x : ℕ). n * 10 + (x - 48)) 0 ds l.digit-index 0 lt in
    let digit : IsDigit d = search rules in
    record {
      digits = subst (λ (x : List ℕ). All IsDigit x) (sym next) (All-push IsDigit (take l.digit-index ds) d l.invariant.digits digit);
      value = omega (arith, more, l.invariant.value, c.from.ensures);
    }

pub returns-clause-found : goal.returns-clause-found
returns-clause-found c =
    let l = c.loop-digit in
    let ds = c.args.digits.now in
    let whole : take l.digit-index ds ≡ ds = take_all l.digit-index ds (omega arith) in
    let d = digits_number ds c.requires (subst (λ (x : List ℕ). All IsDigit x) whole l.invariant.digits) in
    let n : l.number ≡ number_of ds = l.invariant.value ∙ ap number_of whole in
    (omega (arith, d.0, n), ap digits_of n ∙ d.1)
