use Rattle.std.proofs.Common.{◌∙◌, ap, sym, refl, inr, codes}
use Rattle.oftp_vfile.specs.declared.limits.Limits.{Limits}
use Rattle.oftp_engine.specs.declared.operating.Refusal.TheVariants as refusal
use Rattle.oftp_engine.specs.Operating.{Submits, is_too_big}
use Rattle.oftp_engine.specs.InsideSubmitting.{IsOffer}
use Rattle.oftp_engine.proofs.Offers.{arrived, attempts_big, attempts_sent, is_file, is_unknown, missing_at, none_at, offered_file, refuses_now, some_at}
use Rattle.oftp_engine.proofs.submitting.submit.Goals as goal

pub returns-in_default-clause-does : goal.returns-in_default-clause-does
returns-in_default-clause-does g c = λ clean stood.
    let old = g.O.Office.view c.args.office.now in
    refuses_now (codes "done: submit ") (Submits c.args.book.now old.register c.args.submission.now) old refusal.Field stood
    (inr (none_at _ c.in_default.is c.in_ok-offer.ensures.none, refl))

pub returns-in_default-partner-clause-does : goal.returns-in_default-partner-clause-does
returns-in_default-partner-clause-does g c = λ clean stood.
    let old = g.O.Office.view c.args.office.now in
    let s = c.args.submission.now in
    let offer = some_at (IsOffer s) _ c.in-Some.offer c.in-Some.is c.in_ok-offer.ensures.some in
    refuses_now (codes "done: submit ") (Submits c.args.book.now old.register s) old refusal.Unknown stood
    (is_unknown c.args.book.now old.register s c.in-Some.offer.rows (offered_file s c.in-Some.offer offer)
    (missing_at _ c.partner.result c.as_bytes.result.now _ _ c.partner.ensures.value c.as_bytes.ensures.value c.in_default-partner.is))

pub returns-then-is_too_big-clause-does : goal.returns-then-is_too_big-clause-does
returns-then-is_too_big-clause-does g c = λ clean stood.
    let it = arrived c.args.book.now c.args.submission.now _ c.in-Some.offer c.in-Some-partner.partner.now _ _ c.in-Some.is c.in_ok-offer.ensures.some
    c.in-Some-partner.ensures.value c.as_bytes.ensures.value c.name_of-identity.ensures in
    attempts_big c.args.book.now c.args.submission.now c.in-Some.offer c.name_of-identity.result it (g.O.Office.view c.args.office.now)
    (g.O.Office.view c.refuse_big.new.office) c.refuse_big.result
    (ap (λ (limits : Limits). is_too_big limits c.in-Some.offer.rows) (sym c.limits.ensures.answer) ∙ sym c.is_too_big.ensures ∙ c.if-is_too_big.true)
    (c.refuse_big.ensures.does clean stood)

pub returns-clause-does : goal.returns-clause-does
returns-clause-does g c = λ clean stood.
    let old = g.O.Office.view c.args.office.now in
    let s = c.args.submission.now in
    let offer = c.in-Some.offer in
    let it = arrived c.args.book.now s _ offer c.in-Some-partner.partner.now _ _ c.in-Some.is c.in_ok-offer.ensures.some
    c.in-Some-partner.ensures.value c.as_bytes.ensures.value c.name_of-identity.ensures in
    let few = ap (λ (limits : Limits). is_too_big limits offer.rows) (sym c.limits.ensures.answer) ∙ sym c.is_too_big.ensures ∙ c.if-is_too_big.false in
    attempts_sent c.args.book.now s offer c.name_of-identity.result it old (g.O.Office.view c.register.new.office) c.register.result few
    (c.register.ensures.does clean stood it.offered.fields.description (is_file s offer.rows old.register.limits (offered_file s offer it.offered) few))
