use Rattle.std.proofs.Common.{◌∙◌, Some, None}
use Rattle.oftp_partners.proofs.DirectoryLemmas.{partner_at-indexed, slice_get-lent}
use Rattle.oftp_partners.proofs.directory.Directory.find.Goals as goal

pub returns-in_err-place : goal.returns-in_err-place
returns-in_err-place c =
    rw (c.from_residual.ensures, ← c.self.view_is)
    (partner_at-indexed c.self.inside.places c.self.inside.partners.items c.args.code.now None c.self.invariant c.in_err-place.ensures.value)

pub returns : goal.returns
returns c =
    let ps = c.self.inside.partners.items in
    let place = c.in_ok-place.field-0.now in
    let look = rw c.deref.ensures.value at c.get-2.ensures.lookup in
    rw (← c.self.view_is)
    (slice_get-lent ps place c.get-2.result look.0 look.1
    ∙ partner_at-indexed c.self.inside.places ps c.args.code.now (Some place) c.self.invariant c.in_ok-place.ensures.value)
