use Rattle.std.proofs.Common.{map, sym, ap, ◌∙◌, arith}
use Rattle.std.proofs.lemmas.List.{length-map}
use Rattle.oftp_register.specs.Lists.{outgoing_of}
use Rattle.oftp_register.specs.Changes.{settled}
use Rattle.oftp_register.proofs.PlainLists.{mapped_more, mapped_all}
use Rattle.oftp_register.proofs.plain.lists.settle_all.Goals as goal

pub loop-file-preserved : goal.loop-file-preserved
loop-file-preserved c =
    let settle = settled c.args.kind c.args.identity.now in
    let one = c.settle.ensures ∙ ap (λ f. settle (outgoing_of f)) (sym c.file-item.is) in
    mapped_more outgoing_of settle c.loop-file.files c.loop-file.file-index c.file-item.result _ (omega (arith, c.loop-file.auto.files)) c.file-item.is one
    ∙ c.loop-file.invariant

pub returns : goal.returns
returns c =
    let settle = settled c.args.kind c.args.identity.now in
    let counted = length-map c.loop-file.files outgoing_of in
    mapped_all settle (map outgoing_of c.loop-file.files) c.loop-file.file-index (omega (arith, counted)) ∙ c.loop-file.invariant
