use Rattle.std.proofs.Common.{◌++◌, codes, ap, ◌∙◌}
use Rattle.oftp_status.specs.Objects.{with_going, with_head, with_lists}
use Rattle.oftp_status.proofs.object.status_json.Goals as goal

pub returns : goal.returns
returns c =
    let p = c.args.picture.now in
    let head = c.in_ok-add_head.ensures ∙ ap (λ text. with_head text p) c.new-text.ensures.items in
    let begun = c.in_ok-extend_from_slice.ensures.items ∙ ap (λ text. text ++ codes ",\"session\":") head in
    c.in_ok-add_lists.ensures ∙ ap (λ text. with_lists text p) (c.in_ok-add_going.ensures ∙ ap (λ text. with_going text p.going) begun)
