use Rattle.std.proofs.Common.{sym, ap, ◌∙◌}
use Rattle.std.specs.List.{list_any}
use Rattle.oftp_register.specs.Register.{is_response_to}
use Rattle.oftp_register.specs.Lists.{received_of}
use Rattle.oftp_register.proofs.NameLemmas.{list_any-map}
use Rattle.oftp_register.proofs.plain.lists.Lists.is_received.Goals as goal

pub returns : goal.returns
returns c =
    let answering = is_response_to c.args.kind c.args.identity.now in
    c.is_answered.ensures ∙ ap (list_any (λ r. answering (received_of r))) c.deref.ensures.value ∙ sym (list_any-map answering received_of c.args.self.now.received.items)
