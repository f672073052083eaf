use Rattle.std.proofs.Common.{refl}
use Rattle.oftp_register.specs.Changes.{issued}
use Rattle.oftp_register.specs.Lists.{issued_of}
use Rattle.oftp_register.proofs.PlainChanges.{incoming_changed, incoming_unknown}
use Rattle.oftp_register.proofs.plain.lists.Lists.answer.Goals as goal

pub returns-in-Some : goal.returns-in-Some
returns-in-Some c =
    incoming_changed (issued (issued_of c.args.response)) c.args.self.now c.args.no c.in-Some.place _ _ _ _ c.len.ensures c.in-Some.ensures c.index_mut.ensures.value c.issue.ensures

pub returns-in-None : goal.returns-in-None
returns-in-None c = (incoming_unknown (issued (issued_of c.args.response)) c.args.self.now c.args.no _ c.len.ensures c.in-None.ensures, refl)
