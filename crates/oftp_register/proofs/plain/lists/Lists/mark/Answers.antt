use Rattle.std.proofs.Common.{refl}
use Rattle.oftp_register.specs.Changes.{marked}
use Rattle.oftp_register.proofs.PlainChanges.{outgoing_changed, outgoing_unknown}
use Rattle.oftp_register.proofs.plain.lists.Lists.mark.Goals as goal

pub returns-in-Some : goal.returns-in-Some
returns-in-Some c =
    outgoing_changed (marked c.args.rows) c.args.self.now c.args.no c.in-Some.place _ _ _ _ c.len.ensures c.in-Some.ensures c.index_mut.ensures.value c.mark.ensures

pub returns-in-None : goal.returns-in-None
returns-in-None c = (outgoing_unknown (marked c.args.rows) c.args.self.now c.args.no _ c.len.ensures c.in-None.ensures, refl)
