use Rattle.std.proofs.Common.{refl}
use Rattle.oftp_register.specs.Changes.{closing}
use Rattle.oftp_register.proofs.PlainChanges.{outgoing_changed, outgoing_unknown}
use Rattle.oftp_register.proofs.plain.lists.Lists.begin_closing.Goals as goal

pub returns-in-Some : goal.returns-in-Some
returns-in-Some c =
    outgoing_changed closing c.args.self.now c.args.no c.in-Some.place _ _ _ _ c.len.ensures c.in-Some.ensures c.index_mut.ensures.value c.close.ensures

pub returns-in-None : goal.returns-in-None
returns-in-None c = (outgoing_unknown closing c.args.self.now c.args.no _ c.len.ensures c.in-None.ensures, refl)
