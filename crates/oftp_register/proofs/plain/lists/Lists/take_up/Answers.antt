use Rattle.oftp_register.specs.Lists.{beginning_of}
use Rattle.oftp_register.proofs.PlainStarts.{start_found, start_new}
use Rattle.oftp_register.proofs.plain.lists.Lists.take_up.Goals as goal

pub returns-in-Some : goal.returns-in-Some
returns-in-Some c =
    start_found c.args.self.now (beginning_of c.args.header) c.args.count _ _ c.in-Some.place _ _ _ c.deref.ensures.value c.place_in.ensures c.in-Some.is c.index_mut.ensures.value c.restart.ensures

pub returns-in-None : goal.returns-in-None
returns-in-None c =
    rw (start_new c.args.self.now (beginning_of c.args.header) c.args.count _ _ c.deref.ensures.value c.place_in.ensures c.in-None.is) c.begin.ensures
