use Rattle.std.specs.Vec.Iter.{into_iter_items}
use Rattle.oftp_register.proofs.PrefixLemmas.{IsGoing}
use Rattle.oftp_register.proofs.prefix.commit_all.Given as goal

-- the register is the one after the changes so far
abbrev pub invariant-loop-change : goal.invariant-loop-change
invariant-loop-change g l =
    let view = g.O.Office.view in
    IsGoing l.fn.changes.items (view l.fn.office) (view l.office) l.yielded (into_iter_items l.change-iterator)
