use Rattle.std.proofs.Common.{take}
use Rattle.oftp_listing.proofs.ListedUnits.{IsAsked}
use Rattle.oftp_listing.proofs.units.units_of_each.Given as goal

-- the office was asked for the files so far
abbrev pub invariant-loop-file : goal.invariant-loop-file
invariant-loop-file g l =
    IsAsked g.F.Measured.kind.entries g.F.Measured.kind.related (g.O.Office.view l.fn.office) (g.O.Office.view l.office) l.files (take l.file-index l.files) l.numbers.items
