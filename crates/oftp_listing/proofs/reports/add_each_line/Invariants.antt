use Rattle.std.proofs.Common.{◌≡◌, ◌++◌}
use Rattle.std.specs.Iterator.Adapters.{zip_first, zip_second}
use Rattle.std.specs.Slice.Iter.{iter_rest}
use Rattle.oftp_listing.specs.InsideResource.{lines_with}
use Rattle.oftp_listing.proofs.reports.add_each_line.Given as goal

-- the text so far and what is left make the whole text
abbrev pub invariant-loop-entry : goal.invariant-loop-entry
invariant-loop-entry g l =
    l.text.items ++ lines_with g.E.Resource.kind (iter_rest (zip_first l.entry-iterator)) (iter_rest (zip_second l.entry-iterator))
    ≡ l.fn.front.items ++ lines_with g.E.Resource.kind l.entries l.numbers
