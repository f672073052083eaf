use Rattle.std.proofs.Common.{◌∙◌}
use Rattle.std.proofs.lemmas.Slice.Zip.{Zip-more, either_empty_from_Zip}
use Rattle.oftp_listing.proofs.Reporting.{lines_end, lines_on}
use Rattle.oftp_listing.proofs.reports.add_each_line.Goals as goal

pub loop-entry-preserved : goal.loop-entry-preserved
loop-entry-preserved g c =
    let next = Zip-more c.loop-entry.entry-iterator c.next.new.self _ _ c.in-Some.is c.next.ensures.steps in
    lines_on g.E.Resource.kind _ _ _ _ _ _ _ _ _ next.0 next.1 c.in_ok-to_line.ensures.text (rw c.as_slice.ensures.value at c.in_ok-extend_from_slice.ensures.items)
    ∙ c.loop-entry.invariant

pub returns-clause-text : goal.returns-clause-text
returns-clause-text g c =
    lines_end g.E.Resource.kind _ _ _ (either_empty_from_Zip c.loop-entry.entry-iterator c.next.new.self _ c.in-None.is c.next.ensures.steps) ∙ c.loop-entry.invariant
