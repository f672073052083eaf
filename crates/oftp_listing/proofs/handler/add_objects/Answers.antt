use Rattle.std.proofs.Common.{◌∙◌}
use Rattle.std.proofs.lemmas.Slice.Zip.{Zip-more, either_empty_from_Zip}
use Rattle.oftp_listing.proofs.Listings.{objects_end, objects_on}
use Rattle.oftp_listing.proofs.handler.add_objects.Goals as goal

pub loop-entry-preserved : goal.loop-entry-preserved
loop-entry-preserved g c =
    let next = Zip-more c.loop-entry.entry-iterator c.next.new.self _ _ c.in-Some.is c.next.ensures.steps in
    objects_on g.E.Resource.kind _ _ _ _ _ _ _ _ _ _ next.0 next.1 c.in_ok-object.ensures.object c.in_ok-add_object.ensures ∙ c.loop-entry.invariant

pub returns : goal.returns
returns g c =
    objects_end g.E.Resource.kind _ _ _ _ _ (either_empty_from_Zip c.loop-entry.entry-iterator c.next.new.self _ c.in-None.is c.next.ensures.steps) c.in_ok-extend_from_slice-2.ensures.items
    ∙ c.loop-entry.invariant
