use Rattle.std.proofs.Common.{◌≡◌, ◌++◌}
use Rattle.std.specs.Iterator.Adapters.{zip_first, zip_second}
use Rattle.std.specs.Slice.Iter.{iter_rest}
use Rattle.serde_json.specs.View.{items_of}
use Rattle.serde_json.specs.Written.{compact_text, items_text}
use Rattle.oftp_listing.specs.InsideResource.{is_comma, objects_with}
use Rattle.oftp_listing.specs.Texts.{list_of}
use Rattle.oftp_listing.proofs.handler.add_objects.Given as goal

-- the text so far and what is left make the whole text
abbrev pub invariant-loop-entry : goal.invariant-loop-entry
invariant-loop-entry g l =
    let left = objects_with g.E.Resource.kind (iter_rest (zip_first l.entry-iterator)) (iter_rest (zip_second l.entry-iterator)) in
    l.text.items ++ items_text (is_comma l.separator) (items_of left) ≡ l.fn.front.items ++ compact_text (list_of (objects_with g.E.Resource.kind l.entries l.numbers))
