use Rattle.std.proofs.Common.{◌∙◌, ◌++◌, ap}
use Rattle.serde_json.specs.Written.{compact_text}
use Rattle.oftp_listing.specs.InsideResource.{objects_with}
use Rattle.oftp_listing.specs.Texts.{list_of}
use Rattle.oftp_listing.proofs.Asking.{finds_made}
use Rattle.oftp_listing.proofs.Listings.{objects_are}
use Rattle.oftp_listing.proofs.handler.add_list.Goals as goal

pub returns-clause-finds : goal.returns-clause-finds
returns-clause-finds g c =
    finds_made _ _ _ _ c.in_ok-entries.ensures tt (λ r told.
    c.in_ok-add_objects.ensures ∙ ap (λ ds. c.args.front.items ++ compact_text (list_of ds))
    (objects_are g.E.Resource.kind r _ _ (c.as_slice.ensures.value ∙ told.0) (c.as_slice-2.ensures.value ∙ told.1)))

pub returns-clause-shows : goal.returns-clause-shows
returns-clause-shows g c = (list_of (objects_with g.E.Resource.kind _ _), c.in_ok-add_objects.ensures)
