use Rattle.std.proofs.Common.{◌∙◌, ap, map}
use Rattle.oftp_listing.specs.InsideResource.{file_answered}
use Rattle.oftp_listing.proofs.AnsweredLemmas.{numbers_answered}
use Rattle.oftp_listing.proofs.Asking.{finds_looked, finds_made}
use Rattle.oftp_listing.proofs.resource.ReceivedEntryResource.related_numbers.Goals as goal

pub returns : goal.returns
returns g c = record {
  finds = finds_made _ _ _ _ (finds_looked _ _ c.in_ok-answered.answered c.in_ok-answered.ensures.looks) tt (λ r told whole.
      c.in_ok-file_numbers.ensures ∙ ap (map file_answered) (c.as_slice.ensures.value ∙ told) ∙ numbers_answered r 1 r.received);
}
