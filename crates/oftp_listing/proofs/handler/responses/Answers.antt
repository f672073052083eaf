use Rattle.std.proofs.Common.{◌≡◌, codes, [], ◌∷◌, map}
use Rattle.serde_json.specs.Data.{object}
use Rattle.serde_json.specs.Written.{compact_text}
use Rattle.oftp_register.specs.LookUps.{list_issued, list_received}
use Rattle.oftp_listing.specs.Objects.{issued_object, members}
use Rattle.oftp_listing.specs.Texts.{list_of, shown_received, shown_responses}
use Rattle.oftp_listing.proofs.Asking.{finds_both}
use Rattle.oftp_listing.proofs.Listings.{two_values}
use Rattle.oftp_listing.proofs.handler.responses.Goals as goal

pub returns-clause-finds : goal.returns-clause-finds
returns-clause-finds g c =
    finds_both (λ r text. text.items ≡ compact_text (shown_responses r)) _ _ _ _ _ c.extend_from_slice-2.new.self c.in_ok-text-2.ensures.finds c.in_ok-text-3.ensures.finds
    (λ r issued received. two_values _ _ _ _ _ (list_of (map issued_object (list_issued r))) (list_of (map (shown_received r) (list_received r)))
    c.in_ok-text.ensures.items issued c.in_ok-extend_from_slice.ensures.items received c.in_ok-extend_from_slice-2.ensures.items)

pub returns-clause-shows : goal.returns-clause-shows
returns-clause-shows g c =
    let issued = c.in_ok-text-2.ensures.shows in
    let received = c.in_ok-text-3.ensures.shows in (
      object (members ((codes "issued", issued.0) ∷ (codes "received", received.0) ∷ [])),
      two_values _ _ _ _ _ issued.0 received.0 c.in_ok-text.ensures.items issued.1 c.in_ok-extend_from_slice.ensures.items received.1 c.in_ok-extend_from_slice-2.ensures.items,
    )
