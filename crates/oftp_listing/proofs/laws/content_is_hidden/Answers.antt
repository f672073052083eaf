use Rattle.oftp_listing.proofs.HidingLemmas.{replies_alike, reports_alike}
use Rattle.oftp_listing.proofs.laws.content_is_hidden.Goals as goal

pub returns : goal.returns
returns c = record { replies = replies_alike; reports = reports_alike }
