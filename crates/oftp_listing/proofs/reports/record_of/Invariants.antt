use Rattle.std.proofs.Common.{◌≡◌, [], map, take}
use Rattle.csv.specs.Records.{fields_of, partial_of}
use Rattle.oftp_listing.specs.Details.{text_of}
use Rattle.oftp_listing.proofs.reports.record_of.Given as goal

-- the details so far are fields
abbrev pub invariant-loop-detail : goal.invariant-loop-detail
invariant-loop-detail l = (fields_of l.fields ≡ map text_of (take l.detail-index l.details)) × (partial_of l.fields ≡ [])
