use Rattle.std.proofs.Common.{◌≡◌, take}
use Rattle.serde_json.specs.View.{members_view}
use Rattle.oftp_listing.specs.Details.{gathered}
use Rattle.oftp_listing.proofs.json.object_of.Given as goal

-- the members so far are put in
abbrev pub invariant-loop-key : goal.invariant-loop-key
invariant-loop-key l = members_view l.map.entries ≡ gathered (take l.key-index l.members)
