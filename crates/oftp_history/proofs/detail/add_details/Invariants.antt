use Rattle.std.proofs.Common.{◌≡◌, fold, string_bytes, take}
use Rattle.oftp_history.specs.Details.{with_detail}
use Rattle.oftp_history.proofs.detail.add_details.Given as goal

-- the details so far are appended
abbrev pub invariant-loop-detail : goal.invariant-loop-detail
invariant-loop-detail l = string_bytes l.text ≡ fold with_detail (string_bytes l.initial.text) (take l.detail-index l.details)
