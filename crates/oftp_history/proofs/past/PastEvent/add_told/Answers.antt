use Rattle.std.proofs.Common.{string_bytes}
use Rattle.oftp_history.specs.Details.{details}
use Rattle.oftp_history.specs.Past.{past_value}
use Rattle.oftp_history.proofs.DetailLemmas.{on_ok, with_told}
use Rattle.oftp_history.proofs.past.PastEvent.add_told.Goals as goal

pub returns : goal.returns
returns c = on_ok c.add_details.result
    (with_told c.details-details.result (details (past_value c.args.self.now)) (string_bytes c.args.text.now) (string_bytes c.add_details.new.text)
    c.details-details.ensures)
    c.add_details.ensures
