use Rattle.serde_json.specs.Data.{object}
use Rattle.oftp_events.specs.Lines.{line_members, present_members}
use Rattle.oftp_events.proofs.LineLemmas.{line_is}
use Rattle.oftp_events.proofs.PlainLemmas.{one_line}
use Rattle.oftp_events.proofs.line.EventLine.to_line.Goals as goal

pub returns-clause-text : goal.returns-clause-text
returns-clause-text c =
    line_is _ _ _ _ _ _ _ c.in_ok-line.ensures.items c.in_ok-add_text.ensures c.in_ok-add_members.ensures c.in_ok-extend_from_slice.ensures.items c.members.ensures

pub returns-clause-alone : goal.returns-clause-alone
returns-clause-alone c =
    one_line (object (present_members (line_members c.args.self.now))) _
    (line_is _ _ _ _ _ _ _ c.in_ok-line.ensures.items c.in_ok-add_text.ensures c.in_ok-add_members.ensures c.in_ok-extend_from_slice.ensures.items c.members.ensures)
