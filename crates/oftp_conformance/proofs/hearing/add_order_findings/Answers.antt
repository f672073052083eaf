use Rattle.std.proofs.Common.{◌∙◌, ap, sym}
use Rattle.oftp_telling.specs.Fields.{all_seen}
use Rattle.oftp_telling.specs.Names.{Sheet}
use Rattle.oftp_conformance.specs.Places.{all_found}
use Rattle.oftp_conformance.proofs.HearingLemmas.{found_read, on_ok}
use Rattle.oftp_conformance.proofs.hearing.add_order_findings.Goals as goal

pub returns-in-Ok : goal.returns-in-Ok
returns-in-Ok c = on_ok c.add_read_rules.result
    (found_read c.args.session.now c.args.who c.args.kind c.args.frame.now c.in-Ok.command (all_seen c.as_slice-fields.result.now)
    (all_found c.args.found.now.items) (all_found c.add_read_rules.new.found.items)
    (ap all_seen c.as_slice-fields.ensures.value ∙ ap (λ (s : Sheet). s.entries) c.in_ok-sheet.ensures)
    (sym c.parse.ensures.value ∙ c.in-Ok.is))
    c.add_read_rules.ensures
