use Rattle.std.proofs.Common.{◌∙◌, ◌++◌, ap}
use Rattle.std.proofs.lemmas.Result.{IfOk-weaker}
use Rattle.oftp_listing.proofs.Asking.{finds_made}
use Rattle.oftp_listing.proofs.Reporting.{lines_are}
use Rattle.oftp_listing.proofs.reports.add_lines.Goals as goal

pub returns : goal.returns
returns g c = record {
  finds = finds_made _ _ _ c.add_each_line.result c.in_ok-entries.ensures c.add_each_line.ensures.fault (λ r told.
      IfOk-weaker c.add_each_line.result _ _ (λ text is. is ∙ ap (λ ls. c.args.front.items ++ ls)
      (lines_are g.E.Resource.kind r _ _ (c.as_slice.ensures.value ∙ told.0) (c.as_slice-2.ensures.value ∙ told.1))) c.add_each_line.ensures.text);
}
