use Rattle.std.proofs.Common.{◌≡◌, take, drop, subst, sym, ap, ◌∙◌}
use Rattle.std.proofs.lemmas.Result.{IfOk-weaker}
use Rattle.oftp_register.specs.LookUps.{AreRowsWithin, file_rows}
use Rattle.oftp_register.specs.Lists.{register_in}
use Rattle.oftp_register.proofs.FileRowLemmas.{few_rows, part_within}
use Rattle.oftp_register.proofs.plain.lists.Lists.rows_of.Goals as goal

pub returns-clause-within : goal.returns-clause-within
returns-clause-within c =
    let r = register_in c.args.self.now in
    IfOk-weaker c.copy_of.result (λ rows. rows ≡ c.part_of.result.now) (AreRowsWithin c.args.from c.args.most)
    (λ rows e. subst (AreRowsWithin c.args.from c.args.most) (sym (e ∙ c.part_of.ensures ∙ ap (λ all. take c.args.most (drop c.args.from all)) c.file_rows.ensures))
    (part_within c.args.from c.args.most (file_rows r c.args.side c.args.no) (few_rows r c.args.side c.args.no c.requires)))
    c.copy_of.ensures
