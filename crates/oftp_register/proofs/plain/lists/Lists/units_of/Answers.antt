use Rattle.std.proofs.Common.{◌∙◌, arith, ap}
use Rattle.oftp_vfile.specs.VirtualFile.{units_in}
use Rattle.oftp_register.specs.Lists.{register_in}
use Rattle.oftp_register.specs.Units.{units_told}
use Rattle.oftp_register.proofs.FileRowLemmas.{few_units}
use Rattle.oftp_register.proofs.FormatUnitLemmas.{units_of_file, units_of_none}
use Rattle.oftp_register.proofs.plain.lists.Lists.units_of.Goals as goal

pub units_told-requires-clause-small : goal.units_told-requires-clause-small
units_told-requires-clause-small c = omega (arith, few_units (register_in c.args.self.now) c.args.side c.args.no c.requires, ap units_in c.file_rows.ensures)

pub returns-in-Some-clause-value : goal.returns-in-Some-clause-value
returns-in-Some-clause-value c =
    c.units_told.ensures ∙ ap (units_told c.in-Some.format c.in-Some.longest) c.file_rows.ensures
    ∙ units_of_file (register_in c.args.self.now) c.args.side c.args.no c.in-Some.format c.in-Some.longest c.requires (rw c.in-Some.is at c.file_format.ensures)

pub returns-in-Some-clause-within : goal.returns-in-Some-clause-within
returns-in-Some-clause-within c = omega (arith, few_units (register_in c.args.self.now) c.args.side c.args.no c.requires, returns-in-Some-clause-value c)

pub returns-in-None-clause-value : goal.returns-in-None-clause-value
returns-in-None-clause-value c = units_of_none (register_in c.args.self.now) c.args.side c.args.no c.requires (rw c.in-None.is at c.file_format.ensures)
