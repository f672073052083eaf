use Rattle.std.proofs.Common.{arith}
use Rattle.oftp_engine.proofs.Offers.{variable_long}
use Rattle.oftp_engine.proofs.submitting.units_of.Goals as goal

pub overflow_mul-result : goal.overflow_mul-result
overflow_mul-result c = omega (arith, variable_long c.args.format c.args.longest c.args.content.now c.args.rows.now c.in-Variable.is c.requires, c.len.ensures)

pub overflow_sub-result : goal.overflow_sub-result
overflow_sub-result c = omega (arith, variable_long c.args.format c.args.longest c.args.content.now c.args.rows.now c.in-Variable.is c.requires, c.len.ensures)

pub returns-in-Variable : goal.returns-in-Variable
returns-in-Variable c = omega (arith, variable_long c.args.format c.args.longest c.args.content.now c.args.rows.now c.in-Variable.is c.requires, c.len.ensures)
