use Rattle.std.proofs.Common.{arith}
use Rattle.oftp_register.proofs.plain.outgoing.OutgoingFile.entry.Goals as goal

pub returns-clause-within : goal.returns-clause-within
returns-clause-within c = record {
  longest = c.requires.longest;
  rows = omega (arith, c.len.ensures, c.args.self.now.rows.ok.0, c.requires.few);
  mark = omega (arith, c.len.ensures, c.args.self.now.rows.ok.0, c.requires.marked);
}
