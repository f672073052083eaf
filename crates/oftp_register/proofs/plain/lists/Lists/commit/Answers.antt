use Rattle.oftp_register.proofs.FitLemmas.{makes_sound}
use Rattle.oftp_register.proofs.plain.lists.Lists.commit.Goals as goal

pub returns-clause-sound : goal.returns-clause-sound
returns-clause-sound c = makes_sound c.args.self.now c.make.new.self _ c.make.result c.requires.sound c.requires.fit c.make.ensures
