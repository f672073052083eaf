use Rattle.std.proofs.Common.{arith}
use Rattle.oftp_register.specs.Soundness.{IsSoundIncoming}
use Rattle.oftp_register.specs.LookUps.{incoming_entry}
use Rattle.oftp_register.specs.Lists.{incoming_of}
use Rattle.oftp_register.proofs.LookUpLemmas.{fact_at, made_at}
use Rattle.oftp_register.proofs.plain.lists.Lists.incoming_at.Goals as goal

pub entry-requires : goal.entry-requires
entry-requires c =
    let files = c.args.self.now.incoming in
    fact_at incoming_of IsSoundIncoming files.items c.args.place _ c.requires.sound.incoming (omega (arith, c.requires.within, files.ok.0)) c.index.ensures

pub returns-clause-value : goal.returns-clause-value
returns-clause-value c = made_at incoming_of incoming_entry c.args.self.now.incoming c.args.place _ _ c.requires.within c.index.ensures c.in_ok-entry.ensures.value
