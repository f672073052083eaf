use Rattle.std.proofs.Common.{arith}
use Rattle.oftp_register.specs.Soundness.{IsSoundOutgoing}
use Rattle.oftp_register.specs.LookUps.{outgoing_entry}
use Rattle.oftp_register.specs.Lists.{outgoing_of}
use Rattle.oftp_register.proofs.LookUpLemmas.{fact_at, made_at}
use Rattle.oftp_register.proofs.plain.lists.Lists.outgoing_at.Goals as goal

pub entry-requires : goal.entry-requires
entry-requires c =
    let files = c.args.self.now.outgoing in
    fact_at outgoing_of IsSoundOutgoing files.items c.args.place _ c.requires.sound.outgoing (omega (arith, c.requires.within, files.ok.0)) c.index.ensures

pub returns-clause-value : goal.returns-clause-value
returns-clause-value c = made_at outgoing_of outgoing_entry c.args.self.now.outgoing c.args.place _ _ c.requires.within c.index.ensures c.in_ok-entry.ensures.value
