use Rattle.oftp_channel.proofs.InputLemmas.{answered_behind}
use Rattle.oftp_channel.proofs.inputs.read_word.Goals as goal

pub returns-clause-leaves : goal.returns-clause-leaves
returns-clause-leaves g c = answered_behind g.R.Read.remaining c.args.reader.now _ _ _ _ c.in_ok-count.ensures.read c.read_octets.ensures.leaves
