use Rattle.oftp_channel.proofs.InputLemmas.{gave_read, want_behind}
use Rattle.oftp_channel.proofs.inputs.read_octets.Goals as goal

pub returns-in_err-extend_from_slice-clause-leaves : goal.returns-in_err-extend_from_slice-clause-leaves
returns-in_err-extend_from_slice-clause-leaves g c = want_behind g.R.Read.remaining c.args.reader.now _ _ _ c.from_residual.ensures.1
    (gave_read g.R.Read.remaining c.args.reader.now c.octets.reader c.read.new.self c.octets.octets.items _ c.in-Some.came c.octets.invariant.so_far c.in-Some.ensures)
