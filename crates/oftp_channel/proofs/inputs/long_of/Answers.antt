use Rattle.std.proofs.Common.{rules}
use Rattle.std.proofs.lemmas.Nat.{be_bytes_8}
use Rattle.oftp_channel.proofs.inputs.long_of.Goals as goal

pub returns : goal.returns
returns c = be_bytes_8 c.args.octets.now _ c.requires (search rules) c.from_be_bytes.ensures
