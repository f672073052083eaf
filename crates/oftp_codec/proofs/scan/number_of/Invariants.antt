use Rattle.std.proofs.Common.{◌≡◌, ◌^◌, ◌<◌, take}
use Rattle.oftp_wire.specs.Octets.{number}
use Rattle.oftp_codec.proofs.scan.number_of.Given as goal

abbrev pub invariant-loop-c : goal.invariant-loop-c
invariant-loop-c l = record { value : l.n ≡ number (take l.c-index l.field); fits : l.n < 10 ^ l.c-index }
