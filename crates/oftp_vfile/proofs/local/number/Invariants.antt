use Rattle.std.proofs.Common.{◌≡◌, All, take}
use Rattle.oftp_vfile.proofs.LocalLemmas.{IsDigit, number_of}
use Rattle.oftp_vfile.proofs.local.number.Given as goal

abbrev pub invariant-loop-digit : goal.invariant-loop-digit
invariant-loop-digit l = record {
  digits : All IsDigit (take l.digit-index l.digits);
  value : l.number ≡ number_of (take l.digit-index l.digits);
}
