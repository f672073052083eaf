use Rattle.std.proofs.Common.{refl, arith, inl}
use Rattle.oftp_io.proofs.Bytes.{consumes_none}
use Rattle.oftp_io.proofs.port.Port.read.Goals as goal

pub returns-then-self : goal.returns-then-self
returns-then-self g c = record {
  fits = omega arith;
  bytes = consumes_none (g.R.Read.remaining c.args.self.now.inner) c.args.piece.now;
  moved = omega arith;
  within = omega arith;
  end = λ e. record { ended = refl; cause = inl (omega arith) };
  on = λ some. absurd (omega arith);
  faults = refl;
  most = refl;
}
