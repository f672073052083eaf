use Rattle.std.proofs.Common.{◌≡◌, ℕ, ◌+◌, subst, arith}
use Rattle.oftp_record.specs.Inside.{IsAt}
use Rattle.oftp_record.proofs.eight_read.Eight.four_at.Goals as goal

pub returns : goal.returns
returns c =
    let e = c.args.self.now in
    let place = c.args.place in
    let two : place + 2 ≡ place + 1 + 1 = omega arith in
    let three : place + 3 ≡ place + 1 + 1 + 1 = omega arith in
    let c2 = subst (λ (n : ℕ). IsAt e.stride e.octets.now n c.in_ok-b.b.digest.0 c.in_ok-c.c) two c.in_ok-c.ensures in
    let c3 = subst (λ (n : ℕ). IsAt e.stride e.octets.now n c.in_ok-c.c.digest.0 c.in_ok-d.d) three c.in_ok-d.ensures in
    (c.in_ok-a.ensures, (c.in_ok-b.ensures, (c2, (c3, tt))))
