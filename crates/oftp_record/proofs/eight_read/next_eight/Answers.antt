use Rattle.std.proofs.Common.{◌≡◌, ℕ, ◌+◌, ◌*◌, List, [], ◌∷◌, drop, subst, arith}
use Rattle.oftp_record.specs.Inside.{AreAt}
use Rattle.oftp_record.specs.Next.{ArePassed}
use Rattle.oftp_record.specs.declared.chain.TheConstants.{DIGEST_LEN}
use Rattle.oftp_record.specs.declared.eight_read.PassedEntry.{PassedEntry}
use Rattle.oftp_record.specs.declared.header.TheConstants.{HEADER_LEN}
use Rattle.oftp_record.proofs.PassedLemmas.{at_passed}
use Rattle.oftp_record.proofs.eight_read.next_eight.Goals as goal

pub returns : goal.returns
returns c =
    let octets = c.args.octets.now in
    let before = c.args.before.now.0 in
    let stride = HEADER_LEN + c.in_ok-header.header.count + DIGEST_LEN in
    let a = c.in_ok-first.ensures in
    let first = c.in_ok-first.first in
    let last = c.in_ok-last.last in
    let eight : List PassedEntry = first.0 ∷ first.1 ∷ first.2 ∷ first.3 ∷ last.0 ∷ last.1 ∷ last.2 ∷ last.3 ∷ [] in
    let all : AreAt stride octets 0 before eight = (a.0, (a.1.0, (a.1.1.0, (a.1.1.1.0, c.in_ok-last.ensures)))) in
    let start : 0 * stride ≡ 0 = omega arith in
    subst (λ (n : ℕ). ArePassed before (drop n octets) eight) start (at_passed stride octets 0 before eight all)
