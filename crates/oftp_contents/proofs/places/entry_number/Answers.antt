use Rattle.std.proofs.Common.{◌≤◌, ◌<◌, length, arith}
use Rattle.std.proofs.lemmas.Bool.Decides.{nat_tests}
use Rattle.oftp_contents.proofs.Digits.{whole}
use Rattle.oftp_contents.proofs.places.entry_number.Goals as goal

-- all its octets are digits, and there is one
pub returns : goal.returns
returns c =
    let l = c.loop-digit in
    let passed : length c.args.text.now ≤ l.digit-index = grind (arith, nat_tests, c.loop-digit-test.false, l.auto) in
    let some : 0 < length c.args.text.now = grind (arith, nat_tests, c.is_empty.ensures, c.if-is_empty.false) in
    whole c.args.text.now l.digit-index l.number l.invariant.value l.invariant.digits passed some l.invariant.below
