use Rattle.std.proofs.Common.{◌≤◌, arith}
use Rattle.std.proofs.lemmas.Bool.Decides.{nat_tests}
use Rattle.oftp_contents.specs.Passwords.{hidden_octet, password_end, shown_octet}
use Rattle.oftp_contents.proofs.PasswordLemmas.{hidden_same, left, shown_same}
use Rattle.oftp_contents.proofs.passwords.PasswordFinder.is_over.Goals as goal

pub returns-clause-hidden : goal.returns-clause-hidden
returns-clause-hidden c passed =
    let finder = c.args.self.now in
    let over : password_end finder.order ≤ finder.passed = grind (arith, nat_tests, passed, c.octets_before.ensures) in
    left hidden_octet hidden_same finder over

pub returns-clause-shown : goal.returns-clause-shown
returns-clause-shown c passed =
    let finder = c.args.self.now in
    let over : password_end finder.order ≤ finder.passed = grind (arith, nat_tests, passed, c.octets_before.ensures) in
    left shown_octet shown_same finder over
