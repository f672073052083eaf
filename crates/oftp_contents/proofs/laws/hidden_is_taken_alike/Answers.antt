use Rattle.oftp_contents.proofs.PasswordLemmas.{alike}
use Rattle.oftp_contents.proofs.laws.hidden_is_taken_alike.Goals as goal

pub returns : goal.returns
returns c = alike
