use Rattle.oftp_contents.proofs.FieldLemmas.{one_content}
use Rattle.oftp_contents.proofs.laws.one_content.Goals as goal

pub returns : goal.returns
returns c = one_content
