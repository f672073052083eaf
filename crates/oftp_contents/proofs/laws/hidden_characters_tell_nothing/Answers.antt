use Rattle.oftp_contents.proofs.CharacterLemmas.{literal_tells_nothing, tells_nothing}
use Rattle.oftp_contents.proofs.laws.hidden_characters_tell_nothing.Goals as goal

pub returns-clause-character : goal.returns-clause-character
returns-clause-character c = tells_nothing

pub returns-clause-literal : goal.returns-clause-literal
returns-clause-literal c = literal_tells_nothing
