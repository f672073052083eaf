use Rattle.oftp_contents.proofs.CharacterLemmas.{string_is}
use Rattle.oftp_contents.proofs.laws.string_is_its_characters.Goals as goal

pub returns : goal.returns
returns c = string_is
