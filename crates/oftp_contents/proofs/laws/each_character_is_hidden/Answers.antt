use Rattle.oftp_contents.proofs.CharacterLemmas.{each_hidden}
use Rattle.oftp_contents.proofs.laws.each_character_is_hidden.Goals as goal

pub returns : goal.returns
returns c = each_hidden
