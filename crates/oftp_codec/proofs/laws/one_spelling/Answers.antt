use Rattle.oftp_codec.proofs.SpellingLaws.{canon_spells, one_command, spells_free, reads_spelled, refuses_fault}
use Rattle.oftp_codec.proofs.Room.{canon_short, canon_some, canon-data}
use Rattle.oftp_codec.proofs.laws.one_spelling.Goals as goal

pub returns-clause-canon : goal.returns-clause-canon
returns-clause-canon c = canon_spells

pub returns-clause-one : goal.returns-clause-one
returns-clause-one c = one_command

pub returns-clause-free : goal.returns-clause-free
returns-clause-free c = spells_free

pub returns-clause-reads : goal.returns-clause-reads
returns-clause-reads c = reads_spelled

pub returns-clause-refuses : goal.returns-clause-refuses
returns-clause-refuses c = refuses_fault

pub returns-clause-some : goal.returns-clause-some
returns-clause-some c = canon_some

pub returns-clause-room : goal.returns-clause-room
returns-clause-room c = canon_short

pub returns-clause-payload : goal.returns-clause-payload
returns-clause-payload c = canon-data
