use Rattle.oftp_engine.specs.Serving.{scene}
use Rattle.oftp_engine.proofs.Conversations.{heard_more, heard_none, listens_kept}
use Rattle.oftp_engine.proofs.laws.conversations_hear_pieces.Goals as goal

pub returns-clause-begins : goal.returns-clause-begins
returns-clause-begins g c = λ setting talk first front clean stood fresh.
    heard_none setting talk (scene g.W.Write.contents (g.O.Office.view first) front) fresh (g.met.O.Office.sound first clean stood) stood

pub returns-clause-hears : goal.returns-clause-hears
returns-clause-hears g c = λ setting given octets old new first now front here.
    heard_more setting given octets old new (scene g.W.Write.contents (g.O.Office.view first) front) (scene g.W.Write.contents (g.O.Office.view now) here)

pub returns-clause-waits : goal.returns-clause-waits
returns-clause-waits g c = λ setting given talk first now later front here.
    listens_kept setting given talk (scene g.W.Write.contents (g.O.Office.view first) front) (scene g.W.Write.contents (g.O.Office.view now) here) (g.O.Office.view later)
