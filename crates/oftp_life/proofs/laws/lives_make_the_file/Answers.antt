use Rattle.oftp_life.proofs.LifeParts.{life_makes_the_file}
use Rattle.oftp_life.proofs.laws.lives_make_the_file.Goals as goal

pub returns : goal.returns
returns g c = λ file identity first now acts clean stood h so brings content may.
    life_makes_the_file file identity (g.O.Office.view first).register acts (g.O.Office.view now) h (g.met.O.Office.sound first clean stood) so brings content may
