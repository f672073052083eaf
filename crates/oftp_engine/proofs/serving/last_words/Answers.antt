use Rattle.oftp_session.specs.Calls.{said}
use Rattle.std.proofs.Common.{ap, is_ok}
use Rattle.oftp_session.specs.Standings.{ended_as}
use Rattle.oftp_engine.proofs.Stepping.{last_from, ok_same}
use Rattle.oftp_engine.proofs.serving.last_words.Goals as goal

pub returns-clause-words : goal.returns-clause-words
returns-clause-words g c =
    let same = ok_same _ _ (c.in-Ok.ensures.open (ap ended_as c.requires)) in
    last_from g.W.Write.contents c.args.port.now c.write_out.new.port (said c.in-Ok.out) (is_ok c.write_out.result) same c.write_out.ensures.sent
