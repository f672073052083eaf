use Rattle.std.proofs.lemmas.List.{take_rest}
use Rattle.oftp_page.proofs.TailLemmas.{many_fit}
use Rattle.oftp_page.proofs.tail.lines_told.Goals as goal

pub returns-then-last-gt-MOST_OF_EVENTS-clause-few : goal.returns-then-last-gt-MOST_OF_EVENTS-clause-few
returns-then-last-gt-MOST_OF_EVENTS-clause-few c =
    let fit = many_fit c.args.last.now c.if-last-gt-MOST_OF_EVENTS.true in rw (c.ended_lines.ensures, c.behind_line.ensures, take_rest) fit
