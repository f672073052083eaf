use Rattle.std.proofs.Common.{rules, [], ◌∷◌}
use Rattle.oftp_channel.specs.Answers.{spelled_piece}
use Rattle.oftp_channel.specs.Inputs.{Gave}
use Rattle.oftp_channel.proofs.InputLemmas.{passed_behind}
use Rattle.oftp_channel.proofs.PartLemmas.{end_again, no_part, piece_again}
use Rattle.oftp_channel.proofs.answer.read_part.Goals as goal

pub returns-in_err-ending-clause-refused : goal.returns-in_err-ending-clause-refused
returns-in_err-ending-clause-refused g c =
    let zero : Gave g.R.Read.remaining c.args.reader.now c.read_octet.new.reader (0 ∷ []) = search rules in
    no_part g.R.Read.remaining c.args.reader.now c.read_octet.new.reader c.in_err-ending.field-0.0 _ c.from_residual-in_err-ending.ensures.1 zero c.in_err-ending.ensures.refused

pub returns-in_err-ending-clause-leaves : goal.returns-in_err-ending-clause-leaves
returns-in_err-ending-clause-leaves g c = passed_behind g.R.Read.remaining c.args.reader.now _ _ _ c.in_err-ending.field-0.0 _ c.from_residual-in_err-ending.ensures.1
    c.in_ok-code.ensures.read c.in_err-ending.ensures.leaves

pub returns-then-code-eq0-clause-again : goal.returns-then-code-eq0-clause-again
returns-then-code-eq0-clause-again g c = λ told rest is e.
    let zero : Gave g.R.Read.remaining c.args.reader.now c.read_octet.new.reader (0 ∷ []) = search rules in
    end_again g.R.Read.remaining c.args.reader.now c.read_octet.new.reader c.in_ok-ending.ending told rest zero is e c.in_ok-ending.ensures.again

pub returns-in_err-octets-clause-leaves : goal.returns-in_err-octets-clause-leaves
returns-in_err-octets-clause-leaves g c = passed_behind g.R.Read.remaining c.args.reader.now _ _ _ c.in_err-octets.field-0.0 _ c.from_residual-in_err-octets.ensures.1
    c.in_ok-code.ensures.read c.in_err-octets.ensures.leaves

pub returns-clause-again : goal.returns-clause-again
returns-clause-again g c = λ told rest fits e.
    let octets = c.in_ok-octets.octets.items in
    let gave : Gave g.R.Read.remaining c.args.reader.now c.read_word.new.reader (spelled_piece c.in_ok-outlet.outlet octets) = search rules in
    piece_again g.R.Read.remaining c.args.reader.now c.read_word.new.reader c.in_ok-outlet.outlet octets told rest gave c.in_ok-octets.ensures.most fits e
