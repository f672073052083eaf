use Rattle.std.proofs.Common.{rules}
use Rattle.oftp_tables.proofs.ReaderLemmas.{digits_back}
use Rattle.oftp_tables.proofs.values.two_digits_of.Goals as goal

pub returns-then-units-lt58-clause-fits : goal.returns-then-units-lt58-clause-fits
returns-then-units-lt58-clause-fits c =
    digits_back c.args.text.now _ _ c.new.result (search rules) (search rules) (search rules) (search rules) (search rules) c.from.ensures c.from-then-units-lt58.ensures c.new.ensures
