use Rattle.std.proofs.Common.{◌∙◌, arith}
use Rattle.oftp_register.proofs.FormatUnitLemmas.{units_of_file, units_of_none}
use Rattle.oftp_store.proofs.LookLemmas.{answers_after}
use Rattle.oftp_register.proofs.FileRowLemmas.{few_units}
use Rattle.oftp_tables.specs.Tables.{register_in}
use Rattle.sqlite.specs.Held.{state}
use Rattle.oftp_store.proofs.CauseLemmas.{told_where}
use Rattle.oftp_store.proofs.queries.units.count_units.Goals as goal

pub returns-in_default-clause-answer : goal.returns-in_default-clause-answer
returns-in_default-clause-answer g c clean has r kept sound = units_of_none r c.args.side c.args.no sound (rw c.in_default.is at (c.in_ok-format.ensures.answer clean has r kept))

pub returns-clause-answer : goal.returns-clause-answer
returns-clause-answer g c =
    answers_after _ _ _ _ _ _ _ _ c.in_ok-format.ensures.looks c.count_in_format.ensures.looks
    (λ k has r kept. rw c.in-Some.is at (c.in_ok-format.ensures.answer k has r kept)) c.count_in_format.ensures.answer
    (λ r units is told sound. told sound ∙ units_of_file r c.args.side c.args.no _ _ sound is)

pub returns-clause-told : goal.returns-clause-told
returns-clause-told g c =
    told_where g.S.Store _ c.args.conn.now c.find_format.new.conn _ _ c.count_in_format.result c.in_ok-format.ensures.looks c.count_in_format.ensures.looks (λ clean limits stands.
    let r = register_in limits (state g.S.Store c.args.conn.now).now.trees in
    let format = rw c.in-Some.is at (c.in_ok-format.ensures.answer clean stands.holds.schema r stands.holds.tables) in
    omega (arith, units_of_file r c.args.side c.args.no _ _ stands.holds.sound format, few_units r c.args.side c.args.no stands.holds.sound)) c.count_in_format.ensures.told
