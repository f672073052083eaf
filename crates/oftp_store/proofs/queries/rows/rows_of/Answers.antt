use Rattle.std.proofs.Common.{◌≡◌, ◌∙◌, length, min, take, drop, ap, arith}
use Rattle.oftp_register.specs.LookUps.{file_rows}
use Rattle.oftp_store.proofs.CauseLemmas.{never_told}
use Rattle.oftp_store.proofs.PageLemmas.{asked_rows, few_asked}
use Rattle.oftp_store.proofs.queries.rows.rows_of.Goals.{then-len-most-via-then-len-most, then-len-most-via-else-len-most+then-len-from}
use Rattle.sqlite.specs.Held.{state}
use Rattle.oftp_vfile.specs.declared.format.TheConstants.{MOST_ROWS}
use Rattle.oftp_tables.specs.Tables.{register_in}
use Rattle.oftp_store.proofs.queries.rows.rows_of.Goals as goal

pub returns-clause-answer : goal.returns-clause-answer
returns-clause-answer g c clean has r kept sound =
    c.new.ensures ∙ c.in_ok-rows.ensures.answer clean has r kept ∙ ap (λ m. take m (drop c.args.from (file_rows r c.args.side c.args.no))) c.min-few.ensures
    ∙ asked_rows r c.args.side c.args.no c.args.from c.args.most sound

pub returns-then-len-most-clause-told : goal.returns-then-len-most-clause-told
returns-then-len-most-clause-told g c =
    never_told g.S.Store c.args.conn.now c.find_rows.new.conn _ (λ clean limits stands.
    let r = register_in limits (state g.S.Store c.args.conn.now).now.trees in
    let rest = drop c.args.from (file_rows r c.args.side c.args.no) in
    let told = ap length (c.in_ok-rows.ensures.answer clean stands.holds.schema r stands.holds.tables ∙ ap (λ m. take m rest) c.min-few.ensures) in
    let count : c.len-len.result ≡ length (take (min c.args.most MOST_ROWS) rest) = omega (arith, c.len-len.ensures, c.in_ok-rows.rows.ok.0, told) in
    let few = few_asked r c.args.side c.args.no c.args.from c.args.most c.len-len.result stands.holds.sound count in
    elim c.then-len-most.branch [
      | then-len-most-via-then-len-most w ↦ omega (arith, few.0, w.if-len-most.true)
      | then-len-most-via-else-len-most+then-len-from w ↦ omega (arith, few.1 c.requires.from, w.if-len-from.true)
    ])
