use Rattle.std.proofs.Common.{◌≡◌, ◌∙◌, ◌+◌, ◌*◌, ◌/◌, ◌≤◌, ◌++◌, take, drop, ap, sym, arith, take_all}
use Rattle.std.specs.List.{filter_map}
use Rattle.std.proofs.Math.Seq.{take-add}
use Rattle.std.proofs.lemmas.Bool.Decides.{nat_tests}
use Rattle.std.proofs.lemmas.List.Elements.{filter_map-append}
use Rattle.sqlite.specs.Held.{state}
use Rattle.oftp_tables.specs.Tables.{register_in}
use Rattle.oftp_store.proofs.CauseLemmas.{passed_where}
use Rattle.oftp_store.proofs.LoopLemmas.{begins_known, goes_on_known}
use Rattle.oftp_store.proofs.queries.lists.list.Goals as goal

pub pages-init : goal.pages-init
pages-init g c =
    begins_known _ _ _ c.in_ok-last.last c.in_ok-last.ensures.looks (λ k has r kept. (c.in_ok-last.ensures.answer k has r kept ∙ c.table.ensures.count r, c.new-entries.ensures.items))

pub pages-preserved : goal.pages-preserved
pages-preserved g c =
    let items = g.E.Listed.items in
    let behind = c.pages.page * 128 in
    let more : (c.pages.page + 1) * 128 ≡ c.pages.page * 128 + 128 = omega arith in
    goes_on_known _ _ (λ r _. c.add_page.new.entries.items ≡ c.pages.entries.items ++ filter_map (λ item. item) (take 128 (drop behind (items r)))) _ _ _ _ c.pages.invariant
    c.in_ok-add_page.ensures.looks c.in_ok-add_page.ensures.answer
    (λ r kept sound known said. (
      known.0,
      said ∙ ap (λ es. es ++ filter_map (λ item. item) (take 128 (drop behind (items r)))) known.1
          ∙ sym (ap (λ m. filter_map (λ item. item) (take m (items r))) more ∙ ap (filter_map (λ item. item)) (take-add behind 128 (items r))
          ∙ filter_map-append (λ item. item) (take behind (items r)) (take 128 (drop behind (items r)))),
    ))

pub returns-clause-answer : goal.returns-clause-answer
returns-clause-answer g c clean has r kept sound =
    let known = c.pages.invariant.known clean has r kept sound in
    let last : c.in_ok-last.last / 128 + 1 ≤ c.pages.page = grind (arith, nat_tests, c.pages-test.false) in
    known.1 ∙ ap (filter_map (λ item. item)) (take_all (c.pages.page * 128) (g.E.Listed.items r) (omega (arith, known.0, last))) ∙ c.table.ensures.entries r

pub returns-in_err-add_page-clause-told : goal.returns-in_err-add_page-clause-told
returns-in_err-add_page-clause-told g c =
    passed_where g.S.Store _ c.args.conn.now c.pages.conn c.add_page.new.conn 0 c.in_err-add_page.field-0.0 _ c.pages.invariant.looks c.in_err-add_page.ensures.looks
    (λ clean limits stands.
    let r = register_in limits (state g.S.Store c.args.conn.now).now.trees in
    let known = c.pages.invariant.known clean stands.holds.schema r stands.holds.tables stands.holds.sound in
    omega (arith, known.0, c.in_ok-last.ensures.small)) c.in_err-add_page.ensures.told c.from_residual-in_err-add_page.ensures.1
