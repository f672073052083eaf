use Rattle.std.proofs.Common.{◌≡◌, ◌∙◌, ◌++◌, ◌+◌, ◌<◌, ◌^◌, [], ◌∷◌, Some, suc, slice_get, length, map, take, ap, sym, append_assoc, append-nil, take_all, arith}
use Rattle.std.specs.List.{filter_map}
use Rattle.sqlite.specs.Held.{state}
use Rattle.sqlite.specs.Order.{Row, column}
use Rattle.oftp_register.specs.Register.{Register}
use Rattle.oftp_register.specs.LookUps.{entry_at}
use Rattle.oftp_tables.specs.Tables.{number_in, number_value, register_in}
use Rattle.oftp_store.specs.Causes.{HasCauseWhere}
use Rattle.oftp_store.specs.Tells.{listed}
use Rattle.oftp_store.proofs.CauseLemmas.{memory_told, row_told, where_by}
use Rattle.oftp_store.proofs.CommitLemmas.{err_passed}
use Rattle.oftp_store.proofs.ListLemmas.{listed_more}
use Rattle.oftp_store.proofs.ListPageLemmas.{item_at, number_at}
use Rattle.oftp_store.proofs.LookLemmas.{looks_failed}
use Rattle.oftp_store.proofs.LoopLemmas.{clean_before, goes_on_after, looks_after, looks_other}
use Rattle.oftp_store.proofs.ReadLemmas.{got_at}
use Rattle.oftp_store.proofs.queries.lists.add_page.Goals as goal

pub rows-init : goal.rows-init
rows-init g c = record {
  known = record {
    looks = looks_other _ _ c.in_ok-rows.rows 0 c.in_ok-rows.ensures.looks;
    known = λ clean has r kept sound. (
      sym (append-nil c.args.entries.now.items),
      ap (map (g.E.Listed.told r)) c.as_slice-row-items.ensures.value ∙ c.in_ok-rows.ensures.answer clean has r kept sound,
      clean,
    );
  };
  last = omega arith;
}

pub returns-in_err-found-clause-looks : goal.returns-in_err-found-clause-looks
returns-in_err-found-clause-looks g c =
    let looks = looks_after g.S.Store _ _ _ _ c.rows.invariant.known.looks c.in_err-found.ensures.looks in
    looks_failed _ _ c.in_err-found.field-0.0 _ looks c.from_residual-in_err-found.ensures.1

pub rows-preserved : goal.rows-preserved
rows-preserved g c =
    let row = c.row-item.result in
    let found = c.in_ok-found.found in
    let items = c.as_slice-row-items.result.now in
    let before = c.args.entries.now.items in
    record {
      known = goes_on_after _ _ (λ r found. c.in_ok-no.no ≡ number_in (column row g.E.Listed.NUMBER) → found ≡ g.E.Listed.told r row) g.S.Store _ _ _ found c.rows.invariant.known
          c.in_ok-found.ensures.looks c.in_ok-found.ensures.answer
          (λ r kept sound known said.
          let told = g.E.Listed.told r in
          let is = said (c.in_ok-no.ensures.told ∙ ap (λ at. number_in (column row at)) c.NUMBER.ensures) in
          let so_far = filter_map (λ item. item) (map told (take c.rows.row-index items)) in (
            c.in_ok-add_if_any.ensures.added ∙ ap (λ es. es ++ listed found) known.0 ∙ append_assoc before so_far (listed found)
                ∙ ap (λ es. before ++ es) (listed_more told items c.rows.row-index row found c.rows-test.true (sym c.row-item.is) is),
            known.1,
            known.2,
          ));
      last = omega (arith, c.in_ok-no.ensures.next, c.rows.invariant.last);
    }

pub returns-clause-answer : goal.returns-clause-answer
returns-clause-answer g c clean has r kept sound =
    let known = c.rows.invariant.known.known clean has r kept sound in
    let before = c.args.entries.now.items in
    known.0
    ∙ ap (λ rows. before ++ filter_map (λ item. item) (map (g.E.Listed.told r) rows)) (take_all c.rows.row-index c.as_slice-row-items.result.now (omega arith))
    ∙ ap (λ told. before ++ filter_map (λ item. item) told) known.1

pub returns-in_err-rows-clause-told : goal.returns-in_err-rows-clause-told
returns-in_err-rows-clause-told g c =
    where_by g.S.Store _ _ _ c.from_residual.result (err_passed _ c.in_err-rows.field-0.0 _ c.from_residual.ensures.1 c.in_err-rows.ensures.told)

-- the number of a row is the next one
pub returns-in_err-no-clause-told : goal.returns-in_err-no-clause-told
returns-in_err-no-clause-told g c =
    let items = c.as_slice-row-items.result.now in
    let row = c.row-item.result in
    err_passed (HasCauseWhere g.S.Store (λ r. length (g.E.Listed.items r) < 2 ^ 63) c.args.conn.now c.rows.conn) c.in_err-no.field-0.0 _ c.from_residual-in_err-no.ensures.1 (record {
      cause = λ is clean limits stands few.
          let r = register_in limits (state g.S.Store c.args.conn.now).now.trees in
          let known = c.rows.invariant.known.known clean stands.holds.schema r stands.holds.tables stands.holds.sound in
          let numbers = c.in_ok-rows.ensures.numbers known.2 stands.holds.schema r stands.holds.tables stands.holds.sound in
          let here = got_at items c.rows.row-index row c.rows-test.true c.row-item.is in
          let next = number_at g.E.Listed.NUMBER items (g.E.Listed.items r) c.args.behind c.rows.row-index c.rows.last row
          (ap (map (λ (row : Row). number_in (column row g.E.Listed.NUMBER))) c.as_slice-row-items.ensures.value ∙ numbers) here c.rows.invariant.last in
          let far = c.in_err-no.ensures.unfit (ap (column row) c.NUMBER.ensures ∙ next.0) in
          absurd (omega (arith, few, next.1, far));
    })

pub returns-in_err-found-clause-told : goal.returns-in_err-found-clause-told
returns-in_err-found-clause-told g c =
    let items = c.as_slice-row-items.result.now in
    let row = c.row-item.result in
    let here = got_at items c.rows.row-index row c.rows-test.true c.row-item.is in
    let At : Register → Type 0 = λ r. entry_at c.in_ok-no.no (g.E.Listed.items r) ≡ Some (g.E.Listed.told r row) in
    row_told g.S.Store g.E.Listed.asked _ At row (number_value c.args.behind ∷ number_value 128 ∷ []) c.in_ok-rows.rows.items c.rows.row-index c.args.conn.now c.find_page.new.conn c.rows.conn
    c.from_page.new.conn 0 c.in_err-found.field-0.0 _ (sym c.in_ok-rows.ensures.given) c.in_ok-rows.ensures.plain
    (ap (λ rows. slice_get rows c.rows.row-index) (sym c.as_slice-row-items.ensures.value) ∙ here)
    c.rows.invariant.known.looks (clean_before g.S.Store _ _ _ c.in_err-found.ensures.looks)
    (λ clean limits stands.
    let r = register_in limits (state g.S.Store c.args.conn.now).now.trees in
    let known = c.rows.invariant.known.known clean stands.holds.schema r stands.holds.tables stands.holds.sound in
    let number : c.in_ok-no.no ≡ suc (c.args.behind + c.rows.row-index) = omega (arith, c.in_ok-no.ensures.next, c.rows.invariant.last) in
    let item = item_at (g.E.Listed.told r) items (g.E.Listed.items r) c.args.behind c.rows.row-index row known.1 here in
    (c.in_ok-rows.ensures.shown known.2, ap (λ n. entry_at n (g.E.Listed.items r)) number ∙ item))
    (c.in_err-found.ensures.told (c.in_ok-no.ensures.told ∙ ap (λ at. number_in (column row at)) c.NUMBER.ensures)) c.from_residual-in_err-found.ensures.1

pub returns-in_err-add_if_any-clause-told : goal.returns-in_err-add_if_any-clause-told
returns-in_err-add_if_any-clause-told g c =
    memory_told g.S.Store _ _ _ c.in_err-add_if_any.field-0.0 _ c.in_err-add_if_any.ensures.memory c.from_residual-in_err-add_if_any.ensures.1
