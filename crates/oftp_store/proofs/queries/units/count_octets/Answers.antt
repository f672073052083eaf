use Rattle.std.proofs.Common.{◌≡◌, ◌∙◌, ◌+◌, ◌*◌, ◌/◌, ◌≤◌, take, drop, ap, refl, arith}
use Rattle.std.proofs.lemmas.Bool.Decides.{nat_tests}
use Rattle.oftp_vfile.specs.VirtualFile.{units_in}
use Rattle.oftp_register.specs.LookUps.{file_rows}
use Rattle.oftp_store.proofs.LoopLemmas.{begins_known, goes_on_known}
use Rattle.oftp_store.proofs.PageLemmas.{all_pages, page_more, units_part}
use Rattle.sqlite.specs.Held.{state}
use Rattle.oftp_register.proofs.FileRowLemmas.{few_units}
use Rattle.oftp_tables.specs.Tables.{register_in}
use Rattle.oftp_store.proofs.CauseLemmas.{lost_told, passed_after}
use Rattle.oftp_store.proofs.LookLemmas.{left_by}
use Rattle.oftp_store.proofs.queries.units.count_octets.Goals as goal

pub pages-init : goal.pages-init
pages-init g c = record { known = begins_known _ _ _ c.in_ok-count.count c.in_ok-count.ensures.looks (λ k has r kept. (c.in_ok-count.ensures.answer k has r kept, refl)); within = omega arith }

pub pages-preserved : goal.pages-preserved
pages-preserved g c = record {
  known = goes_on_known _ _ (λ r rows. rows.items ≡ take 64 (drop (c.pages.page * 64) (file_rows r c.args.side c.args.no))) _ _ _ c.in_ok-rows.rows
      c.pages.invariant.known c.in_ok-rows.ensures.looks
      (λ k has r kept sound. c.in_ok-rows.ensures.answer k has r kept) (λ r kept sound known said. (
        known.0,
        c.in_ok-units.ensures.told ∙ ap (λ bodies. c.pages.units + units_in bodies) (c.as_slice.ensures.value ∙ said)
            ∙ ap (λ n. n + units_in (take 64 (drop (c.pages.page * 64) (file_rows r c.args.side c.args.no)))) known.1 ∙ page_more c.pages.page (file_rows r c.args.side c.args.no),
      ));
  within = c.in_ok-units.ensures.within;
}

pub returns-clause-answer : goal.returns-clause-answer
returns-clause-answer g c clean has r kept sound =
    let known = c.pages.invariant.known.known clean has r kept sound in
    let last : c.in_ok-count.count / 64 + 1 ≤ c.pages.page = grind (arith, nat_tests, c.pages-test.false) in
    known.1 ∙ all_pages c.pages.page (file_rows r c.args.side c.args.no) (omega (arith, known.0, last))

pub returns-in_err-rows-clause-told : goal.returns-in_err-rows-clause-told
returns-in_err-rows-clause-told g c =
    passed_after g.S.Store _ _ _ _ _ _ c.pages.invariant.known.looks c.in_err-rows.ensures.looks c.in_err-rows.ensures.told c.from_residual-in_err-rows.ensures.1

pub returns-in_err-units-clause-told : goal.returns-in_err-units-clause-told
returns-in_err-units-clause-told g c =
    lost_told g.S.Store c.args.conn.now c.find_rows.new.conn c.in_err-units.field-0.0 _ (λ clean limits stands.
    let r = register_in limits (state g.S.Store c.args.conn.now).now.trees in
    let rows = file_rows r c.args.side c.args.no in
    let page = c.pages.page in
    let here = left_by r _ _ _ _ _ c.pages.invariant.known.looks c.in_ok-rows.ensures.looks clean stands.holds.schema stands.holds.tables in
    let known = c.pages.invariant.known.known here.clean stands.holds.schema r stands.holds.tables stands.holds.sound in
    let read : c.as_slice.result.now ≡ take 64 (drop (page * 64) rows) = c.as_slice.ensures.value ∙ c.in_ok-rows.ensures.answer clean here.schema r here.tables in
    let octets : units_in c.as_slice.result.now ≡ units_in (take 64 (drop (page * 64) rows)) = ap units_in read in
    omega (arith, c.in_err-units.ensures.beyond, octets, known.1, page_more page rows, units_part ((page + 1) * 64) rows, few_units r c.args.side c.args.no stands.holds.sound))
    c.from_residual-in_err-units.ensures.1
