use Rattle.std.proofs.Common.{arith, ◌≡◌, ◌++◌, ◌∷◌, [], ◌+◌, ℕ, drop, Ok, ◌∙◌}
use Rattle.std.proofs.lemmas.Grind.{common_steps}
use Rattle.toml.specs.View.{view, items_view}
use Rattle.oftp_partners.specs.Book.{partner_of, partners_of}
use Rattle.oftp_partners.proofs.Items.{partners_of_step}
use Rattle.oftp_partners.proofs.PartnersLemmas.{free_code, are_partners_push}
use Rattle.oftp_partners.proofs.reading.partners_of.Goals as goal

pub add-requires : goal.add-requires
add-requires c = free_code c.args.station.now c.loop-value.directory c.in_ok-partner.partner.code c.in_ok-partner.ensures.new

pub loop-value-preserved : goal.loop-value-preserved
loop-value-preserved c =
    let station = c.args.station.now in
    let before = c.loop-value.directory in
    let added : c.add.new.self ≡ before ++ c.in_ok-partner.partner ∷ [] = c.in_ok-add.ensures.ok in
    let judged : partner_of station before (view c.value-item.result) ≡ Ok c.in_ok-partner.partner = c.in_ok-partner.ensures.value in
    let step = partners_of_step station before c.args.values.now c.loop-value.value-index c.value-item.result c.loop-value-test.true c.value-item.is in
    let rest = λ (n : ℕ). items_view (drop n c.args.values.now) in
    let at = c.loop-value.value-index in
    let after : partners_of station before (rest at) ≡ partners_of station (before ++ c.in_ok-partner.partner ∷ []) (rest (at + 1)) = rw judged at step in
    record {
      rest = rw added (c.loop-value.invariant.rest ∙ after);
      count = grind (arith, common_steps);
      partners = rw added (are_partners_push _ _ _ c.loop-value.invariant.partners c.in_ok-partner.ensures.partner c.in_ok-partner.ensures.new);
    }
