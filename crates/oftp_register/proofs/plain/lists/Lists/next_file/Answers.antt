use Rattle.std.proofs.Common.{◌≡◌, ◌+◌, Some, true, sym, ap, ◌∙◌, arith}
use Rattle.std.proofs.lemmas.Bool.{and_from, lt-ltb}
use Rattle.oftp_register.specs.LookUps.{is_next_file, outgoing_entry}
use Rattle.oftp_register.specs.Lists.{outgoing_of}
use Rattle.oftp_register.proofs.LookUpLemmas.{found-hit, lent_place, numbered-at}
use Rattle.oftp_register.proofs.plain.lists.Lists.next_file.Goals as goal

pub returns-then-is_on_its_way_to-clause-value : goal.returns-then-is_on_its_way_to-clause-value
returns-then-is_on_its_way_to-clause-value c =
    let files = c.args.self.now.outgoing.items in
    let place = c.loop-place.place in
    let file = c.file-item.result in
    let at = lent_place c.deref-file-items.result.now files place file c.deref-file-items.ensures.value c.loop-place-test.true c.file-item.is in
    let fits : is_next_file c.args.partner.now c.args.tried (outgoing_entry (place + 1) (outgoing_of file)) ≡ true
    = and_from _ _ (lt-ltb c.args.tried (place + 1) c.if-place-tried.true) (sym c.is_on_its_way_to.ensures ∙ c.if-is_on_its_way_to.true) in
    let e : place + 1 ≡ 1 + place = omega arith in
    rw (c.loop-place.invariant ∙ found-hit outgoing_of outgoing_entry (is_next_file c.args.partner.now c.args.tried) place files file at.0 at.1 fits
    ∙ ap (λ n. Some (outgoing_entry n (outgoing_of file))) e ∙ sym (numbered-at outgoing_of outgoing_entry 1 files place file at.0 at.1)) c.outgoing_at.ensures.value
