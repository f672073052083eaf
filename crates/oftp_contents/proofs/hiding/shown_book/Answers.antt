use Rattle.std.proofs.Common.{◌≡◌, None}
use Rattle.oftp_contents.specs.Hiding.{shown_book, shown_parts}
use Rattle.oftp_contents.proofs.HidingLemmas.{unknown_part}
use Rattle.oftp_contents.proofs.hiding.shown_book.Goals as goal

pub returns-in-Unknown : goal.returns-in-Unknown
unfolding shown_book
returns-in-Unknown c =
    let parts = c.deref-part-items.result.now in
    let known = c.in_ok-known.known.items in
    let none : None ≡ shown_parts known parts = unknown_part known c.as_slice.result.now parts c.loop-part.part-index c.part-item.result c.loop-part.text.items
    c.add_shown.new.to.items c.in_ok-add_shown.field-0 c.loop-part-test.true c.part-item.is c.loop-part.invariant c.as_slice.ensures.value
    c.in-Unknown.is c.in_ok-add_shown.ensures in
    rw (← c.in_ok-known.ensures) rw (← c.in_ok-parts.ensures) rw (← c.deref-part-items.ensures.value) none
