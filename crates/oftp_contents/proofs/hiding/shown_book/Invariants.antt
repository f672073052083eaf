use Rattle.std.proofs.Common.{◌≡◌, Some, take}
use Rattle.oftp_contents.specs.Hiding.{shown_parts}
use Rattle.oftp_contents.proofs.hiding.shown_book.Given as goal

-- the parts so far were appended
abbrev pub invariant-loop-part : goal.invariant-loop-part
invariant-loop-part l = shown_parts l.known.items (take l.part-index l.part-items) ≡ Some l.text.items
