use Rattle.std.proofs.Common.{◌≡◌, take}
use Rattle.std.specs.List.{flat_map}
use Rattle.oftp_contents.specs.Hiding.{hidden_part}
use Rattle.oftp_contents.proofs.hiding.hidden_book.Given as goal

-- the parts so far were appended
abbrev pub invariant-loop-part : goal.invariant-loop-part
invariant-loop-part l = l.text.items ≡ flat_map (hidden_part l.salt) (take l.part-index l.part-items)
