use Rattle.std.proofs.Common.{◌≡◌, take}
use Rattle.std.specs.List.{flat_map}
use Rattle.oftp_contents.specs.Hiding.{crossed_out_part}
use Rattle.oftp_contents.proofs.hiding.without_passwords.Given as goal

-- the parts so far were appended
abbrev pub invariant-loop-part : goal.invariant-loop-part
invariant-loop-part l = l.text.items ≡ flat_map crossed_out_part (take l.part-index l.part-items)
