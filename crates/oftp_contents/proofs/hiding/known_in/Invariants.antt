use Rattle.std.proofs.Common.{◌≡◌, ◌∷◌, [], take}
use Rattle.std.specs.List.{flat_map}
use Rattle.oftp_contents.specs.Hiding.{known_part, known_password}
use Rattle.oftp_contents.proofs.hiding.known_in.Given as goal

-- the passwords of the parts so far were appended
abbrev pub invariant-loop-part : goal.invariant-loop-part
invariant-loop-part l = l.known.items ≡ known_password l.salt [] ∷ flat_map (known_part l.salt) (take l.part-index l.part-items)
