-- The number of octets of a file, from its format, its longest record, the number of its rows and the last row.
use Rattle.std.specs.Prelude.{◌≡◌, ◌+◌, ◌-◌, ◌*◌, ℕ, List, length, drop, Option}
use Rattle.std.specs.Option.{option_map}
use Rattle.oftp_vfile.specs.declared.format.Format.{Format}
use Rattle.oftp_vfile.specs.declared.format.Format.TheVariants.{Fixed, Variable, Unstructured, Text}
use Rattle.oftp_vfile.specs.declared.format.TheConstants.{BLOCK}
use Rattle.oftp_vfile.specs.VirtualFile.{units_in}
use Rattle.oftp_register.specs.declared.entry.IncomingState.{IncomingState}
use Rattle.oftp_register.specs.declared.entries.Side.{Side}
use Rattle.oftp_register.specs.declared.entries.Side.TheVariants as side
use Rattle.oftp_register.specs.Register.{Register, Incoming, Outgoing}
use Rattle.oftp_register.specs.Soundness.{FitsState}
use Rattle.oftp_register.specs.LookUps.{entry_at}

-- the octets of rows that are all full blocks but the last
abbrev pub units_in_blocks : List (List ℕ) → ℕ
units_in_blocks rows = (length rows - 1) * BLOCK + units_in (drop (length rows - 1) rows)

-- The octets of the rows of a file with this format and this longest record. In F each row has that length, and in U and T each row but the
-- last is a full block. Only in V each row is measured (RFC 5024, sections 1.5.3 and 1.5.4).
abbrev pub units_told : Format → ℕ → List (List ℕ) → ℕ
units_told Fixed longest rows = length rows * longest
units_told Variable longest rows = units_in rows
units_told Unstructured longest rows = units_in_blocks rows
units_told Text longest rows = units_in_blocks rows

-- this is the number of octets of rows that fit the format, of an open file and of a whole one
abbrev pub UnitsAreTold : Type 0
UnitsAreTold = (state : IncomingState) (format : Format) (longest : ℕ) (rows : List (List ℕ)) → FitsState state format longest rows → units_in rows ≡ units_told format longest rows

-- the format and the longest record of the file with a number, if there is one
abbrev pub file_format : Register → Side → ℕ → Option (Format × ℕ)
file_format r side.Incoming n = option_map (λ (f : Incoming). (f.format, f.longest)) (entry_at n r.incoming)
file_format r side.Outgoing n = option_map (λ (f : Outgoing). (f.format, f.longest)) (entry_at n r.outgoing)
