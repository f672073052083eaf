-- The texts of the errors of writing.
use Rattle.std.specs.Prelude.{ℕ, List, codes}
use Rattle.oftp_record.specs.declared.writing.AppendFault.{AppendFault}
use Rattle.oftp_record.specs.declared.writing.AppendFault.TheVariants.{Memory, TooLong}

-- the text of an error of writing
abbrev pub append_fault_text : AppendFault → List ℕ
append_fault_text TooLong = codes "an entry of a record is too long"
append_fault_text Memory = codes "out of memory"
