-- The texts of the errors.
use Rattle.std.specs.Prelude.{ℕ, List, codes}
use Rattle.oftp_listing.specs.declared.fault.ListFault.{ListFault}
use Rattle.oftp_listing.specs.declared.fault.ListFault.TheVariants.{Incomplete, Memory, Office, Write}

abbrev pub fault_text : ListFault → List ℕ
fault_text Incomplete = codes "the request isn't whole"
fault_text Memory = codes "out of memory"
fault_text Office = codes "the office failed"
fault_text Write = codes "the output failed"
