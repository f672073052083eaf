-- The numbers and texts of a book's faults.
use Rattle.std.specs.Prelude.{ℕ, List, codes}
use Rattle.oftp_partners.specs.declared.fault.BookFault.{BookFault}
use Rattle.oftp_partners.specs.declared.fault.BookFault.TheVariants.{NotToml, MissingKey, WrongKind, BadCode, BadNumber, DuplicateCode, TooMany, Memory}

-- the number of a fault
abbrev pub number_of : BookFault → ℕ
number_of NotToml = 1
number_of MissingKey = 2
number_of WrongKind = 3
number_of BadCode = 4
number_of BadNumber = 5
number_of DuplicateCode = 6
number_of TooMany = 7
number_of Memory = 8

-- the text of a fault
abbrev pub fault_text : BookFault → List ℕ
fault_text NotToml = codes "the text isn't TOML"
fault_text MissingKey = codes "a key is missing"
fault_text WrongKind = codes "a value has the wrong kind"
fault_text BadCode = codes "a code, password, mode or address has a bad content"
fault_text BadNumber = codes "a number is out of its range"
fault_text DuplicateCode = codes "a code stands twice"
fault_text TooMany = codes "there are more than 1000 partners"
fault_text Memory = codes "out of memory"
