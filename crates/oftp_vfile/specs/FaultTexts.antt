-- The texts of errors.
use Rattle.std.specs.Prelude.{ℕ, List, codes}
use Rattle.oftp_vfile.specs.declared.fault.LocalFault.{LocalFault}
use Rattle.oftp_vfile.specs.declared.fault.LocalFault.TheVariants as local
use Rattle.oftp_vfile.specs.declared.fault.TakeFault.{TakeFault}
use Rattle.oftp_vfile.specs.declared.fault.TakeFault.TheVariants.{Cut, Compressed, RecordSize, AfterEnd, TooBig, Memory}

-- the text of an error of a taker
abbrev pub take_text : TakeFault → List ℕ
take_text Cut = codes "a subrecord passes the end of its buffer"
take_text Compressed = codes "a subrecord is compressed"
take_text RecordSize = codes "a record has a wrong length"
take_text AfterEnd = codes "a subrecord comes after the end of the file"
take_text TooBig = codes "the file is too big"
take_text Memory = codes "out of memory"

-- the text of an error of the local form
abbrev pub local_text : LocalFault → List ℕ
local_text local.NotLocal = codes "the content is no file of this format"
local_text local.Memory = codes "out of memory"
