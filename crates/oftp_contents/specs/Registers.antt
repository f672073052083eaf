-- The digests of registers in a record.
use Rattle.std.specs.Prelude.{ℕ, ◌==◌, List, length, Option, None, Some, if◌then◌else◌}
use Rattle.oftp_contents.specs.Codes.{marked_code}
use Rattle.oftp_contents.specs.Fields.{Laid}
use Rattle.oftp_contents.specs.declared.codes.Marked.TheVariants as marks
use Rattle.oftp_record.specs.declared.chain.TheConstants.{DIGEST_LEN}
use Rattle.oftp_record.specs.declared.kind.RecordKind.{RecordKind}
use Rattle.oftp_record.specs.declared.kind.RecordKind.TheVariants as kinds

-- the digest that a text is: any 32 octets
abbrev pub digest_in : List ℕ → Option (List ℕ)
digest_in text = if length text == DIGEST_LEN then Some text else None

-- the digest of a register that an entry has: the second text of an opening and of a backup, and the first of a mark of the register
abbrev pub register_in : RecordKind → Laid → Option (List ℕ)
register_in kinds.Opening fields = digest_in fields.second
register_in kinds.Backup fields = digest_in fields.second
register_in kinds.Mark fields = if fields.code == marked_code marks.Register then digest_in fields.first else None
register_in kinds.Session fields = None
register_in kinds.OctetsIn fields = None
register_in kinds.OctetsOut fields = None
register_in kinds.End fields = None
register_in kinds.Call fields = None
