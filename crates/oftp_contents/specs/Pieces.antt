-- What a session heard or said, as entries: one, or pieces one behind another.
use Rattle.std.specs.Prelude.{◌≡◌, ◌<◌, ◌+◌, ℕ, List, [], ◌++◌, length, map, Option, None, Some, Result, IfErr, IfOk, OnErr}
use Rattle.std.specs.List.{concat}
use Rattle.oftp_contents.specs.Fields.{fields_octets}
use Rattle.oftp_contents.specs.declared.fields.TheConstants.{FIXED}
use Rattle.oftp_contents.specs.declared.pieces.PieceMark.{PieceMark}
use Rattle.oftp_contents.specs.declared.pieces.SessionOctets.{SessionOctets}
use Rattle.oftp_record.specs.Entries.{Noted}
use Rattle.oftp_record.specs.Records.{last_digest, record_octets}
use Rattle.oftp_record.specs.declared.chain.ChainDigest.{ChainDigest}
use Rattle.oftp_record.specs.declared.header.TheConstants.{LONGEST_CONTENT}
use Rattle.oftp_record.specs.declared.kind.RecordKind.{RecordKind}
use Rattle.oftp_record.specs.declared.kind.RecordKind.TheVariants as kinds
use Rattle.oftp_record.specs.declared.writing.AppendFault.{AppendFault}
use Rattle.oftp_record.specs.declared.writing.AppendFault.TheVariants.{TooLong}

-- what a session heard or said
pub record Talked : Type 0 where
  pub kind : RecordKind
  pub moment : ℕ
  pub number : ℕ
  pub octets : List ℕ

-- that of octets that are borrowed
abbrev pub talked : SessionOctets → Talked
talked s = record { kind = s.kind; moment = s.moment; number = s.number; octets = s.octets.now }

-- what an entry tells that has a piece of them
abbrev pub piece_noted : Talked → List ℕ → Noted
piece_noted t piece = record {
  kind = t.kind;
  moment = t.moment;
  content = fields_octets (record { number = t.number; code = 0; first = []; second = []; rest = piece });
}

-- what the entries have in common with the octets that a session heard or said at once
abbrev pub mark_of : RecordKind → ℕ → ℕ → Option PieceMark
mark_of kinds.OctetsIn moment number = Some (record { kind = kinds.OctetsIn; moment = moment; number = number })
mark_of kinds.OctetsOut moment number = Some (record { kind = kinds.OctetsOut; moment = moment; number = number })
mark_of kinds.Opening moment number = None
mark_of kinds.Session moment number = None
mark_of kinds.End moment number = None
mark_of kinds.Call moment number = None
mark_of kinds.Backup moment number = None
mark_of kinds.Mark moment number = None

-- The octets were appended to those of a record as entries with pieces, which joined are the octets. The digest is that of the last one.
pub record IsAppended (t : Talked) (old new before digest : List ℕ) : Type 0 where
  pub pieces : List (List ℕ)
  pub joined : concat pieces ≡ t.octets
  pub written : new ≡ old ++ record_octets before (map (piece_noted t) pieces)
  pub digest_is : digest ≡ last_digest before (map (piece_noted t) pieces)

-- An attempt to append them: they were appended, with the digest that is returned. Or they are too long, or there was no memory, and nothing changed.
pub record Appends (t : Talked) (old new before : List ℕ) (appended : Result ChainDigest AppendFault) : Type 0 where
  pub ok : IfOk appended (λ digest. IsAppended t old new before digest.0)
  pub too_long : IfErr appended (λ fault. fault ≡ TooLong → LONGEST_CONTENT < FIXED + length t.octets)
  pub err : OnErr appended (new ≡ old)
