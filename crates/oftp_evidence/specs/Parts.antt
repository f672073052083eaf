-- What a command says of a file.
use Rattle.std.specs.Prelude.{ℕ, List, if◌then◌else◌, Option, None, Some, Result, Ok, Err, codes}
use Rattle.oftp_wire.specs.declared.command.Eerp.{Eerp}
use Rattle.oftp_wire.specs.declared.command.Nerp.{Nerp}
use Rattle.oftp_wire.specs.declared.command.Command.{Command}
use Rattle.oftp_wire.specs.declared.command.Command.TheVariants as commands
use Rattle.oftp_wire.specs.declared.fault.WireFault.{WireFault}
use Rattle.oftp_codec.specs.Kinds.{command_of}
use Rattle.oftp_register.specs.declared.entry.Identity.{Identity}
use Rattle.oftp_register.specs.Register.{same_identity}
use Rattle.oftp_register.specs.Verdicts.{offered_identity}
use Rattle.oftp_evidence.specs.declared.part.Part.{Part}
use Rattle.oftp_evidence.specs.declared.part.Part.TheVariants.{Offer, Response, Refusal}

-- the name of the command that says it
abbrev pub part_word : Part → List ℕ
part_word Offer = codes "SFID"
part_word Response = codes "EERP"
part_word Refusal = codes "NERP"

-- the file that an EERP answers: the response goes from its destination to its originator (RFC 5024, section 5.3.13)
abbrev pub response_identity : Eerp → Identity
response_identity s = record { dataset = s.dataset; date = s.date; time = s.time; originator = s.destination; destination = s.originator }

-- the file that a NERP answers, whose stations are exchanged likewise (section 5.3.14)
abbrev pub refusal_identity : Nerp → Identity
refusal_identity s = record { dataset = s.dataset; date = s.date; time = s.time; originator = s.destination; destination = s.originator }

-- what is said of a file, if it is the one of which this is said: the same dataset name, date, time, originator and destination
abbrev pub part_about : Identity → Identity → Part → Option Part
part_about file other part = if same_identity file other then Some part else None

-- what a command says of a file
abbrev pub part_by : Identity → Command → Option Part
part_by file (commands.Sfid s) = part_about file (offered_identity s) Offer
part_by file (commands.Eerp s) = part_about file (response_identity s) Response
part_by file (commands.Nerp s) = part_about file (refusal_identity s) Refusal
part_by file _ = None

-- the same of octets that were read
abbrev pub part_read : Identity → Result Command WireFault → Option Part
part_read file (Ok c) = part_by file c
part_read file (Err fault) = None

-- what the octets of a frame, without its stream header, say of a file
abbrev pub part_in : Identity → List ℕ → Option Part
part_in file frame = part_read file (command_of frame)
