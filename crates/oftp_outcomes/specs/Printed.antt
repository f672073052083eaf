-- The lines that the program prints.
use Rattle.std.specs.Prelude.{ℕ, Bool, true, false, List, ◌++◌, Option, IfSome, codes}
use Rattle.std.specs.Fmt.{decimal, with_newline}
use Rattle.std.specs.Io.KnownBytes.{Appends}
use Rattle.oftp_wire.specs.Reasons.{session_number, two_digits}
use Rattle.oftp_partners.specs.Faults.{number_of}
use Rattle.oftp_tables.specs.declared.fault.StoreFault.TheVariants as store
use Rattle.oftp_engine.specs.Operating.{refusal_phrase}
use Rattle.oftp_engine.specs.declared.operating.Told.{Told}
use Rattle.oftp_engine.specs.declared.operating.Told.TheVariants as told
use Rattle.oftp_engine.specs.declared.serving.End.TheVariants.{Own, Partner, Input}
use Rattle.oftp_engine.specs.declared.serving.RunFault.TheVariants.{Read, Write, Office, Memory}
use Rattle.oftp_listing.specs.declared.fault.ListFault.{ListFault}
use Rattle.oftp_listing.specs.declared.fault.ListFault.TheVariants as list
use Rattle.oftp_outcomes.specs.declared.carried.Carried.{Carried}
use Rattle.oftp_outcomes.specs.declared.carried.Carried.TheVariants.{Collected, Offered, Left, Unnamed}
use Rattle.oftp_outcomes.specs.declared.carried.Why.{Why}
use Rattle.oftp_outcomes.specs.declared.carried.Why.TheVariants as whys
use Rattle.oftp_outcomes.specs.declared.outcome.Fault.{Fault}
use Rattle.oftp_outcomes.specs.declared.outcome.Fault.TheVariants.{Run, Book, Store, File, Socket}
use Rattle.oftp_outcomes.specs.declared.outcome.Outcome.{Outcome}
use Rattle.oftp_outcomes.specs.declared.outcome.Outcome.TheVariants.{Initiated, Migrated, Checked, Ended, Done, BackedUp, Stopped, Reloaded, Refused}
use Rattle.oftp_outcomes.specs.declared.outcome.Verb.{Verb}
use Rattle.oftp_outcomes.specs.declared.outcome.Verb.TheVariants.{Submit, Release, Refuse, Fetch}

-- the line on standard error
abbrev pub fault_line : Fault → List ℕ
fault_line (Run Read) = codes "fault: 1 read"
fault_line (Run Write) = codes "fault: 2 write"
fault_line (Run Office) = codes "fault: 3 office"
fault_line (Run Memory) = codes "fault: 4 memory"
fault_line (Book fault) = codes "fault: 5 book " ++ decimal (number_of fault)
fault_line (Store store.Store) = codes "fault: 6 store 1"
fault_line (Store store.Memory) = codes "fault: 6 store 2"
fault_line (Store store.WrongSchema) = codes "fault: 6 store 3"
fault_line File = codes "fault: 7 file"
fault_line Socket = codes "fault: 8 socket"

-- the error of a call for which there is no memory
abbrev pub out_of_memory : Fault
out_of_memory = Run Memory

-- the error of a failed write
abbrev pub write_fault : Fault
write_fault = Run Write

-- the error of what was written to memory
abbrev pub fault_in_memory : Fault → Fault
fault_in_memory (Run Read) = Run Read
fault_in_memory (Run Write) = Run Memory
fault_in_memory (Run Office) = Run Office
fault_in_memory (Run Memory) = Run Memory
fault_in_memory (Book fault) = Book fault
fault_in_memory (Store fault) = Store fault
fault_in_memory File = File
fault_in_memory Socket = Socket

-- a report's error as that of its command; a report never gives `Incomplete`
abbrev pub fault_of_report : ListFault → Fault
fault_of_report list.Incomplete = Run Memory
fault_of_report list.Memory = Run Memory
fault_of_report list.Office = Run Office
fault_of_report list.Write = write_fault

-- what a command does with one file
abbrev pub verb_text : Verb → List ℕ
verb_text Submit = codes "submit"
verb_text Release = codes "release"
verb_text Refuse = codes "refuse"
verb_text Fetch = codes "fetch"

-- the line on standard output
abbrev pub outcome_line : Outcome → List ℕ
outcome_line Initiated = codes "done: init"
outcome_line Migrated = codes "done: migrate"
outcome_line (Checked count) = codes "ok: " ++ (decimal count ++ codes " partners")
outcome_line (Ended (Own reason)) = codes "end: own " ++ two_digits (session_number reason)
outcome_line (Ended (Partner number)) = codes "end: partner " ++ two_digits number
outcome_line (Ended Input) = codes "end: input"
outcome_line (Done verb number) = codes "done: " ++ (verb_text verb ++ (codes " " ++ decimal number))
outcome_line BackedUp = codes "done: backup"
outcome_line Stopped = codes "done: stop"
outcome_line Reloaded = codes "done: reload"
outcome_line (Refused why) = refusal_phrase why

-- the line on standard output for an outgoing file with this number that is submitted again
abbrev pub resent_line : ℕ → Outcome → List ℕ
resent_line number (Done verb copy) = codes "done: resend " ++ (decimal number ++ (codes " " ++ decimal copy))
resent_line number outcome = outcome_line outcome

-- the outcome of an operator's call on one file
abbrev pub outcome_of : Verb → Told → Outcome
outcome_of verb (told.Done number) = Done verb number
outcome_of verb (told.Refused why) = Refused why

-- why a file of a folder isn't carried
abbrev pub why_line : Why → List ℕ
why_line (whys.Refused refusal) = refusal_phrase refusal
why_line (whys.Failed fault) = fault_line fault

-- the line on standard output for a file of a folder
abbrev pub carried_line : Carried → List ℕ
carried_line (Collected number name) = codes "done: collect " ++ (decimal number ++ (codes " " ++ name.now))
carried_line (Offered number name) = codes "done: offer " ++ (decimal number ++ (codes " " ++ name.now))
carried_line (Left why name) = why_line why ++ (codes " " ++ name.now)
carried_line (Unnamed name) = codes "left: " ++ (name.now ++ codes ": no dataset name")

-- an output took this text and a line end, where the text is known, and what the output has
abbrev pub TakesLine : Option (List ℕ) → Option (List ℕ) → Option (List ℕ) → Type 0
TakesLine old new text = IfSome (with_newline text) (Appends old new)

-- the command was refused
abbrev pub is_refusal : Outcome → Bool
is_refusal Initiated = false
is_refusal Migrated = false
is_refusal (Checked count) = false
is_refusal (Ended how) = false
is_refusal (Done verb number) = false
is_refusal BackedUp = false
is_refusal Stopped = false
is_refusal Reloaded = false
is_refusal (Refused why) = true
