-- How a request ended, and the one encoding of each ending.
use Rattle.std.specs.Prelude.{ℕ, ◌<◌, ◌^◌, List, ◌∷◌}
use Rattle.std.specs.Int.{w64, to_be_bytes}
use Rattle.oftp_wire.specs.Reasons.{session_number}
use Rattle.oftp_partners.specs.Faults.{number_of}
use Rattle.oftp_tables.specs.declared.fault.StoreFault.{StoreFault}
use Rattle.oftp_tables.specs.declared.fault.StoreFault.TheVariants as stores
use Rattle.oftp_engine.specs.declared.operating.Refusal.{Refusal}
use Rattle.oftp_engine.specs.declared.operating.Refusal.TheVariants as refusals
use Rattle.oftp_engine.specs.declared.serving.End.{End}
use Rattle.oftp_engine.specs.declared.serving.End.TheVariants as ends
use Rattle.oftp_engine.specs.declared.serving.RunFault.{RunFault}
use Rattle.oftp_engine.specs.declared.serving.RunFault.TheVariants as runs
use Rattle.oftp_outcomes.specs.declared.outcome.Fault.{Fault}
use Rattle.oftp_outcomes.specs.declared.outcome.Fault.TheVariants as faults
use Rattle.oftp_outcomes.specs.declared.outcome.Outcome.{Outcome}
use Rattle.oftp_outcomes.specs.declared.outcome.Outcome.TheVariants as outcomes
use Rattle.oftp_outcomes.specs.declared.outcome.Verb.{Verb}
use Rattle.oftp_outcomes.specs.declared.outcome.Verb.TheVariants as verbs
use Rattle.oftp_channel.specs.declared.ending.Ending.{Ending}
use Rattle.oftp_channel.specs.declared.ending.Ending.TheVariants as endings
use Rattle.oftp_channel.specs.declared.labels.Label.{Label}

-- an end of a session that may be written: the partner's number has two digits
abbrev pub IsEnd : End → Type 0
IsEnd (ends.Partner number) = number < 100
IsEnd _ = Unit {0}

-- an outcome that may be written: no count and no number of a file has more than 64 bits
abbrev pub IsOutcome : Outcome → Type 0
IsOutcome (outcomes.Checked count) = count < 2 ^ 64
IsOutcome (outcomes.Ended end) = IsEnd end
IsOutcome (outcomes.Done verb number) = number < 2 ^ 64
IsOutcome _ = Unit {0}

-- an ending that may be written
abbrev pub IsEnding : Ending → Type 0
IsEnding (endings.Outcome outcome) = IsOutcome outcome
IsEnding _ = Unit {0}

-- a kind with a number
abbrev pub labelled : ℕ → ℕ → Label
labelled kind number = record { kind = kind; number = number }

-- a kind that has no number
abbrev pub bare : ℕ → Label
bare kind = labelled kind 0

-- the number of a refusal, which its line has too
abbrev pub refusal_number : Refusal → ℕ
refusal_number refusals.Duplicate = 1
refusal_number refusals.Unknown = 2
refusal_number refusals.State = 3
refusal_number refusals.Limit = 4
refusal_number refusals.Field = 5

-- the number of an error of a session or a command, which its line has too
abbrev pub run_number : RunFault → ℕ
run_number runs.Read = 1
run_number runs.Write = 2
run_number runs.Office = 3
run_number runs.Memory = 4

-- the number of an error of the database, which its line has too
abbrev pub store_number : StoreFault → ℕ
store_number stores.Store = 1
store_number stores.Memory = 2
store_number stores.WrongSchema = 3

-- an end of a session. The kinds of outcomes are 10 to 23.
abbrev pub end_label : End → Label
end_label (ends.Own reason) = labelled 14 (session_number reason)
end_label (ends.Partner number) = labelled 15 number
end_label ends.Input = bare 16

-- what was done with one file
abbrev pub verb_kind : Verb → ℕ
verb_kind verbs.Submit = 17
verb_kind verbs.Release = 18
verb_kind verbs.Refuse = 19
verb_kind verbs.Fetch = 20

-- an outcome
abbrev pub outcome_label : Outcome → Label
outcome_label outcomes.Initiated = bare 10
outcome_label outcomes.Migrated = bare 11
outcome_label (outcomes.Checked count) = labelled 12 count
outcome_label outcomes.BackedUp = bare 13
outcome_label outcomes.Stopped = bare 22
outcome_label outcomes.Reloaded = bare 23
outcome_label (outcomes.Ended end) = end_label end
outcome_label (outcomes.Done verb number) = labelled (verb_kind verb) number
outcome_label (outcomes.Refused why) = labelled 21 (refusal_number why)

-- a fault. The kinds of faults are 30 to 34.
abbrev pub fault_label : Fault → Label
fault_label (faults.Run fault) = labelled 30 (run_number fault)
fault_label (faults.Book fault) = labelled 31 (number_of fault)
fault_label (faults.Store fault) = labelled 32 (store_number fault)
fault_label faults.File = bare 33
fault_label faults.Socket = bare 34

-- an ending
abbrev pub ending_label : Ending → Label
ending_label endings.Listed = bare 1
ending_label endings.Same = bare 2
ending_label endings.Other = bare 3
ending_label (endings.Outcome outcome) = outcome_label outcome
ending_label (endings.Failed fault) = fault_label fault

-- its kind, and its number in eight octets with the most significant first
abbrev pub spelled_ending : Ending → List ℕ
spelled_ending ending = (ending_label ending).kind ∷ to_be_bytes w64 (ending_label ending).number
