-- What an accepted change tells before anything is looked up.
use Rattle.std.specs.Prelude.{ℕ, Option, None, Some, length, option_map}
use Rattle.oftp_vfile.specs.declared.format.Format.{Format}
use Rattle.oftp_register.specs.declared.change.Change.{Change}
use Rattle.oftp_register.specs.declared.change.Change.TheVariants as change
use Rattle.oftp_register.specs.declared.entries.Side.TheVariants.{Incoming, Outgoing}
use Rattle.oftp_events.specs.Events.{event_of}
use Rattle.oftp_watching.specs.Answers.{answer_of}
use Rattle.oftp_watching.specs.declared.moment.Moment.{Moment}
use Rattle.oftp_watching.specs.declared.moment.Subject.{Subject}
use Rattle.oftp_watching.specs.declared.moment.Subject.TheVariants.{Numbered, Named}

-- the file that a change is about: by its identity before it has a number, and where the partner names it
abbrev pub subject_of : Change → Subject
subject_of (change.Submit identity format longest description rows) = Named Outgoing identity
subject_of (change.Start identity format longest description count) = Named Incoming identity
subject_of (change.Keep n rows) = Numbered Incoming n
subject_of (change.Close n rows) = Numbered Incoming n
subject_of (change.GiveUp n) = Numbered Incoming n
subject_of (change.File kind identity reason creator text) = Named Outgoing identity
subject_of (change.Issue n kind reason text) = Numbered Incoming n
subject_of (change.Mark n rows) = Numbered Outgoing n
subject_of (change.BeginClosing n) = Numbered Outgoing n
subject_of (change.HandOver n) = Numbered Outgoing n
subject_of (change.Refuse n reason) = Numbered Outgoing n
subject_of (change.Reopen n) = Numbered Outgoing n
subject_of (change.Send n) = Numbered Incoming n

-- the format of a file that is new, or whose transfer starts
abbrev pub format_of : Change → Option Format
format_of (change.Submit identity format longest description rows) = Some format
format_of (change.Start identity format longest description count) = Some format
format_of _ = None

-- how many rows the file has after a change that gives or takes all of them
abbrev pub rows_of : Change → Option ℕ
rows_of (change.Submit identity format longest description rows) = Some (length rows)
rows_of (change.Start identity format longest description count) = Some count
rows_of (change.GiveUp n) = Some 0
rows_of _ = None

-- what a change tells, if it is an event
abbrev pub moment_of : Change → Option Moment
moment_of c = option_map (λ event. record { event = event; subject = subject_of c; format = format_of c; rows = rows_of c; answer = answer_of c }) (event_of c)
