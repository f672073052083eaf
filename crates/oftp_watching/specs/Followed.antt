-- What becomes of the files of a session, by the commands of both sides (RFC 5024, section 4).
use Rattle.std.specs.Prelude.{Option, None, Some}
use Rattle.oftp_wire.specs.declared.command.Command.{Command}
use Rattle.oftp_wire.specs.declared.command.Command.TheVariants as command
use Rattle.oftp_register.specs.declared.entries.Side.TheVariants.{Incoming, Outgoing}
use Rattle.oftp_register.specs.Verdicts.{offered_identity}
use Rattle.oftp_events.specs.declared.event.Event.{Event}
use Rattle.oftp_events.specs.declared.event.Event.TheVariants.{BrokenOff, RefusedEnd, RefusedFile}
use Rattle.oftp_watching.specs.declared.answer.Answer.{Answer}
use Rattle.oftp_watching.specs.declared.answer.Answer.TheVariants.{Sfna, Efna}
use Rattle.oftp_watching.specs.declared.following.Following.{Following}
use Rattle.oftp_watching.specs.declared.following.Following.TheVariants as following
use Rattle.oftp_watching.specs.declared.following.Speaker.{Speaker}
use Rattle.oftp_watching.specs.declared.following.Speaker.TheVariants.{Partner, Station}
use Rattle.oftp_watching.specs.declared.moment.Moment.{Moment}
use Rattle.oftp_watching.specs.declared.moment.Subject.{Subject}
use Rattle.oftp_watching.specs.declared.moment.Subject.TheVariants.{Named, Offered}

-- the file after a command: SFID offers it, SFPA accepts it, EFID tells its end; SFNA before that, and EFPA and EFNA behind it, end its way. The
-- station answers files that come, the partner those that go. An answer out of its place changes nothing.
abbrev pub followed : Following → Speaker → Command → Following
followed f Partner (command.Sfid sfid) = following.Offered Incoming (offered_identity sfid)
followed f Station (command.Sfid sfid) = following.Offered Outgoing (offered_identity sfid)
followed (following.Offered Incoming i) Station (command.Sfpa sfpa) = following.Going Incoming i
followed (following.Offered Outgoing i) Partner (command.Sfpa sfpa) = following.Going Outgoing i
followed (following.Offered Incoming i) Station (command.Sfna sfna) = following.Idle
followed (following.Offered Outgoing i) Partner (command.Sfna sfna) = following.Idle
followed (following.Going Incoming i) Partner (command.Efid efid) = following.Closing Incoming i
followed (following.Going Outgoing i) Station (command.Efid efid) = following.Closing Outgoing i
followed (following.Closing Incoming i) Station (command.Efpa efpa) = following.Idle
followed (following.Closing Outgoing i) Partner (command.Efpa efpa) = following.Idle
followed (following.Closing Incoming i) Station (command.Efna efna) = following.Idle
followed (following.Closing Outgoing i) Partner (command.Efna efna) = following.Idle
followed f _ _ = f

-- what happened to a file without a change of the register
abbrev pub unchanged : Event → Subject → Option Answer → Moment
unchanged event subject answer = record { event = event; subject = subject; format = None; rows = None; answer = answer }

-- what a command tells: that the station refuses a file, or its end. What the partner refuses is a change of the register.
abbrev pub told_of : Following → Speaker → Command → Option Moment
told_of (following.Offered Incoming i) Station (command.Sfna sfna) = Some (unchanged RefusedFile (Offered i) (Some (Sfna sfna.reason)))
told_of (following.Closing Incoming i) Station (command.Efna efna) = Some (unchanged RefusedEnd (Named Incoming i) (Some (Efna efna.reason)))
told_of _ _ _ = None

-- what the end of the session tells: a file that was accepted isn't through
abbrev pub broken_off : Following → Option Moment
broken_off (following.Going which i) = Some (unchanged BrokenOff (Named which i) None)
broken_off (following.Closing which i) = Some (unchanged BrokenOff (Named which i) None)
broken_off _ = None
