-- What the register has of the file that an event is about.
use Rattle.std.specs.Prelude.{ℕ, Bool, true, false, Option, None, Some, option_map, cond}
use Rattle.oftp_register.specs.LookUps.{in_by_no, look_in, look_out, out_by_no, units_of}
use Rattle.oftp_register.specs.Register.{Register}
use Rattle.oftp_register.specs.declared.entries.Side.TheVariants as side
use Rattle.oftp_events.specs.declared.event.Event.{Event}
use Rattle.oftp_events.specs.declared.event.Event.TheVariants as event
use Rattle.oftp_watching.specs.declared.known.Known.{Known}
use Rattle.oftp_watching.specs.declared.known.Known.TheVariants.{Incoming, Outgoing}
use Rattle.oftp_watching.specs.declared.moment.Subject.{Subject}
use Rattle.oftp_watching.specs.declared.moment.Subject.TheVariants.{Numbered, Named, Offered}

-- the entry of a file; what was only offered is no file of the register
abbrev pub known_of : Register → Subject → Option Known
known_of r (Numbered side.Incoming n) = option_map Incoming (in_by_no r n)
known_of r (Numbered side.Outgoing n) = option_map Outgoing (out_by_no r n)
known_of r (Named side.Incoming identity) = option_map Incoming (look_in r identity)
known_of r (Named side.Outgoing identity) = option_map Outgoing (look_out r identity)
known_of r (Offered identity) = None

-- the events that tell how many octets their file has
abbrev pub is_measured : Event → Bool
is_measured event.Submitted = true
is_measured event.Came = true
is_measured event.Sent = true
is_measured event.HandedOver = true
is_measured event.Started = false
is_measured event.Stopped = false
is_measured event.SessionBegun = false
is_measured event.SessionEnded = false
is_measured event.NotLetIn = false
is_measured event.NotReached = false
is_measured event.StartedToCome = false
is_measured event.BrokenOff = false
is_measured event.GivenUp = false
is_measured event.Refused = false
is_measured event.Reopened = false
is_measured event.Released = false
is_measured event.RefusedHere = false
is_measured event.ResponseSent = false
is_measured event.ResponseReceived = false
is_measured event.RefusedFile = false
is_measured event.RefusedEnd = false
is_measured event.Backup = false

-- the octets of a file
abbrev pub units_known : Register → Known → ℕ
units_known r (Incoming e) = units_of r side.Incoming e.no
units_known r (Outgoing e) = units_of r side.Outgoing e.no

-- the octets of a file, where its event tells them
abbrev pub units_measured : Register → Event → Known → Option ℕ
units_measured r e known = cond (is_measured e) (Some (units_known r known)) None
