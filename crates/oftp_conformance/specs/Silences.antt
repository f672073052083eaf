-- What a session lacks whose octets end (RFC 5024, section 4.7.2).
use Rattle.std.specs.Prelude.{ℕ, List, codes, ◌++◌, Option, Some, None}
use Rattle.oftp_telling.specs.declared.counting.Sender.{Sender}
use Rattle.oftp_telling.specs.declared.counting.Sender.TheVariants.{Partner, Station}
use Rattle.oftp_conformance.specs.declared.session.Phase.{Phase}
use Rattle.oftp_conformance.specs.declared.session.Phase.TheVariants.{Greeting, Starting, Answering, Speaking, Offered, Sending, Refilling, Closing, Turning, Responding, Over}
use Rattle.oftp_conformance.specs.declared.session.Session.{Session}
use Rattle.oftp_conformance.specs.declared.silence.Silence.{Silence}
use Rattle.oftp_conformance.specs.Sessions.{owing}

-- a side in words
abbrev pub side_text : Sender → List ℕ
side_text Partner = codes "the partner"
side_text Station = codes "this station"

-- the commands that a phase waits for
abbrev pub due_text : Phase → List ℕ
due_text Greeting = codes "SSRM"
due_text Starting = codes "SSID"
due_text Answering = codes "SSID"
due_text Speaking = codes "SFID, EERP, NERP, CD or ESID"
due_text Offered = codes "SFPA or SFNA"
due_text Sending = codes "DATA or EFID"
due_text Refilling = codes "CDT"
due_text Closing = codes "EFPA or EFNA"
due_text Turning = codes "CD"
due_text Responding = codes "RTR"
due_text Over = codes "nothing"

-- the side that was silent, and what it owed
unfoldable pub silence_text : Silence → List ℕ
silence_text s = codes "no command follows: " ++ (side_text s.side ++ (codes " owes " ++ (due_text s.phase ++ codes " (RFC 5024, section 4.7.2)")))

-- who was silent, where so far a session has come
abbrev pub silence_in : Phase → Sender → Option Silence
silence_in Over side = None
silence_in phase side = Some (record { side = side; phase = phase })

-- who was silent; nobody is once a session is over
abbrev pub silence : Session → Option Silence
silence t = silence_in t.phase (owing t)
