-- The lines of events that are about no file and no session.
use Rattle.std.specs.Prelude.{ℕ, List, Option, Some, codes}
use Rattle.std.specs.Borrow.{Bor}
use Rattle.oftp_events.specs.Lines.{plain_line}
use Rattle.oftp_events.specs.declared.direction.Direction.TheVariants.{In, Out}
use Rattle.oftp_events.specs.declared.event.Event.TheVariants.{NotLetIn, NotReached, Backup}
use Rattle.oftp_events.specs.declared.line.EventLine.{EventLine}
use Rattle.oftp_watching.specs.declared.cause.Cause.{Cause}
use Rattle.oftp_watching.specs.declared.cause.Cause.TheVariants.{Refused, NoRoute, NoName, TimedOut, Failed}
use Rattle.oftp_watching.specs.declared.notices.Dismissal.{Dismissal}

-- why a call didn't connect, in words
abbrev pub cause_text : Cause → List ℕ
cause_text Refused = codes "refused"
cause_text NoRoute = codes "no route"
cause_text NoName = codes "name not found"
cause_text TimedOut = codes "timed out"
cause_text Failed = codes "failed"

-- a text that somebody else keeps
abbrev Lent : Type 0
Lent = Bor (List ℕ)

-- a call to a partner that didn't connect
abbrev pub unreached_line : Lent → Option Lent → Lent → Lent → EventLine
unreached_line at partner peer words = record (plain_line at NotReached) { partner = partner; way = Some Out; peer = Some peer; words = Some words }

-- a caller that wasn't let in, with the code that it claimed
abbrev pub dismissed_line : Lent → Option Lent → Option Lent → Dismissal → EventLine
dismissed_line at claimed peer why =
    record (plain_line at NotLetIn) { partner = claimed; way = Some In; peer = peer; reason = why.reason; words = why.words; end = Some why.end }

-- a backup with this path
abbrev pub backup_line : Lent → Lent → EventLine
backup_line at path = record (plain_line at Backup) { words = Some path }
