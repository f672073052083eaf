-- What holds at each door, or for each reason.
use Rattle.oftp_schedule.specs.declared.connection.Door.{Door}
use Rattle.oftp_schedule.specs.declared.connection.Door.TheVariants.{Partners, Commands, Requests, Calls}
use Rattle.oftp_schedule.specs.declared.connection.Reason.{Reason}
use Rattle.oftp_schedule.specs.declared.connection.Reason.TheVariants.{Evicted, Invalid, TimedOut, Stalled, Quit, Vanished, Finished, Unreached, Orphaned, Stopping}

pub each_door : (P : Door → Type 0) → P Partners → P Commands → P Requests → P Calls → (d : Door) → P d
each_door P p c r k Partners = p
each_door P p c r k Commands = c
each_door P p c r k Requests = r
each_door P p c r k Calls = k

pub each_reason : (P : Reason → Type 0) → P Evicted → P Invalid → P TimedOut → P Stalled → P Quit → P Vanished → P Finished → P Unreached → P Orphaned → P Stopping → (why : Reason) → P why
each_reason P a b c d e f g h i j Evicted = a
each_reason P a b c d e f g h i j Invalid = b
each_reason P a b c d e f g h i j TimedOut = c
each_reason P a b c d e f g h i j Stalled = d
each_reason P a b c d e f g h i j Quit = e
each_reason P a b c d e f g h i j Vanished = f
each_reason P a b c d e f g h i j Finished = g
each_reason P a b c d e f g h i j Unreached = h
each_reason P a b c d e f g h i j Orphaned = i
each_reason P a b c d e f g h i j Stopping = j
