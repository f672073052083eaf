-- Whom a call calls and for whom, how often it hangs up in all, and how many calls the clock has of a partner.
use Rattle.std.specs.Prelude.{◌≡◌, ℕ, ◌+◌, ◌≤◌, Bool, true, false, List, Option, Some}
use Rattle.oftp_schedule.specs.declared.connection.Phase.{Phase}
use Rattle.oftp_schedule.specs.declared.connection.Action.{Action}
use Rattle.oftp_schedule.specs.declared.connection.Action.TheVariants.{HangUp}
use Rattle.oftp_schedule.specs.declared.connection.Call.{Call}
use Rattle.oftp_schedule.specs.Rules.{call_in, call_at, is_by_clock, connection_at}
use Rattle.oftp_schedule.specs.Machine.{State, Move, run}
use Rattle.oftp_schedule.specs.Apart.{how_many}
use Rattle.oftp_schedule.specs.History.{Note, history}
use Rattle.oftp_schedule.specs.Life.{times_ordered}

-- a call of partner n by the clock, until its session is over
abbrev pub is_clocks_call : ℕ → Phase → Bool
is_clocks_call n p = is_by_clock n (call_in p)

-- the clock has one call of a partner at a time
abbrev pub HasOneEach : State → Type 0
HasOneEach s = (n : ℕ) → how_many (is_clocks_call n) s.connections ≤ 1

-- the call with this number
abbrev pub call_of_number : ℕ → State → Option Call
call_of_number id s = call_at (connection_at id s.connections)

-- a call hangs up, to give way or because its session didn't begin, and is made again
abbrev pub hangs_up : Action → Bool
hangs_up (HangUp i) = true
hangs_up a = false

-- how often call id hangs up in these notes
abbrev pub hang_ups : ℕ → List Note → ℕ
hang_ups id ns = times_ordered hangs_up id ns

-- d is call c after it hung up k times. It is of the same partner and for the same asker, and may do so k times less.
abbrev pub IsSameCall : ℕ → Call → Call → Type 0
IsSameCall k c d = (d.partner ≡ c.partner) × (d.asker ≡ c.asker) × (d.times + k ≡ c.times)

-- a call that is there before these moves and after them is the same call
abbrev pub KeepsCalls : State → List Move → Type 0
KeepsCalls s during = (id : ℕ) (c d : Call) → call_of_number id s ≡ Some c → call_of_number id (run s during) ≡ Some d → IsSameCall (hang_ups id (history s during)) c d
