-- How long the clock waits between its calls of one partner.
use Rattle.std.specs.Prelude.{ℕ, ◌+◌, ◌-◌, ◌^◌, Bool, false, true, max, min, nat_le, if◌then◌else◌, Result, Ok, Err}
use Rattle.oftp_engine.specs.declared.serving.End.{End}
use Rattle.oftp_outcomes.specs.Statuses.{is_good}
use Rattle.oftp_outcomes.specs.declared.service.Trouble.{Trouble}
use Rattle.oftp_outcomes.specs.declared.service.Way.{Way}
use Rattle.oftp_outcomes.specs.declared.service.Way.TheVariants.{In, Out}
use Rattle.oftp_requests.specs.declared.pacing.Pace.{Pace}
use Rattle.oftp_requests.specs.declared.pacing.TheConstants.{HALF_PAUSE, LONGEST_PAUSE}

-- before any session the clock calls at once
abbrev pub unpaced : Pace
unpaced = record { called = 0; pause = 0 }

-- the clock may call the partner: its pause since the last call is over
abbrev pub is_ripe : Pace → ℕ → Bool
is_ripe p now = nat_le p.pause (now - p.called)

-- from when on it may, up to the greatest number of 64 bits
abbrev pub ripe_at : Pace → ℕ
ripe_at p = min (p.called + p.pause) (2 ^ 64 - 1)

-- it was called at this moment
abbrev pub called : Pace → ℕ → Pace
called p now = record { called = now; pause = p.pause }

-- with this pause
abbrev pub begun : Pace → ℕ → Pace
begun p pause = record { called = p.called; pause = pause }

-- the session ended by 00
abbrev pub ends_well : Result End Trouble → Bool
ends_well (Ok end) = is_good end
ends_well (Err trouble) = false

-- The pause after a call that ended otherwise than by 00: twice the last one, up to an hour. It is never shorter than the clock's interval, which
-- is also the pause of a partner without one.
abbrev pub pause_after : ℕ → ℕ → ℕ
pause_after pause interval = if nat_le (max pause interval) HALF_PAUSE then max pause interval + max pause interval else max interval LONGEST_PAUSE

-- After a good session, of either side, the partner is due at once. A bad one whose partner called changes nothing.
abbrev pub paced : Pace → Way → Bool → ℕ → Pace
paced p way true interval = begun p 0
paced p Out false interval = begun p (pause_after p.pause interval)
paced p In false interval = p
