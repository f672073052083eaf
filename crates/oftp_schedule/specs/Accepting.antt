-- What is told of an attempt to accept a connection.
use Rattle.std.specs.Prelude.{ℕ, ◌==◌, Option, Some, None, if◌then◌else◌}
use Rattle.oftp_schedule.specs.declared.accepting.Attempt.{Attempt}
use Rattle.oftp_schedule.specs.declared.accepting.Attempt.TheVariants.{Connection, Empty, Short, Gone, Broken}
use Rattle.oftp_schedule.specs.declared.connection.Arrival.{Arrival}
use Rattle.oftp_schedule.specs.declared.connection.Arrival.TheVariants.{Somebody, Nobody, Later, Never}

-- another attempt is made only where who waited is gone; after the last one the door rests, as where the system is short of something
abbrev pub arrival_of : Attempt → ℕ → Option Arrival
arrival_of Connection left = Some Somebody
arrival_of Empty left = Some Nobody
arrival_of Short left = Some Later
arrival_of Broken left = Some Never
arrival_of Gone left = if left == 0 then Some Later else None
