-- Who is closed for another.
use Rattle.std.specs.Prelude.{ℕ, List, [], ◌∷◌, Option, Some, None, if◌then◌else◌, map}
use Rattle.oftp_schedule.specs.declared.connection.Arrival.{Arrival}
use Rattle.oftp_schedule.specs.declared.connection.Arrival.TheVariants.{Somebody}
use Rattle.oftp_schedule.specs.declared.connection.Event.TheVariants.{Accepted}
use Rattle.oftp_schedule.specs.declared.connection.Reason.TheVariants.{Evicted}
use Rattle.oftp_schedule.specs.declared.connection.Action.{Action}
use Rattle.oftp_schedule.specs.declared.connection.Action.TheVariants.{Close}
use Rattle.oftp_schedule.specs.declared.connection.Connection.{Connection}
use Rattle.oftp_schedule.specs.Rules.{is_arriving_phase, connection_at, became}
use Rattle.oftp_schedule.specs.Machine.{State, with_connections, first_phase, makes_room, Move, Tell}

-- the numbers of those that are closed for another
abbrev pub evictions : List Action → List ℕ
evictions [] = []
evictions (Close id Evicted ∷ rest) = id ∷ evictions rest
evictions (a ∷ rest) = evictions rest

abbrev pub number : Option Connection → List ℕ
number None = []
number (Some c) = c.id ∷ []

-- who leaves for one who has come: at a door that is too full then, the oldest stranger that has been there for long enough
abbrev pub leaver_for : State → Option Connection → Option Connection
leaver_for s None = None
leaver_for s (Some c) =
    if is_arriving_phase c.phase
    then makes_room (with_connections s (map (became c.id (first_phase s.now s.limits c.door)) s.connections)) c.door
    else None

abbrev pub leaver_by : State → Option Connection → Arrival → Option Connection
leaver_by s at Somebody = leaver_for s at
leaver_by s at a = None

abbrev pub leaver : State → Move → Option Connection
leaver s (Tell (Accepted id a)) = leaver_by s (connection_at id s.connections) a
leaver s m = None
