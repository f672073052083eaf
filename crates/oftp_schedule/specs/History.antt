-- What the shell and the schedule told each other.
use Rattle.std.specs.Prelude.{List, [], ◌∷◌, ◌++◌, map}
use Rattle.oftp_schedule.specs.declared.connection.Event.{Event}
use Rattle.oftp_schedule.specs.declared.connection.Action.{Action}
use Rattle.oftp_schedule.specs.Machine.{State, Move, step, Tell, Ask}

pub data Note : Type 0 where
  Heard : Event → Note
  Ordered : Action → Note

-- what a move shows before what it orders
abbrev pub shown : Move → List Note
shown (Tell e) = Heard e ∷ []
shown Ask = []

-- each event, and each action that was ordered
abbrev pub history : State → List Move → List Note
history s [] = []
history s (m ∷ ms) = shown m ++ map Ordered (step s m).1 ++ history (step s m).0 ms

-- where an observer stands after these notes
abbrev pub watch : {S : Type 0} → (S → Note → S) → S → List Note → S
watch f st [] = st
watch f st (n ∷ ns) = watch f (f st n) ns
