-- What a call of a session does: one step.
use Rattle.std.specs.Prelude.{◌≡◌, ℕ, ◌<◌, ◌⊎◌, ⊤, Bool, true, false, List, [], length, Option, None, Some, Result, Ok, Err}
use Rattle.oftp_wire.specs.declared.command.Command.{Command}
use Rattle.oftp_wire.specs.declared.command.Command.TheVariants as command
use Rattle.oftp_register.specs.declared.change.Change.{Change}
use Rattle.oftp_register.specs.declared.change.Change.TheVariants as change
use Rattle.oftp_register.specs.Register.{Register}
use Rattle.oftp_register.specs.Changes.{apply}
use Rattle.oftp_register.specs.Offices.{View, Only, WithOrWithout, next_count}
use Rattle.oftp_session.specs.declared.session.SessionFault.{SessionFault}
use Rattle.oftp_session.specs.declared.session.SessionFault.TheVariants as fault
use Rattle.oftp_session.specs.declared.session.Out.{Out}
use Rattle.oftp_session.specs.declared.session.Out.TheVariants.{Nothing, Send}
use Rattle.oftp_session.specs.Settings.{Setting}
use Rattle.oftp_session.specs.Phases.{Phase, Step, framed, register_after}
use Rattle.oftp_session.specs.Steps.{Suits}
use Rattle.oftp_session.specs.Standings.{Standing, StandsIn}

-- What a caller sees of a session: its book and the partner that it calls, its state, and its last frame, [] for none. Also whether a
-- response to its partner is due, once that was looked up.
pub record Seen : Type 0 where
  pub setting : Setting
  pub standing : Standing
  pub response_due : Option Bool
  pub frame : List ℕ

-- a session is in this phase
abbrev pub Stands : Phase → Seen → Type 0
Stands p s = StandsIn p s.standing

-- the frame that is to be sent, [] for none
abbrev pub said : Out → List ℕ
said Nothing = []
said (Send frame) = frame.now

-- a frame that is sent isn't empty
abbrev pub IsFull : Out → Type 0
IsFull Nothing = ⊤
IsFull (Send frame) = 0 < length frame.now

-- the register after a step's change, which is accepted
abbrev pub Makes : Option Change → Register → Register → Type 0
Makes None old new = new ≡ old
Makes (Some change) old new = apply old change ≡ Ok new

-- the change of a step, if it makes one, is accepted by the register
abbrev pub Allows : Register → Option Change → Type 0
Allows r change = Makes change r (register_after r change)

-- a step from a register can be made: its change is accepted, and then the register suits the next phase
pub record Proceeds (r : Register) (step : Step) : Type 0 where
  pub allowed : Allows r step.change
  pub suits : Suits step.phase (register_after r step.change)

-- the step is made, and the frame of its command is returned
pub record IsMade (change : Option Change) (output : Option Command) (old new : View) (heard_now : List ℕ) : Type 0 where
  pub said : heard_now ≡ framed output
  pub register : Makes change old.register new.register
  pub stands : new.stands
  pub faults : new.told ≡ old.told

-- the change starts a file, whose number is looked up afterwards
abbrev pub Begins : Option Change → Type 0
Begins (Some (change.Start identity format longest description count)) = ⊤
Begins _ = ⊥

-- The office returned an error: before the change was made, or in a look-up after it, if the change starts a file. Its register is known
-- wherever it is open.
pub record IsBefore (change : Option Change) (old new : View) : Type 0 where
  pub register : new.is_open → new.register ≡ old.register
  pub left : WithOrWithout change old.register new

pub record IsAfter (change : Option Change) (old new : View) : Type 0 where
  pub begins : Begins change
  pub after : Register
  pub made : Makes change old.register after
  pub register : new.is_open → new.register ≡ after
  pub left : Only after new

pub record IsBroken (change : Option Change) (old new : View) : Type 0 where
  pub cases : IsBefore change old new ⊎ IsAfter change old new
  pub faults : new.told ≡ next_count old.told

-- out of memory: nothing is changed
pub record IsUndone (old new : View) : Type 0 where
  pub register : new.register ≡ old.register
  pub stands : new.stands
  pub faults : new.told ≡ old.told

abbrev pub DoesNot : Option Change → View → View → SessionFault → Type 0
DoesNot change old new fault.Ended = ⊥
DoesNot change old new fault.Office = IsBroken change old new
DoesNot change old new fault.Memory = IsUndone old new

-- a call with this result made the step
abbrev pub Does : Step → View → View → Result (List ℕ) SessionFault → Type 0
Does step old new (Ok frame) = IsMade step.change step.output old new frame
Does step old new (Err fault) = DoesNot step.change old new fault

-- the result of a call, without the address of its frame
abbrev pub heard : Result Out SessionFault → Result (List ℕ) SessionFault
heard (Ok out) = Ok (said out)
heard (Err fault) = Err fault

-- an error that an open session may return
abbrev pub IsFailure : SessionFault → Type 0
IsFailure fault.Ended = ⊥
IsFailure fault.Office = ⊤
IsFailure fault.Memory = ⊤

-- a command for which memory may be allocated: DATA and EFID
abbrev pub takes_memory : Command → Bool
takes_memory (command.Data payload) = true
takes_memory (command.Efid efid) = true
takes_memory other = false
