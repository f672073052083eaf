-- A whole session over the octets that were read: the fold of the steps. It has no pieces, buffers or transactions.
use Rattle.std.specs.Prelude.{ℕ, zero, suc, max, ◌-◌, Bool, false, nat_lt, not, ◌&&◌, ◌||◌, if◌then◌else◌, List, [], ◌∷◌, ◌++◌, length, drop, Option, None, Some, Result, Ok, Err}
use Rattle.std.specs.List.{flat_map}
use Rattle.oftp_codec.specs.Kinds.{command_of}
use Rattle.oftp_wire.specs.Reasons.{reason_of}
use Rattle.oftp_codec.specs.Stream.{Head, Whole, Waits, Bad, front, command_in}
use Rattle.oftp_wire.specs.declared.command.Command.{Command}
use Rattle.oftp_wire.specs.declared.fault.WireFault.{WireFault}
use Rattle.oftp_wire.specs.declared.reason.SessionReason.{SessionReason}
use Rattle.oftp_wire.specs.declared.reason.SessionReason.TheVariants.{CommandNotRecognised, ProtocolViolation}
use Rattle.oftp_register.specs.declared.change.Change.{Change}
use Rattle.oftp_register.specs.Register.{Register}
use Rattle.oftp_session.specs.Settings.{Setting}
use Rattle.oftp_session.specs.Phases.{Phase, Step, ending_of, fails, frame_of, is_over, register_after}
use Rattle.oftp_session.specs.Steps.{has_turn, turned, turns_due, came, opening}
use Rattle.oftp_session.specs.declared.session.Ending.{Ending}
use Rattle.oftp_session.specs.declared.session.Ending.TheVariants as ended
use Rattle.oftp_codec.specs.declared.limits.TheConstants.{LONGEST_FRAME}
use Rattle.oftp_engine.specs.declared.serving.End.{End}
use Rattle.oftp_engine.specs.declared.serving.End.TheVariants.{Own, Partner, Input}

-- a frame that was sent, and how many changes were made before it
pub record Output : Type 0 where
  pub octets : List ℕ
  pub after : ℕ

-- a session so far: its book, its phase, the register, the changes that were made and the frames that were sent, in order
pub record Course : Type 0 where
  pub setting : Setting
  pub phase : Phase
  pub register : Register
  pub changes : List Change
  pub outputs : List Output

-- a session before its first step
abbrev pub started : Setting → Register → Course
started setting r = record { setting = setting; phase = opening setting.called; register = r; changes = []; outputs = [] }

abbrev pub octets_of : List Output → List ℕ
octets_of outputs = flat_map (λ o. o.octets) outputs

abbrev pub with_change : List Change → Option Change → List Change
with_change changes None = changes
with_change changes (Some change) = changes ++ change ∷ []

-- a command is sent as a frame
abbrev pub with_output : List Output → Option Command → ℕ → List Output
with_output outputs None after = outputs
with_output outputs (Some command) after = outputs ++ record { octets = frame_of command; after = after } ∷ []

-- the course after a step: its change first, and then its output
unfoldable pub advance : Course → Step → Course
advance c s = record {
  setting = c.setting;
  phase = s.phase;
  register = register_after c.register s.change;
  changes = with_change c.changes s.change;
  outputs = with_output c.outputs s.output (length (with_change c.changes s.change));
}

-- Octets that aren't a command end the session, for the reason of their error. An error without a reason never occurs here, since only
-- encoding returns it.
abbrev pub refusal : Option SessionReason → Step
refusal (Some reason) = fails reason
refusal None = fails CommandNotRecognised

-- what arrives: a command, or octets that aren't one
abbrev pub step_on : Setting → Phase → Register → Result Command WireFault → Step
step_on setting p r (Ok command) = came setting p r command
step_on setting p r (Err fault) = refusal (reason_of fault)

abbrev pub came_in : Course → List ℕ → Course
came_in c octets = advance c (step_on c.setting c.phase c.register (command_of octets))

abbrev pub turned_in : Course → Course
turned_in c = advance c (turned c.setting c.phase c.register)

-- a writer that returned an error had taken this many octets: the session stops at the output that exceeds this number
unfoldable pub is_stopped : Option ℕ → Course → Bool
is_stopped None c = false
is_stopped (Some n) c = nat_lt n (length (octets_of c.outputs))

-- the turns that are due, at most this many
unfoldable pub turns : ℕ → Option ℕ → Course → Course
turns zero limit c = c
turns (suc n) limit c = if has_turn c.phase && not (is_stopped limit c) then turns n limit (turned_in c) else c

unfoldable pub settled : Option ℕ → Course → Course
settled limit c = turns (turns_due c.phase) limit c

-- the next command in the octets, and how the session goes on with the rest; a faulty header ends it
unfoldable pub on_front : (List ℕ → Course → Course) → List ℕ → Course → Head → Course
on_front go_on s c (Whole n) = go_on (drop n s) (came_in c (command_in n s))
on_front go_on s c Waits = c
on_front go_on s c (Bad fault) = advance c (fails ProtocolViolation)

unfoldable pub next_in : Option ℕ → (List ℕ → Course → Course) → List ℕ → Course → Course
next_in limit go_on s c = if is_over c.phase || is_stopped limit c then c else on_front go_on s c (front LONGEST_FRAME s)

-- the turns that are due, then the next command, and so on
unfoldable pub run_by : ℕ → Option ℕ → List ℕ → Course → Course
run_by zero limit s c = c
run_by (suc n) limit s c = next_in limit (run_by n limit) s (settled limit c)

-- the whole session, from a course over the octets that arrive; each command uses up some of these
unfoldable pub run : Option ℕ → List ℕ → Course → Course
run limit s c = run_by (suc (length s)) limit s c

-- how a session ended, as the result of `serve`
abbrev pub ended_as : Ending → End
ended_as (ended.Own reason) = Own reason
ended_as (ended.Partner reason) = Partner reason

abbrev pub end_of : Option Ending → End
end_of None = Input
end_of (Some ending) = ended_as ending

-- how a session ends that read all octets: as its phase says, or else by the end of the input
abbrev pub ending : Phase → End
ending p = end_of (ending_of p)

-- the number of changes before the last output of which one of the first n octets is
abbrev pub answered : List Output → ℕ → ℕ
answered [] n = 0
answered (o ∷ os) zero = 0
answered (o ∷ os) (suc n) = max o.after (answered os (suc n - length o.octets))
