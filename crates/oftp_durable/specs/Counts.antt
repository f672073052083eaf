-- Restart positions that the station answered (RFC 5024, section 5.3.4).
use Rattle.std.specs.Prelude.{◌≡◌, ℕ, ◌+◌, ◌≤◌, ⊤, List, ◌∷◌, ◌++◌, length, take, Ok}
use Rattle.std.specs.List.{AllByRecursion}
use Rattle.oftp_wire.specs.declared.command.Command.{Command}
use Rattle.oftp_wire.specs.declared.command.Command.TheVariants as command
use Rattle.oftp_vfile.specs.declared.format.Format.{Format}
use Rattle.oftp_register.specs.declared.change.Change.{Change}
use Rattle.oftp_register.specs.declared.change.Change.TheVariants.{Start}
use Rattle.oftp_register.specs.declared.entry.Identity.{Identity}
use Rattle.oftp_register.specs.ByIdentity.{in_at}
use Rattle.oftp_register.specs.Changes.{apply, apply_all}
use Rattle.oftp_register.specs.Register.{Register}
use Rattle.oftp_session.specs.Phases.{frame_of}
use Rattle.oftp_register.specs.Soundness.{IsSound}
use Rattle.oftp_engine.specs.Parts.{IsOpenWith, SessionData, course_of, rows_here}
use Rattle.oftp_engine.specs.Runs.{Output}

-- The last of the first `after` changes starts a file with this Restart position. At least this many of its rows were kept before, and
-- exactly this many after it.
pub record IsKept (r : Register) (changes : List Change) (after count : ℕ) : Type 0 where
  pub before : List Change
  pub later : List Change
  pub identity : Identity
  pub format : Format
  pub longest : ℕ
  pub description : List ℕ
  pub all : changes ≡ before ++ Start identity format longest description count ∷ later
  pub place : after ≡ length before + 1
  pub old : Register
  pub reached : apply_all r before ≡ Ok old
  pub new : Register
  pub made : apply old (Start identity format longest description count) ≡ Ok new
  pub kept : count ≤ length (rows_here (in_at old identity))
  pub left : IsOpenWith (take count (rows_here (in_at old identity))) (in_at new identity)

-- a Restart position that is answered was kept
abbrev pub KeepsCount : Register → List Change → ℕ → Command → Type 0
KeepsCount r changes after (command.Sfpa sfpa) = IsKept r changes after sfpa.restart
KeepsCount r changes after _ = ⊤

-- an output of a run that makes these changes of r is the frame of a command, and a Restart position in it was kept
pub record IsAnswer (r : Register) (changes : List Change) (o : Output) : Type 0 where
  pub command : Command
  pub octets : o.octets ≡ frame_of command
  pub kept : KeepsCount r changes o.after command

-- each Restart position that a session answers was kept
abbrev pub AnswersAreKept : SessionData → Register → Type 0
AnswersAreKept session r = AllByRecursion (IsAnswer r (course_of session r).changes) (course_of session r).outputs

-- for every session from every register
abbrev pub NoAnswerPasses : Type 0
NoAnswerPasses = (session : SessionData) (r : Register) → IsSound r → AnswersAreKept session r
