-- What a station has out, cut off anywhere, and what the other station reads of it.
use Rattle.std.specs.Prelude.{◌≡◌, ℕ, ◌+◌, ◌≤◌, ◌||◌, if◌then◌else◌, List, [], ◌∷◌, ◌++◌, length, map, take, Option, None, Result, Ok}
use Rattle.std.specs.List.{AllByRecursion, flat_map}
use Rattle.oftp_wire.specs.declared.command.Command.{Command}
use Rattle.oftp_wire.specs.declared.fault.WireFault.{WireFault}
use Rattle.oftp_codec.specs.declared.frame_fault.FrameFault.{FrameFault}
use Rattle.oftp_wire.specs.declared.reason.SessionReason.TheVariants.{ResourcesNotAvailable}
use Rattle.oftp_codec.specs.Kinds.{command_of}
use Rattle.oftp_codec.specs.Spelling.{Canon, IsFit}
use Rattle.oftp_codec.specs.Stream.{Reads}
use Rattle.oftp_register.specs.Register.{Register}
use Rattle.oftp_session.specs.Settings.{Setting}
use Rattle.oftp_session.specs.Phases.{esid_of, frame_of, is_over}
use Rattle.oftp_session.specs.Steps.{came}
use Rattle.oftp_codec.specs.declared.limits.TheConstants.{FRAME_HEADER, LONGEST_FRAME}
use Rattle.oftp_engine.specs.Ranges.{StartsInRange}
use Rattle.oftp_engine.specs.Runs.{Course, Output, advance, is_stopped, octets_of, run, settled, started}
use Rattle.oftp_engine.specs.Serving.{last_frame}

-- a command that a frame can hold: each field is in its range, and the frame isn't too long
abbrev pub IsSayable : Command → Type 0
IsSayable command = IsFit command × (length (Canon command) + FRAME_HEADER ≤ LONGEST_FRAME)

-- commands as octets: their frames, one after another
abbrev pub in_frames : List Command → List ℕ
in_frames commands = flat_map frame_of commands

-- what is read from the octets of these commands
abbrev pub as_read : List Command → List (Result Command WireFault)
as_read commands = map (λ command. command_of (Canon command)) commands

-- a session over commands that arrive: the turns that are due, then the next command, and so on
abbrev pub over_queue : Option ℕ → List Command → Course → Course
over_queue limit [] c = settled limit c
over_queue limit (m ∷ ms) c = let d = settled limit c in
    if is_over d.phase || is_stopped limit d then d else over_queue limit ms (advance d (came d.setting d.phase d.register m))

-- These octets are out of what was sent. The other station hears the first commands, those whose frames are whole, each as it was sent; the
-- others are lost. The octets can be read in no other way, and the rest of them is no error. A session over them is the one over these
-- commands.
pub record IsHeard (said : List Command) (octets : List ℕ) : Type 0 where
  pub heard : List Command
  pub lost : List Command
  pub all : said ≡ heard ++ lost
  pub frames : Reads LONGEST_FRAME octets (map Canon heard) None
  pub alone : (commands : List (List ℕ)) (fault : Option FrameFault) → Reads LONGEST_FRAME octets commands fault → (commands ≡ map Canon heard) × (fault ≡ None)
  pub same : as_read heard ≡ map Ok heard
  pub session : (limit : Option ℕ) (c : Course) → run limit octets c ≡ over_queue limit heard c

-- commands that are out as frames, cut off anywhere, are heard like this
abbrev pub QueuesAreHeard : Type 0
QueuesAreHeard = (said : List Command) (octets lost : List ℕ) → AllByRecursion IsSayable said → in_frames said ≡ octets ++ lost → IsHeard said octets

-- A session sends commands, each as a frame. If it begins in the ranges of book and register, a frame can hold each of them.
abbrev pub RunsSayCommands : Type 0
RunsSayCommands = (limit : Option ℕ) (setting : Setting) (given : List ℕ) (r : Register)
    → (said : List Command) × (map (λ (o : Output). o.octets) (run limit given (started setting r)).outputs ≡ map frame_of said)
    × (StartsInRange setting r → AllByRecursion IsSayable said)

-- octets of a queue of commands that is cut off somewhere
pub record IsQueue (octets : List ℕ) : Type 0 where
  pub said : List Command
  pub lost : List ℕ
  pub all : in_frames said ≡ octets ++ lost

-- What is out at the end of a session: these outputs, or a beginning of their octets if the writer returned an error. If the office
-- returned one, these outputs and a beginning of ESID 08 are out (specs/Served.antt).
pub record SaysQueues (outs : List Output) : Type 0 where
  pub whole : IsQueue (octets_of outs)
  pub cut : (count : ℕ) → IsQueue (take count (octets_of outs))
  pub ended : (count : ℕ) → IsQueue (octets_of outs ++ take count last_frame)

-- this holds wherever a run ends
abbrev pub RunsSayQueues : Type 0
RunsSayQueues = (limit : Option ℕ) (setting : Setting) (given : List ℕ) (r : Register) (outs later : List Output)
    → (run limit given (started setting r)).outputs ≡ outs ++ later → SaysQueues outs

-- The commands of these outputs, and how the other station hears them. Then some octets of them are out, or all of them and ESID 08 or a
-- beginning of it.
pub record AreHeard (outs : List Output) : Type 0 where
  pub said : List Command
  pub frames : map (λ (o : Output). o.octets) outs ≡ map frame_of said
  pub cut : (count : ℕ) → IsHeard said (take count (octets_of outs))
  pub ended : (count : ℕ) → IsHeard (said ++ esid_of ResourcesNotAvailable ∷ []) (octets_of outs ++ take count last_frame)

-- this holds wherever a run ends that begins in its ranges
abbrev pub RunsAreHeard : Type 0
RunsAreHeard = (limit : Option ℕ) (setting : Setting) (given : List ℕ) (r : Register) (outs later : List Output)
    → (run limit given (started setting r)).outputs ≡ outs ++ later → StartsInRange setting r → AreHeard outs
