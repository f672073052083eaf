-- The frame of the code, and the buffer in which DATA frames are written. Only private functions cite this.
use Rattle.std.specs.Prelude.{◌≡◌, ◌+◌, ◌≤◌, ℕ, Bool, List, [], ◌∷◌, ◌++◌, length, take, Result, Ok, Err}
use Rattle.oftp_wire.specs.declared.command.Command.TheVariants as command
use Rattle.oftp_vfile.specs.declared.filling.Filled.{Filled}
use Rattle.oftp_vfile.specs.declared.filling.Filled.TheVariants.{Buffer, Done, More}
use Rattle.oftp_vfile.specs.Fill.{payloads_of}
use Rattle.oftp_vfile.specs.Filling.{Filling, AreLent, AsksForMore, Moves, Sent}
use Rattle.oftp_session.specs.declared.frame.TheConstants.{COMMAND_ROOM, DATA_HEAD}
use Rattle.oftp_session.specs.declared.frame.Contents.{Contents}
use Rattle.oftp_session.specs.declared.frame.Contents.TheVariants as contents
use Rattle.oftp_session.specs.declared.session.SessionFault.{SessionFault}
use Rattle.oftp_session.specs.declared.session.SessionFault.TheVariants.{Memory}
use Rattle.oftp_session.specs.Phases.{frame_of}

-- the frame: a command in one buffer, or DATA in the other
abbrev pub frame_in : Contents → List ℕ → List ℕ → List ℕ
frame_in (contents.Command n) octets buffer = take n octets
frame_in (contents.Data n) octets buffer = take n buffer

-- the buffer is long enough
abbrev pub IsFrameWithin : Contents → List ℕ → List ℕ → Type 0
IsFrameWithin (contents.Command n) octets buffer = n ≤ COMMAND_ROOM
IsFrameWithin (contents.Data n) octets buffer = n ≤ length buffer

-- DATA with the next payload of the file whose rows were borrowed
pub record IsNextData (size : ℕ) (old new : Filling) (rows : List (List ℕ)) (last : Bool) (frame : List ℕ) : Type 0 where
  pub payload : List ℕ
  pub said : frame ≡ frame_of (command.Data payload)
  pub moves : Moves old new rows last
  pub sent : (from : ℕ) (file payloads : List (List ℕ)) → Sent old size from file payloads → AreLent old from file rows last
      → Sent new size from file (payloads ++ payload ∷ [])

-- no payload of that file is left
pub record IsAllSent (size : ℕ) (old new : Filling) (rows : List (List ℕ)) (last : Bool) : Type 0 where
  pub same : new ≡ old
  pub all : (from : ℕ) (file payloads : List (List ℕ)) → Sent old size from file payloads → AreLent old from file rows last
      → payloads ≡ payloads_of old.format size file

-- what a filler with this result made, with its frame; there is none where no payload was made
abbrev pub Fills : ℕ → Filling → Filling → List (List ℕ) → Bool → List ℕ → Filled → Type 0
Fills size old new rows last frame (Buffer n) = IsNextData size old new rows last frame
Fills size old new rows last frame Done = IsAllSent size old new rows last × (frame ≡ [])
Fills size old new rows last frame More = AsksForMore size old new rows last × (frame ≡ [])

-- the same, or out of memory, and then nothing was done
abbrev pub FillsOrNot : ℕ → Filling → Filling → List (List ℕ) → Bool → List ℕ → Result Filled SessionFault → Type 0
FillsOrNot size old new rows last frame (Ok filled) = Fills size old new rows last frame filled
FillsOrNot size old new rows last frame (Err fault) = (fault ≡ Memory) × (new ≡ old) × (frame ≡ [])

-- the same in a buffer that begins with the frame: some octets before a payload
abbrev pub FillsInto : ℕ → Filling → Filling → List (List ℕ) → Bool → List ℕ → Filled → Type 0
FillsInto size old new rows last buffer (Buffer n) = (n ≤ size) × IsNextData size old new rows last (take (n + DATA_HEAD) buffer)
FillsInto size old new rows last buffer Done = IsAllSent size old new rows last
FillsInto size old new rows last buffer More = AsksForMore size old new rows last
