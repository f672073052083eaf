-- Transfers that break and are continued: what their parts carry, and what the register has of the file (RFC 5024, 5.3.3 to 5.3.8).
use Rattle.std.specs.Prelude.{◌≡◌, ℕ, ◌<◌, ◌≤◌, ◌⊎◌, ⊤, false, ◌||◌, All, List, [], ◌∷◌, ◌++◌, length, take, drop, Option, None, Some, Result, Ok, Err}
use Rattle.oftp_wire.specs.declared.command.Command.{Command}
use Rattle.oftp_wire.specs.declared.command.Command.TheVariants as command
use Rattle.oftp_wire.specs.declared.fault.WireFault.{WireFault}
use Rattle.oftp_codec.specs.declared.frame_fault.FrameFault.{FrameFault}
use Rattle.oftp_codec.specs.Kinds.{command_of}
use Rattle.oftp_codec.specs.Stream.{Reads}
use Rattle.oftp_partners.specs.Book.{BookData}
use Rattle.oftp_vfile.specs.declared.format.Format.{Format}
use Rattle.oftp_vfile.specs.VirtualFile.{AreRows, BeginsWith, records_in, units_in}
use Rattle.oftp_vfile.specs.Carries.{CarriesWhole}
use Rattle.oftp_register.specs.declared.change.Change.TheVariants.{Start}
use Rattle.oftp_register.specs.declared.entry.Identity.{Identity}
use Rattle.oftp_register.specs.declared.entry.IncomingState.TheVariants.{Open, Whole}
use Rattle.oftp_register.specs.Register.{Register, Incoming}
use Rattle.oftp_register.specs.ByIdentity.{in_at}
use Rattle.oftp_register.specs.Changes.{apply, apply_all}
use Rattle.oftp_register.specs.Verdicts.{format_of, longest_of, offered_identity}
use Rattle.oftp_register.specs.Soundness.{IsSound}
use Rattle.oftp_session.specs.Settings.{Setting}
use Rattle.oftp_session.specs.Phases.{Phase, ListenerIdle, Receiving, is_over}
use Rattle.oftp_session.specs.Calls.{Makes}
use Rattle.oftp_codec.specs.declared.limits.TheConstants.{LONGEST_FRAME}
use Rattle.oftp_engine.specs.declared.operating.Operator.{Operator}
use Rattle.oftp_engine.specs.Runs.{Course, came_in, is_stopped, run, settled, started}
use Rattle.oftp_engine.specs.Operating.{Deed, IsDeed}

-- a file that is sent in parts
pub record File : Type 0 where
  pub format : Format
  pub longest : ℕ
  pub rows : List (List ℕ)
  pub fits : AreRows format longest rows

-- the entry that one transfer from the first row on gives
pub record IsUnbroken (file : File) (e : Incoming) : Type 0 where
  pub whole : e.state ≡ Whole
  pub format : e.format ≡ file.format
  pub longest : e.longest ≡ file.longest
  pub rows : e.rows ≡ file.rows

-- the register has a beginning of the file
pub record IsBegun (file : File) (e : Incoming) : Type 0 where
  pub opened : e.state ≡ Open
  pub rows : BeginsWith file.rows e.rows

-- the register has nothing of the file, a beginning, or the file as one transfer gives it
abbrev pub IsSoFar : File → Option Incoming → Type 0
IsSoFar file None = ⊤
IsSoFar file (Some e) = IsBegun file e ⊎ IsUnbroken file e

-- payloads carry the file from a row on, cut off anywhere: some further payloads would carry it to its end
abbrev pub CarriesPart : File → ℕ → List (List ℕ) → Type 0
CarriesPart file from payloads = (next : List (List ℕ)) × CarriesWhole file.format file.longest (payloads ++ next) (drop from file.rows)

-- A command is a part of the file, if it is of this identity. SFID has the file's header, DATA carry the file from the answered row on, and
-- EFID has the counts of the file.
abbrev pub IsPartCommand : File → Identity → Phase → Command → Type 0
IsPartCommand file identity (ListenerIdle contact) (command.Sfid sfid) =
    offered_identity sfid ≡ identity → (format_of sfid.layout ≡ file.format) × (longest_of sfid.layout ≡ file.longest)
IsPartCommand file identity (Receiving contact f) (command.Data payload) =
    f.file.identity ≡ identity → CarriesPart file f.from (f.payloads ++ payload ∷ [])
IsPartCommand file identity (Receiving contact f) (command.Efid efid) =
    f.file.identity ≡ identity → (efid.records ≡ records_in file.format file.rows) × (efid.units ≡ units_in file.rows)
IsPartCommand file identity _ _ = ⊤

-- octets that aren't a command are part of no file
abbrev pub IsPart : File → Identity → Phase → Result Command WireFault → Type 0
IsPart file identity p (Ok command) = IsPartCommand file identity p command
IsPart file identity p (Err fault) = ⊤

-- the commands of a session, each as octets, are parts of the file in order
abbrev pub AreParts : File → Identity → Option ℕ → List (List ℕ) → Course → Type 0
AreParts file identity limit [] c = ⊤
AreParts file identity limit (m ∷ ms) c =
    let d = settled limit c in
    (is_over d.phase || is_stopped limit d) ≡ false → IsPart file identity d.phase (command_of m) × AreParts file identity limit ms (came_in d m)

-- A session: its book and the partner that it calls, and what its reader gives. Also how many octets its writer takes before it returns an
-- error, if it does.
pub record SessionData : Type 0 where
  pub setting : Setting
  pub limit : Option ℕ
  pub stream : List ℕ

-- the session from a register
abbrev pub course_of : SessionData → Register → Course
course_of session r = run session.limit session.stream (started session.setting r)

-- the session brings parts of the file, and anything of other files
pub record BringsParts (file : File) (identity : Identity) (session : SessionData) (r : Register) : Type 0 where
  pub octets : All (λ octet. octet < 256) session.stream
  pub commands : List (List ℕ)
  pub fault : Option FrameFault
  pub reads : Reads LONGEST_FRAME session.stream commands fault
  pub parts : AreParts file identity session.limit commands (started session.setting r)

-- a register that a session may leave, which is the one after a prefix of its changes, for it may stop anywhere
pub record IsLeft (c : Course) (r s : Register) : Type 0 where
  pub count : ℕ
  pub most : count ≤ length c.changes
  pub replay : apply_all r (take count c.changes) ≡ Ok s

-- for one session: whatever it leaves, the file is in an allowed state
abbrev pub PartsMakeTheFile : Type 0
PartsMakeTheFile = (file : File) (identity : Identity) (session : SessionData) (r s : Register) → IsSound r → IsSoFar file (in_at r identity)
    → BringsParts file identity session r → IsLeft (course_of session r) r s → IsSoFar file (in_at s identity)

-- what a station does: a session, or an operator's call
pub data JobData : Type 0 where
  OfSession : (session : SessionData) → JobData
  OfCall : (book : BookData) (call : Operator) → JobData

-- the premise of a job, from a register
abbrev pub MayDo : File → Identity → JobData → Register → Type 0
MayDo file identity (OfSession session) r = BringsParts file identity session r
MayDo file identity (OfCall book call) r = ⊤

-- a register that a job may leave; a call may stop before its change is made
abbrev pub JobLeaves : JobData → Register → Register → Type 0
JobLeaves (OfSession session) r s = IsLeft (course_of session r) r s
JobLeaves (OfCall book call) r s = (s ≡ r) ⊎ ((deed : Deed) × IsDeed book r call deed × Makes deed.change r s)

-- a register that jobs in order may leave
abbrev pub LeaveAll : File → Identity → List JobData → Register → Register → Type 0
LeaveAll file identity [] r s = s ≡ r
LeaveAll file identity (job ∷ jobs) r s =
    (next : Register) × MayDo file identity job r × JobLeaves job r next × LeaveAll file identity jobs next s

-- for any jobs, whose sessions may break anywhere: whatever they leave, the file is in an allowed state
abbrev pub JobsMakeTheFile : Type 0
JobsMakeTheFile = (file : File) (identity : Identity) (jobs : List JobData) (r s : Register) → IsSound r → IsSoFar file (in_at r identity)
    → LeaveAll file identity jobs r s → IsSoFar file (in_at s identity)

-- the rows that the register has
abbrev pub rows_here : Option Incoming → List (List ℕ)
rows_here None = []
rows_here (Some e) = e.rows

-- the file is open, with these rows
abbrev pub IsOpenWith : List (List ℕ) → Option Incoming → Type 0
IsOpenWith rows None = ⊥
IsOpenWith rows (Some e) = (e.state ≡ Open) × (e.rows ≡ rows)

-- no Restart position exceeds the rows kept: an accepted start names at most that many, and leaves exactly those it names
abbrev pub NoCountPasses : Type 0
NoCountPasses = (r s : Register) (identity : Identity) (format : Format) (longest : ℕ) (description : List ℕ) (count : ℕ)
    → apply r (Start identity format longest description count) ≡ Ok s
    → (count ≤ length (rows_here (in_at r identity))) × IsOpenWith (take count (rows_here (in_at r identity))) (in_at s identity)
