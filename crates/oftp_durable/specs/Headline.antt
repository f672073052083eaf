-- The headline: a crash leaves in a database the register after a prefix of the accepted changes.
use Rattle.std.specs.Prelude.{◌≡◌, ℕ, ⊤, true, List, [], ◌++◌, take, Option, None, Some, is_some, IsTrue, Result, Ok, Err}
use Rattle.sqlite.specs.Tree.{Trees}
use Rattle.sqlite.specs.State.{State}
use Rattle.oftp_vfile.specs.declared.limits.Limits.{Limits}
use Rattle.oftp_partners.specs.Book.{BookData}
use Rattle.oftp_register.specs.declared.change.Change.{Change}
use Rattle.oftp_register.specs.declared.entry.Identity.{Identity}
use Rattle.oftp_register.specs.ByIdentity.{in_at}
use Rattle.oftp_register.specs.Changes.{apply_all}
use Rattle.oftp_register.specs.Register.{Register}
use Rattle.oftp_session.specs.Settings.{Setting}
use Rattle.oftp_session.specs.declared.session.Ending.{Ending}
use Rattle.oftp_tables.specs.Tables.{register_in}
use Rattle.oftp_tables.specs.Stands.{IsContentOf}
use Rattle.oftp_store.specs.Opens.{Has}
use Rattle.oftp_engine.specs.declared.operating.Operator.{Operator}
use Rattle.oftp_engine.specs.declared.operating.Told.{Told}
use Rattle.oftp_io.specs.declared.port.Port.{Port}
use Rattle.oftp_engine.specs.declared.serving.End.{End}
use Rattle.oftp_engine.specs.declared.serving.End.TheVariants.{Input}
use Rattle.oftp_engine.specs.declared.serving.RunFault.{RunFault}
use Rattle.oftp_engine.specs.declared.serving.RunFault.TheVariants as fault
use Rattle.oftp_engine.specs.Jobs.{call_share}
use Rattle.oftp_engine.specs.Operating.{Deed, IsDeed}
use Rattle.oftp_engine.specs.Parts.{BringsParts, File, IsSoFar, course_of}
use Rattle.oftp_io.specs.Ports.{Wrote}
use Rattle.oftp_engine.specs.Runs.{answered, ended_as, octets_of}
use Rattle.oftp_engine.specs.Served.{IsPrefix}
use Rattle.oftp_engine.specs.Serving.{last_frame}
use Rattle.oftp_life.specs.LifeParts.{session_over}
use Rattle.oftp_durable.specs.Counts.{AnswersAreKept}

-- Each content that a crash may leave now is the tables of r after the first n of these changes, all of them made. There n is at least
-- `least`. The register of the office, wherever it is open, is the one after n or n - 1 of them.
pub record LeavesPrefix (limits : Limits) (s : State) (r : Register) (changes : List Change) (least : ℕ) : Type 0 where
  pub made : ℕ
  pub left : (db : Trees) → s.may_leave db → IsPrefix IsContentOf changes r least made db
  pub register : IsTrue s.is_open → apply_all r (take made changes) ≡ Ok (register_in limits s.now.trees)

-- the office is open with this register, and a crash leaves its tables and nothing else
pub record LeavesAlone (limits : Limits) (s : State) (r : Register) : Type 0 where
  pub has : Has limits r s
  pub left : (db : Trees) → s.may_leave db → IsContentOf db r

-- The tables that a crash may leave now have nothing of the file, or a beginning of its rows. Or they have the file as one transfer gives it.
abbrev pub LeavesSoFar : File → Identity → State → Type 0
LeavesSoFar file identity s = (db : Trees) → s.may_leave db → (after : Register) × IsContentOf db after × IsSoFar file (in_at after identity)

-- the fact holds unless the office returned an error
abbrev pub UnlessOffice : RunFault → Type 0 → Type 0
UnlessOffice fault.Read holds = holds
UnlessOffice fault.Write holds = holds
UnlessOffice fault.Office holds = ⊤
UnlessOffice fault.Memory holds = holds

abbrev pub ButForOffice : {T : Type 0} → Result T RunFault → Type 0 → Type 0
ButForOffice (Ok x) holds = holds
ButForOffice (Err fault) holds = UnlessOffice fault holds

-- the result of a conversation as that of a session: at a wait it is the result of a session whose input ends there
abbrev pub as_served : Result (Option Ending) RunFault → Result End RunFault
as_served (Ok None) = Ok Input
as_served (Ok (Some ending)) = Ok (ended_as ending)
as_served (Err fault) = Err fault

-- the run is cut short only where the writer returned an error, and ESID 08 follows only where the office returned one
abbrev pub StopsShort : Result End RunFault → Option ℕ → ℕ → Type 0
StopsShort (Ok end) stop closing = (stop ≡ None) × (closing ≡ 0)
StopsShort (Err fault.Read) stop closing = (stop ≡ None) × (closing ≡ 0)
StopsShort (Err fault.Write) stop closing = (is_some stop ≡ true) × (closing ≡ 0)
StopsShort (Err fault.Office) stop closing = stop ≡ None
StopsShort (Err fault.Memory) stop closing = (stop ≡ None) × (closing ≡ 0)

-- A session over the database of r. The first `out` octets of its run are out, and after them at most a beginning of ESID 08. A crash
-- leaves r after a prefix of the run's changes, with each that was answered. Each Restart position that it answers was kept. If the session
-- brings parts of a file, a crash leaves nothing of it, a beginning, or the whole file.
pub record SessionLeaves {W : Type 0} (contents : W → Option (List ℕ)) (setting : Setting) (given : List ℕ) (r : Register) (old new : Port W)
    (limits : Limits) (s : State) (result : Result End RunFault) : Type 0 where
  pub stop : Option ℕ
  pub out : ℕ
  pub closing : ℕ
  pub short : StopsShort result stop closing
  pub wrote : Wrote contents old new (take out (octets_of (course_of (session_over setting given stop) r).outputs) ++ take closing last_frame)
  pub left : LeavesPrefix limits s r (course_of (session_over setting given stop) r).changes (answered (course_of (session_over setting given stop) r).outputs out)
  pub counts : AnswersAreKept (session_over setting given stop) r
  pub parts : (file : File) (identity : Identity) → IsSoFar file (in_at r identity) → BringsParts file identity (session_over setting given stop) r → LeavesSoFar file identity s

-- An operator's call on the database of r. The first `out` octets of its line are out. A crash leaves r with its change or without it, and
-- with it if an octet of the line is out.
pub record CallDone {W : Type 0} (contents : W → Option (List ℕ)) (book : BookData) (call : Operator) (r : Register) (old new : Port W) (limits : Limits) (s : State) : Type 0 where
  pub deed : Deed
  pub is : IsDeed book r call deed
  pub out : ℕ
  pub wrote : Wrote contents old new (take out deed.line)
  pub left : LeavesPrefix limits s r (call_share r deed).changes (answered (call_share r deed).outputs out)
  pub parts : (file : File) (identity : Identity) → IsSoFar file (in_at r identity) → LeavesSoFar file identity s

-- out of memory while the content of a file was read: nothing is out, and a crash leaves r
pub record CallUndone {W : Type 0} (contents : W → Option (List ℕ)) (r : Register) (old new : Port W) (limits : Limits) (s : State) : Type 0 where
  pub wrote : Wrote contents old new []
  pub left : LeavesAlone limits s r

abbrev pub CallLeavesErr : {W : Type 0} → (W → Option (List ℕ)) → BookData → Operator → Register → Port W → Port W → Limits → State → RunFault → Type 0
CallLeavesErr contents book call r old new limits s fault.Read = ⊥
CallLeavesErr contents book call r old new limits s fault.Write = CallDone contents book call r old new limits s
CallLeavesErr contents book call r old new limits s fault.Office = CallDone contents book call r old new limits s
CallLeavesErr contents book call r old new limits s fault.Memory = CallUndone contents r old new limits s

-- what a call with this result leaves
abbrev pub CallLeaves : {W : Type 0} → (W → Option (List ℕ)) → BookData → Operator → Register → Port W → Port W → Limits → State → Result Told RunFault → Type 0
CallLeaves contents book call r old new limits s (Ok told) = CallDone contents book call r old new limits s
CallLeaves contents book call r old new limits s (Err fault) = CallLeavesErr contents book call r old new limits s fault
