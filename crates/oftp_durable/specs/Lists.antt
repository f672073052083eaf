-- The headline for a list of jobs, one after another.
use Rattle.std.specs.Prelude.{◌≡◌, ℕ, ◌+◌, ⊤, List, [], ◌∷◌, ◌++◌, length, Option, None, Result, Ok, Err}
use Rattle.sqlite.specs.State.{State}
use Rattle.sqlite_trees.specs.declared.store.Store.{Ghosts}
use Rattle.oftp_vfile.specs.declared.limits.Limits.{Limits}
use Rattle.oftp_partners.specs.Book.{BookData}
use Rattle.oftp_register.specs.declared.change.Change.{Change}
use Rattle.oftp_register.specs.declared.entry.Identity.{Identity}
use Rattle.oftp_register.specs.ByIdentity.{in_at}
use Rattle.oftp_register.specs.Offices.{View}
use Rattle.oftp_register.specs.Register.{Register}
use Rattle.oftp_store.specs.Shown.{database_of, limits_of, shown}
use Rattle.oftp_store.specs.declared.office.SqlOffice.{SqlOffice}
use Rattle.oftp_engine.specs.declared.running.Job.{Job}
use Rattle.oftp_engine.specs.declared.running.Job.TheVariants as job
use Rattle.oftp_engine.specs.declared.serving.RunFault.{RunFault}
use Rattle.oftp_engine.specs.declared.serving.RunFault.TheVariants as fault
use Rattle.oftp_engine.specs.Jobs.{CallEntry, Entry, JobStops, Runs, SessionEntry, Stop, after_jobs, changes_of, share_of}
use Rattle.oftp_engine.specs.Parts.{BringsParts, File, IsSoFar}
use Rattle.oftp_engine.specs.Served.{setting_of}
use Rattle.oftp_life.specs.LifeParts.{session_over}
use Rattle.oftp_durable.specs.Counts.{AnswersAreKept}
use Rattle.oftp_durable.specs.Headline.{LeavesPrefix, LeavesSoFar}

-- a station that begins with this register and has returned this many errors
abbrev pub beginning : Register → ℕ → View
beginning r faults = record {
  register = r;
  told = faults;
  clean = ⊤;
  is_open = ⊤;
  stands = ⊤;
  opens = λ h. h;
  Content = Register;
  may_leave = λ content. content ≡ r;
  holds = λ content register. content ≡ register;
}

-- each Restart position that the sessions among the jobs that were done answer was kept
abbrev pub AllAreKept : Register → List Entry → Type 0
AllAreKept r [] = ⊤
AllAreKept r (SessionEntry setting given stop ∷ es) =
    AnswersAreKept (session_over setting given stop) r × AllAreKept (share_of r (SessionEntry setting given stop)).register es
AllAreKept r (CallEntry deed stop ∷ es) = AllAreKept (share_of r (CallEntry deed stop)).register es

-- the sessions among the jobs that were done bring parts of the file
abbrev pub BringAll : File → Identity → Register → List Entry → Type 0
BringAll file identity r [] = ⊤
BringAll file identity r (SessionEntry setting given stop ∷ es) =
    BringsParts file identity (session_over setting given stop) r × BringAll file identity (share_of r (SessionEntry setting given stop)).register es
BringAll file identity r (CallEntry deed stop ∷ es) = BringAll file identity (share_of r (CallEntry deed stop)).register es

module _ {R W : Type 0} (remaining : R → Option (List ℕ)) (contents : W → Option (List ℕ)) (book : BookData) where
  -- so was each that a session answers which was cut short
  abbrev pub LastIsKept : (r : Register) (was now : Job R W) (stop : Stop) (fault : RunFault) → JobStops remaining contents book r was now stop fault → Type 0
  LastIsKept r (job.Session was) (job.Session now) stop fault.Read h = ⊤
  LastIsKept r (job.Session was) (job.Session now) stop fault.Write h = ⊤
  LastIsKept r (job.Session was) (job.Session now) stop fault.Office h = AnswersAreKept (session_over (setting_of book was.role) h.cut.given None) r
  LastIsKept r (job.Session was) (job.Session now) stop fault.Memory h = AnswersAreKept (session_over (setting_of book was.role) h.cut.given None) r
  LastIsKept r (job.Session was) (job.Call now) stop fault h = ⊤
  LastIsKept r (job.Call was) (job.Session now) stop fault h = ⊤
  LastIsKept r (job.Call was) (job.Call now) stop fault h = ⊤

  -- so does a session that was cut short
  abbrev pub BringsLast : File → Identity → (r : Register) (was now : Job R W) (stop : Stop) (fault : RunFault) → JobStops remaining contents book r was now stop fault → Type 0
  BringsLast file identity r (job.Session was) (job.Session now) stop fault.Read h = ⊤
  BringsLast file identity r (job.Session was) (job.Session now) stop fault.Write h = ⊤
  BringsLast file identity r (job.Session was) (job.Session now) stop fault.Office h = BringsParts file identity (session_over (setting_of book was.role) h.cut.given None) r
  BringsLast file identity r (job.Session was) (job.Session now) stop fault.Memory h = BringsParts file identity (session_over (setting_of book was.role) h.cut.given None) r
  BringsLast file identity r (job.Session was) (job.Call now) stop fault h = ⊤
  BringsLast file identity r (job.Call was) (job.Session now) stop fault h = ⊤
  BringsLast file identity r (job.Call was) (job.Call now) stop fault h = ⊤

  module _ (r : Register) (faults : ℕ) (new : View) (olds news : List (Job R W)) where
    -- a list of jobs was run from the register on, with this result
    abbrev pub RunsFrom : {T : Type 0} → Result T RunFault → Type 0
    RunsFrom result = Runs remaining contents book (beginning r faults) new olds news result

    -- all its changes: those of the jobs that were done, and of the job in which it ended
    abbrev pub changes_in : {T : Type 0} (result : Result T RunFault) → RunsFrom result → List Change
    changes_in (Ok x) run = changes_of r run.entries
    changes_in (Err fault) run = changes_of r run.entries ++ run.stop.changes

    -- the least number of changes before the last answer of which an octet is out
    abbrev pub answered_in : {T : Type 0} (result : Result T RunFault) → RunsFrom result → ℕ
    answered_in (Ok x) run = length (changes_of r run.entries)
    answered_in (Err fault) run = length (changes_of r run.entries) + run.stop.answered

    -- each Restart position that its sessions answer was kept
    abbrev pub CountsIn : {T : Type 0} (result : Result T RunFault) → RunsFrom result → Type 0
    CountsIn (Ok x) run = AllAreKept r run.entries
    CountsIn (Err fault) run = AllAreKept r run.entries × LastIsKept (after_jobs r run.entries) run.was run.now run.stop fault run.stops

    -- its sessions bring parts of the file
    abbrev pub BringsIn : File → Identity → {T : Type 0} (result : Result T RunFault) → RunsFrom result → Type 0
    BringsIn file identity (Ok x) run = BringAll file identity r run.entries
    BringsIn file identity (Err fault) run =
        BringAll file identity r run.entries × BringsLast file identity (after_jobs r run.entries) run.was run.now run.stop fault run.stops

    -- A list of jobs over the database of r. A crash leaves r after a prefix of the changes of all jobs, with each that was answered. Each
    -- Restart position that a session answers was kept. If its sessions bring parts of a file, a crash leaves nothing of it, a beginning, or
    -- the whole file.
    pub record ListLeaves (limits : Limits) (s : State) {T : Type 0} (result : Result T RunFault) : Type 0 where
      pub run : RunsFrom result
      pub left : LeavesPrefix limits s r (changes_in result run) (answered_in result run)
      pub counts : CountsIn result run
      pub parts : (file : File) (identity : Identity) → IsSoFar file (in_at r identity) → BringsIn file identity result run → LeavesSoFar file identity s

-- a list of jobs over the database of r, which is the one of this office now
abbrev pub ListLeavesOver : {S R W T : Type 0} (g : Ghosts S) → (R → Option (List ℕ)) → (W → Option (List ℕ)) → BookData → Register → ℕ → SqlOffice S g
    → (olds news : List (Job R W)) → Result T RunFault → Type 0
ListLeavesOver g remaining contents book r faults now olds news result =
    ListLeaves remaining contents book r faults (shown g now) olds news (limits_of now) (database_of g now) result
