-- Inside: one job of a list, for the functions of src/running.rt.
use Rattle.std.specs.Prelude.{◌≡◌, ℕ, ⊤, List, Option, Result, Ok, Err}
use Rattle.oftp_partners.specs.Book.{BookData}
use Rattle.oftp_register.specs.Changes.{apply_all}
use Rattle.oftp_register.specs.Offices.{View}
use Rattle.oftp_engine.specs.declared.running.Job.{Job}
use Rattle.oftp_engine.specs.declared.serving.RunFault.{RunFault}
use Rattle.oftp_engine.specs.declared.serving.RunFault.TheVariants as fault
use Rattle.oftp_engine.specs.Jobs.{Entry, Stop, JobDone, JobStops, LeavesSome, EndsWith, share_of}
use Rattle.oftp_engine.specs.Serving.{OnCleanStore}

-- an error of a job's ports doesn't end its list
abbrev pub IsListResult : {T U : Type 0} → Result T RunFault → Result U RunFault → Type 0
IsListResult (Ok x) (Ok y) = ⊤
IsListResult (Ok x) (Err told) = ⊥
IsListResult (Err fault.Read) (Ok y) = ⊤
IsListResult (Err fault.Read) (Err told) = ⊥
IsListResult (Err fault.Write) (Ok y) = ⊤
IsListResult (Err fault.Write) (Err told) = ⊥
IsListResult (Err fault.Office) (Ok y) = ⊥
IsListResult (Err fault.Office) (Err told) = told ≡ fault.Office
IsListResult (Err fault.Memory) (Ok y) = ⊥
IsListResult (Err fault.Memory) (Err told) = told ≡ fault.Memory

module _ {R W : Type 0} (remaining : R → Option (List ℕ)) (contents : W → Option (List ℕ)) (book : BookData) where
  -- one job is done
  pub record IsJobDone (old new : View) (before after : Job R W) : Type 0 where
    pub entry : Entry
    pub done : JobDone remaining contents book old.register entry before after
    pub register : new.register ≡ (share_of old.register entry).register
    pub replay : apply_all old.register (share_of old.register entry).changes ≡ Ok new.register
    pub stands : new.stands
    pub faults : new.told ≡ old.told

  -- one job was cut short
  pub record IsJobStopped (old new : View) (before after : Job R W) (fault : RunFault) : Type 0 where
    pub stop : Stop
    pub stops : JobStops remaining contents book old.register before after stop fault
    pub leaves : LeavesSome stop.changes stop.answered stop.made old.register new
    pub ends : EndsWith old.told new fault

  abbrev pub DoesJob : {T : Type 0} → View → View → Job R W → Job R W → Result T RunFault → Type 0
  DoesJob old new before after (Ok x) = IsJobDone old new before after
  DoesJob old new before after (Err fault) = IsJobStopped old new before after fault

  -- the same on a clean store
  abbrev pub TriesJob : {T : Type 0} → View → View → Job R W → Job R W → Result T RunFault → Type 0
  TriesJob old new before after result = OnCleanStore old new (DoesJob old new before after result)
