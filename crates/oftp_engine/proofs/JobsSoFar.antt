-- How far a list of jobs is.
use Rattle.std.specs.Prelude.{◌≡◌, ℕ, List, length, take, drop, Option, Ok}
use Rattle.oftp_partners.specs.Book.{BookData}
use Rattle.oftp_register.specs.Changes.{apply_all}
use Rattle.oftp_register.specs.Offices.{View}
use Rattle.oftp_engine.specs.declared.running.Job.{Job}
use Rattle.oftp_engine.specs.Jobs.{Entry, JobsDone, after_jobs, changes_of}

module _ {R W : Type 0} (remaining : R → Option (List ℕ)) (contents : W → Option (List ℕ)) (book : BookData) where
  -- the first jobs are done, and the others are unchanged
  pub record IsRunning (old new : View) (olds news : List (Job R W)) (count : ℕ) : Type 0 where
    pub entries : List Entry
    pub done : JobsDone remaining contents book old.register entries (take count olds) (take count news)
    pub behind : drop count news ≡ drop count olds
    pub long : length news ≡ length olds
    pub register : new.register ≡ after_jobs old.register entries
    pub replay : apply_all old.register (changes_of old.register entries) ≡ Ok new.register
    pub stands : new.stands
    pub faults : new.told ≡ old.told
