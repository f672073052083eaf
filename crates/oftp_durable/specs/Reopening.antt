-- The office that is opened over a database after a crash.
use Rattle.std.specs.Prelude.{◌≡◌, ℕ, ◌≤◌, List, length, take, Ok}
use Rattle.sqlite.specs.State.{State}
use Rattle.oftp_vfile.specs.declared.limits.Limits.{Limits}
use Rattle.oftp_register.specs.declared.change.Change.{Change}
use Rattle.oftp_register.specs.Changes.{apply_all}
use Rattle.oftp_register.specs.Register.{Register}
use Rattle.oftp_durable.specs.Headline.{LeavesAlone}

-- the office has r after the first n of these changes, all of them made, and n is at least `low`. A crash leaves its tables and
-- nothing else.
pub record IsReopened (limits : Limits) (s : State) (r : Register) (changes : List Change) (low : ℕ) : Type 0 where
  pub count : ℕ
  pub least : low ≤ count
  pub most : count ≤ length changes
  pub register : Register
  pub replay : apply_all r (take count changes) ≡ Ok register
  pub left : LeavesAlone limits s register
