-- How far a session is in its run: its course, and the octets that are unread.
use Rattle.std.specs.Prelude.{◌≡◌, ℕ, ◌≤◌, false, List, [], ◌∷◌, ◌++◌, length, Option, Ok}
use Rattle.oftp_register.specs.declared.change.Change.{Change}
use Rattle.oftp_register.specs.Register.{Register}
use Rattle.oftp_register.specs.Changes.{apply_all}
use Rattle.oftp_session.specs.Steps.{Suits}
use Rattle.oftp_session.specs.Calls.{Seen, Stands}
use Rattle.oftp_session.specs.Recalling.{Recalls}
use Rattle.oftp_engine.specs.Runs.{Course, Output, run, is_stopped, octets_of}
use Rattle.oftp_engine.specs.Serving.{Scene, Took}

-- each output comes after at most this many changes
abbrev pub Counted : ℕ → List Output → Type 0
Counted most [] = Unit {0}
Counted most (o ∷ outputs) = (o.after ≤ most) × Counted most outputs

-- the register is the one after the changes, from r on, all of them made, and suits the phase
pub record Sound (r : Register) (c : Course) : Type 0 where
  pub replay : apply_all r c.changes ≡ Ok c.register
  pub counted : Counted (length c.changes) c.outputs
  pub suits : Suits c.phase c.register

-- d comes later in a run than c
pub record Grows (c d : Course) : Type 0 where
  pub later_outputs : List Output
  pub outputs : d.outputs ≡ c.outputs ++ later_outputs
  pub later_changes : List Change
  pub changes : d.changes ≡ c.changes ++ later_changes
  pub sound : (r : Register) → Sound r c → Sound r d

-- the run from c over the octets s reaches d with t unread, the end of s, whatever octets follow
pub record Leads (c : Course) (s : List ℕ) (d : Course) (t : List ℕ) : Type 0 where
  pub grows : Grows c d
  pub same : (more : List ℕ) (limit : Option ℕ) → is_stopped limit d ≡ false → run limit (s ++ more) c ≡ run limit (t ++ more) d
  pub gone : List ℕ
  pub split : s ≡ gone ++ t

-- a session is in the state of a course, and what it remembers of the register is true
pub record IsAt (c : Course) (seen : Seen) (scene : Scene) : Type 0 where
  pub setting : seen.setting ≡ c.setting
  pub stands : Stands c.phase seen
  pub recalls : Recalls seen c.register
  pub register : scene.office.register ≡ c.register
  pub suits : Suits c.phase c.register

-- the engine went from c over the octets s to d with t unread, and the outputs between them are out
pub record Went (c : Course) (s : List ℕ) (d : Course) (t : List ℕ) (old new : Scene) : Type 0 where
  pub leads : Leads c s d t
  pub between : List ℕ
  pub outputs : octets_of d.outputs ≡ octets_of c.outputs ++ between
  pub took : Took old new between
  pub stands : old.office.stands → new.office.stands
  pub faults : new.office.told ≡ old.office.told
  pub told : new.told ≡ old.told

-- the engine went to some course with t unread, and the session is in the state of that course
pub record Comes (c : Course) (s t : List ℕ) (seen : Seen) (old new : Scene) : Type 0 where
  pub at : Course
  pub went : Went c s at t old new
  pub now : IsAt at seen new
