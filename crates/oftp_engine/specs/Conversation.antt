-- A conversation is a session that gets octets in pieces. At each wait it has done the whole run over all octets heard so far.
use Rattle.std.specs.Prelude.{◌≡◌, ◌++◌, ⊤, false, ℕ, List, [], Option, None, Some, Result, Ok, Err}
use Rattle.oftp_codec.specs.Stream.{Stream}
use Rattle.oftp_register.specs.Offices.{View, Only}
use Rattle.oftp_register.specs.Soundness.{IsSound}
use Rattle.oftp_session.specs.Calls.{Seen, Stands}
use Rattle.oftp_session.specs.Phases.{ending_of, is_over}
use Rattle.oftp_session.specs.Settings.{Setting}
use Rattle.oftp_session.specs.Steps.{opening}
use Rattle.oftp_session.specs.declared.session.Ending.{Ending}
use Rattle.oftp_io.specs.declared.port.Port.{Port}
use Rattle.oftp_codec.specs.declared.limits.TheConstants.{LONGEST_FRAME}
use Rattle.oftp_engine.specs.declared.serving.Going.{Going}
use Rattle.oftp_engine.specs.declared.serving.Going.TheVariants as going
use Rattle.oftp_engine.specs.declared.serving.RunFault.{RunFault}
use Rattle.oftp_engine.specs.declared.serving.RunFault.TheVariants as fault
use Rattle.oftp_engine.specs.Runs.{started}
use Rattle.oftp_engine.specs.Serving.{Scene, scene}
use Rattle.oftp_engine.specs.Served.{IsOutOfMemory, IsWhole, ServesErr, whole}
use Rattle.oftp_engine.specs.Progress.{Comes}

-- a conversation as its caller sees it: the state of its session, and the stream of which a part may be unread
pub record Dialogue : Type 0 where
  pub seen : Seen
  pub stream : Stream

abbrev pub dialogue : Seen → Stream → Dialogue
dialogue seen stream = record { seen = seen; stream = stream }

-- it has heard nothing and made no step
pub record IsFresh (setting' : Setting) (talk : Dialogue) : Type 0 where
  pub setting : talk.seen.setting ≡ setting'
  pub stands : Stands (opening setting'.called) talk.seen
  pub rest : talk.stream.rest ≡ []
  pub limit : talk.stream.limit ≡ LONGEST_FRAME
  pub told : talk.stream.told ≡ None

-- it heard these octets, and nothing else of it changed
pub record HeardMore (old new : Dialogue) (octets : List ℕ) : Type 0 where
  pub seen : new.seen ≡ old.seen
  pub rest : new.stream.rest ≡ old.stream.rest ++ octets
  pub limit : new.stream.limit ≡ old.stream.limit
  pub told : new.stream.told ≡ old.stream.told

-- A conversation of this setting began at the scene `first`, where the office was open. It has heard these octets in all, in any pieces,
-- and has reached the scene `now`. Its session so far is the course `come.at`, and the rest of its stream is unread.
pub record HasHeard (setting : Setting) (given : List ℕ) (talk : Dialogue) (first now : Scene) : Type 0 where
  pub sound : IsSound first.office.register
  pub stood : first.office.stands
  pub come : Comes (started setting first.office.register) given talk.stream.rest talk.seen first now
  pub limit : talk.stream.limit ≡ LONGEST_FRAME
  pub told : talk.stream.told ≡ None

-- It waits for more octets. All outputs of the session over these octets are out, the register is that session's, and a crash leaves this
-- register and nothing else.
pub record Listens (setting : Setting) (given : List ℕ) (talk : Dialogue) (first now : Scene) : Type 0 where
  pub heard : HasHeard setting given talk first now
  pub all : IsWhole setting given first now
  pub live : is_over (whole setting given first.office.register).phase ≡ false

-- it has ended like this: all outputs are out and all changes made
pub record HasConcluded (setting : Setting) (given : List ℕ) (first now : Scene) (end : Ending) : Type 0 where
  pub all : IsWhole setting given first now
  pub ends : Some end ≡ ending_of (whole setting given first.office.register).phase

-- It sends a file, and goes on without more octets. It is between two of its steps. What is out, the register, and what a crash leaves are
-- what they are if memory runs out there.
pub record SendsOn (setting : Setting) (given : List ℕ) (talk : Dialogue) (first now : Scene) : Type 0 where
  pub heard : HasHeard setting given talk first now
  pub between : IsOutOfMemory setting given first now

-- what a conversation that returned this has done
abbrev pub ComesTo : Setting → List ℕ → Dialogue → Scene → Scene → Result (Option Ending) RunFault → Type 0
ComesTo setting given talk first now (Ok None) = Listens setting given talk first now
ComesTo setting given talk first now (Ok (Some end)) = HasConcluded setting given first now end
ComesTo setting given talk first now (Err fault) = ServesErr setting given first now fault

-- the same of a conversation that sends a file in parts
abbrev pub ComesSoFar : Setting → List ℕ → Dialogue → Scene → Scene → Result Going RunFault → Type 0
ComesSoFar setting given talk first now (Ok going.Waits) = Listens setting given talk first now
ComesSoFar setting given talk first now (Ok going.Sends) = SendsOn setting given talk first now
ComesSoFar setting given talk first now (Ok (going.Ended end)) = HasConcluded setting given first now end
ComesSoFar setting given talk first now (Err fault) = ServesErr setting given first now fault

module _ {O W : Type 0} (view : O → View) (contents : W → Option (List ℕ)) where
  -- on a clean store a call goes on with a conversation, whatever it has heard and wherever it began, and comes this far
  abbrev pub Continues : Dialogue → O → Port W → O → (Setting → List ℕ → Scene → Type 0) → Type 0
  Continues talk office writer after comes = (view after).clean → (first : O) (front : Port W) (setting : Setting) (given : List ℕ)
      → HasHeard setting given talk (scene contents (view first) front) (scene contents (view office) writer)
      → comes setting given (scene contents (view first) front)

-- an error that isn't the reader's
abbrev pub IsOwn : RunFault → Type 0
IsOwn fault.Read = ⊥
IsOwn fault.Write = ⊤
IsOwn fault.Office = ⊤
IsOwn fault.Memory = ⊤

-- Others used the office, and its view is the same. The view is the register, that it is open, its count of errors, and that a crash
-- leaves that register and nothing else. This holds after look-ups that returned no error.
pub record ShowsSame (old new : View) : Type 0 where
  pub register : new.register ≡ old.register
  pub stands : old.stands → new.stands
  pub told : new.told ≡ old.told
  pub left : Only old.register new

-- what it has heard goes on with the next octets
abbrev pub HearsOn : Setting → List ℕ → List ℕ → Dialogue → Dialogue → Scene → Scene → Type 0
HearsOn setting given octets old new first now = HasHeard setting given old first now → HeardMore old new octets → HasHeard setting (given ++ octets) new first now

-- it still waits after others have used the office
abbrev pub StillListens : Setting → List ℕ → Dialogue → Scene → Scene → View → Type 0
StillListens setting given talk first now later = ShowsSame now.office later
    → Listens setting given talk first now → Listens setting given talk first (record now { office = later })
