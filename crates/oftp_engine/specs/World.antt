-- Two stations, and the commands on their way between them.
use Rattle.std.specs.Prelude.{◌≡◌, ℕ, ◌&&◌, Bool, true, false, nat_le, if◌then◌else◌, List, [], ◌∷◌, ◌++◌, length, take, fold, Option, None, Some, is_some, Ok}
use Rattle.std.specs.Result.{result_unwrap_or}
use Rattle.std.specs.Str.{bytes_eq}
use Rattle.oftp_wire.specs.declared.command.Command.{Command}
use Rattle.oftp_partners.specs.Book.{BookData}
use Rattle.oftp_partners.specs.declared.partner.Partner.{Partner}
use Rattle.oftp_register.specs.declared.change.Change.{Change}
use Rattle.oftp_register.specs.declared.change.Change.TheVariants.{Submit, Issue}
use Rattle.oftp_register.specs.declared.entry.Identity.{Identity}
use Rattle.oftp_register.specs.Register.{Register}
use Rattle.oftp_register.specs.ByIdentity.{in_at, out_at}
use Rattle.oftp_register.specs.Changes.{apply, apply_all}
use Rattle.oftp_register.specs.Soundness.{IsFit, IsSound}
use Rattle.oftp_wire.specs.declared.reason.SessionReason.TheVariants.{ResourcesNotAvailable}
use Rattle.oftp_session.specs.Phases.{Step, esid_of, is_over, register_after}
use Rattle.oftp_session.specs.Steps.{came, turned}
use Rattle.oftp_engine.specs.declared.operating.Operator.{Operator}
use Rattle.oftp_engine.specs.Operating.{Deed, IsDeed}
use Rattle.oftp_engine.specs.Runs.{Course, Output, started, advance, answered, octets_of}

-- A station: its book and its entry for the other station, and the register that its last session left. Also its session if it has one, and
-- the commands that are on their way to it.
pub record Station : Type 0 where
  pub book : BookData
  pub partner : Partner
  pub start : Register
  pub session : Option Course
  pub coming : List Command

-- the register of a station now
abbrev pub register_in : Register → Option Course → Register
register_in start None = start
register_in start (Some c) = c.register

abbrev pub register_of : Station → Register
register_of s = register_in s.start s.session

-- its session ends, and what was on its way to it is lost
abbrev pub stopped_with : Station → Register → Station
stopped_with s r = record s { start = r; session = None; coming = [] }

abbrev pub with_course : Station → Course → Station
with_course s c = if is_over c.phase then stopped_with s c.register else record s { session = Some c }

-- a command that goes to a station; it is lost where there is no session
abbrev pub told : Station → Option Command → Station
told s None = s
told s (Some command) = if is_some s.session then record s { coming = s.coming ++ command ∷ [] } else s

-- one station and the other
pub record World : Type 0 where
  pub one : Station
  pub other : Station

abbrev pub turned_round : World → World
turned_round w = record { one = w.other; other = w.one }

-- a step of a station, whose output goes to the other
abbrev pub stepped : World → Course → Step → World
stepped w c s = record { one = with_course w.one (advance c s); other = told w.other s.output }

-- What a crash leaves: the register after a prefix of the changes of the session. All octets of these outputs are out, so the changes that
-- they answered are among them.
abbrev pub latest : List Output → ℕ
latest outputs = answered outputs (length (octets_of outputs))

abbrev pub left_after : Register → Course → ℕ → Register
left_after start c n = result_unwrap_or (apply_all start (take n c.changes)) c.register

-- a crash may leave this many changes of a session of which these outputs are out
abbrev pub may_stop : Course → List Output → ℕ → Bool
may_stop c out n = nat_le (latest out) n && nat_le n (length c.changes)

-- the station crashes there
abbrev pub stops_at : World → Course → List Output → ℕ → World
stops_at w c out n = if may_stop c out n then record w { one = stopped_with w.one (left_after w.one.start c n) } else w

-- its office returns an error there: the session ends, and ESID 08 goes to the other station
abbrev pub fails_at : World → Course → List Output → ℕ → World
fails_at w c out n = if may_stop c out n
    then record { one = stopped_with w.one (left_after w.one.start c n); other = told w.other (Some (esid_of ResourcesNotAvailable)) }
    else w

-- the next step of the one station in a session: the turn that is due, or the next command
pub data Doing : Type 0 where
  TakesTurn : Doing
  TakesCommand : Doing

abbrev pub step_of : Course → Doing → List Command → Option Step
step_of c TakesTurn coming = Some (turned c.setting c.phase c.register)
step_of c TakesCommand [] = None
step_of c TakesCommand (command ∷ coming) = Some (came c.setting c.phase c.register command)

abbrev pub left_of : Doing → List Command → List Command
left_of TakesTurn coming = coming
left_of TakesCommand [] = []
left_of TakesCommand (command ∷ coming) = coming

-- an operator's call, and what it does by each book and of each register, as for `operate` (specs/Operating.antt)
pub record Order : Type 0 where
  pub call : Operator
  pub deed : BookData → Register → Deed
  pub is : (book : BookData) (r : Register) → IsDeed book r call (deed book r)

-- a change that no session makes: submitting a file, to anyone, or issuing a response to an incoming file
abbrev pub is_ordered : Change → Bool
is_ordered (Submit identity format longest description rows) = true
is_ordered (Issue n kind reason text) = true
is_ordered _ = false

-- such a change by another caller of the office, with any identity and texts that fit, as `commit` asks
pub record Alteration : Type 0 where
  pub change : Change
  pub ordered : is_ordered change ≡ true
  pub fit : (r : Register) → IsFit r change

-- changes in order, each of which is made and leaves a sound register
abbrev pub AreMade : Register → List Change → Register → Type 0
AreMade r [] s = s ≡ r
AreMade r (change ∷ changes) s = (next : Register) × (apply r change ≡ Ok next) × IsSound next × AreMade next changes s

-- Any changes are made between two registers. Each file for the partner of this code, and each from it, is as it was.
pub record LeavesFilesOf (code : List ℕ) (r s : Register) : Type 0 where
  pub changes : List Change
  pub made : AreMade r changes s
  pub outgoing : (identity : Identity) → identity.destination ≡ code → out_at s identity ≡ out_at r identity
  pub incoming : (identity : Identity) → identity.originator ≡ code → in_at s identity ≡ in_at r identity

-- What a station does with others than the partner of this code: the register that it leaves, of each register. It may be one session with
-- a third partner, whose program may be any, or several sessions.
pub record Dealings : Type 0 where
  pub without : List ℕ
  pub left : Register → Register
  pub is : (r : Register) → IsSound r → LeavesFilesOf without r (left r)

-- What happens at one station. It makes a step, loses the connection, or crashes between steps or within one. It ends the session at an
-- error of its office within a step, does an operator's call, or has its office changed by another caller. It calls the other, or deals
-- with others. A crash, or an error of the office, leaves a number of the session's changes.
pub data Happening : Type 0 where
  Does : Doing → Happening
  Breaks : Happening
  Stops : (changes : ℕ) → Happening
  StopsInStep : Doing → (changes : ℕ) → Happening
  FailsInStep : Doing → (changes : ℕ) → Happening
  Orders : Order → Happening
  Alters : Alteration → Happening
  Calls : Happening
  Deals : Dealings → Happening

-- what happens where the station has a session
abbrev pub does : World → Course → List Command → Option Step → World
does w c rest None = w
does w c rest (Some s) = stepped (record w { one = record w.one { coming = rest } }) c s

abbrev pub stops_within : World → Course → ℕ → Option Step → World
stops_within w c n None = w
stops_within w c n (Some s) = stops_at w (advance c s) c.outputs n

abbrev pub fails_within : World → Course → ℕ → Option Step → World
fails_within w c n None = w
fails_within w c n (Some s) = fails_at w (advance c s) c.outputs n

unfoldable pub in_session : World → Course → Happening → World
in_session w c (Does doing) = does w c (left_of doing w.one.coming) (step_of c doing w.one.coming)
in_session w c Breaks = record w { one = stopped_with w.one c.register }
in_session w c (Stops n) = stops_at w c c.outputs n
in_session w c (StopsInStep doing n) = stops_within w c n (step_of c doing w.one.coming)
in_session w c (FailsInStep doing n) = fails_within w c n (step_of c doing w.one.coming)
in_session w c (Orders order) = w
in_session w c (Alters alteration) = w
in_session w c Calls = w
in_session w c (Deals dealings) = w

-- both begin a session: the first one calls
abbrev pub begins : Station → Option Partner → Station
begins s called = record s { session = Some (started (record { book = s.book; called = called }) s.start); coming = [] }

abbrev pub calls : World → Option Course → World
calls w None = record { one = begins w.one (Some w.one.partner); other = begins w.other None }
calls w (Some c) = w

-- a change where there is no session, if there is one
abbrev pub changed_by : World → Option Change → World
changed_by w change = record w { one = record w.one { start = register_after w.one.start change } }

-- it deals with others, if these dealings are without the other station
abbrev pub dealt : World → Dealings → World
dealt w dealings = if bytes_eq dealings.without w.other.book.station.code then record w { one = record w.one { start = dealings.left w.one.start } } else w

-- what happens where it has none
unfoldable pub without_session : World → Happening → World
without_session w (Does doing) = w
without_session w Breaks = w
without_session w (Stops n) = w
without_session w (StopsInStep doing n) = w
without_session w (FailsInStep doing n) = w
without_session w (Orders order) = changed_by w (order.deed w.one.book w.one.start).change
without_session w (Alters alteration) = changed_by w (Some alteration.change)
without_session w Calls = calls w w.other.session
without_session w (Deals dealings) = dealt w dealings

abbrev pub happens_in : World → Happening → Option Course → World
happens_in w h (Some c) = in_session w c h
happens_in w h None = without_session w h

abbrev pub happens : World → Happening → World
happens w h = happens_in w h w.one.session

-- an event: what happens, and at which of the two stations
pub record Event : Type 0 where
  pub at_one : Bool
  pub happening : Happening

abbrev pub after_event : World → Event → World
after_event w e = if e.at_one then happens w e.happening else turned_round (happens (turned_round w) e.happening)

abbrev pub after_events : World → List Event → World
after_events w events = fold after_event w events
