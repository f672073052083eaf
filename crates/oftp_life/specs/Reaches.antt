-- The changes that a life made, and the register that they lead to.
use Rattle.std.specs.Prelude.{◌≡◌, ℕ, ◌+◌, ◌≤◌, ◌⊎◌, List, [], ◌∷◌, ◌++◌, length, take, Option, None, Some, Ok}
use Rattle.oftp_partners.specs.Book.{BookData}
use Rattle.oftp_register.specs.declared.change.Change.{Change}
use Rattle.oftp_register.specs.Register.{Register}
use Rattle.oftp_register.specs.Changes.{apply_all}
use Rattle.oftp_session.specs.Settings.{Setting}
use Rattle.oftp_engine.specs.declared.operating.Operator.{Operator}
use Rattle.oftp_engine.specs.Jobs.{Stop}
use Rattle.oftp_engine.specs.Operating.{Deed, IsDeed}
use Rattle.oftp_engine.specs.Runs.{Output, answered, octets_of, run, started, with_change}
use Rattle.oftp_engine.specs.Served.{StopsBetween, StopsWithin, whole}
use Rattle.oftp_engine.specs.Serving.{last_frame}
use Rattle.oftp_life.specs.Acts.{Act, Conversed, Ordered}

-- those of these octets that a writer had taken when it returned an error after this many of them, if it did
abbrev pub taken_until : Option ℕ → List ℕ → List ℕ
taken_until None octets = octets
taken_until (Some count) octets = take count octets

-- a session's run over these octets, to the octet at which its writer returned an error if it did
pub record RunsTo (setting : Setting) (heard said : List ℕ) (r : Register) (changes : List Change) : Type 0 where
  pub stop : Option ℕ
  pub are : changes ≡ (run stop heard (started setting r)).changes
  pub out : said ≡ taken_until stop (octets_of (run stop heard (started setting r)).outputs)

-- a session for which there was no memory, between two of its steps, or that was left there; each change that it answered is made
pub record IsShort (setting : Setting) (heard said : List ℕ) (r : Register) (changes : List Change) : Type 0 where
  pub outs : List Output
  pub made : ℕ
  pub stopped : StopsBetween setting heard r outs made
  pub are : changes ≡ take made (whole setting heard r).changes
  pub kept : answered outs (length (octets_of outs)) ≤ length changes
  pub out : said ≡ octets_of outs

-- a session of this setting heard and said these octets, and made these changes, all of them accepted
pub record SessionMakes (setting : Setting) (heard said : List ℕ) (r : Register) (changes : List Change) (after : Register) : Type 0 where
  pub how : RunsTo setting heard said r changes ⊎ IsShort setting heard said r changes
  pub replay : apply_all r changes ≡ Ok after

-- an operator's call made this change, or none
pub record CallMakes (book : BookData) (call : Operator) (r : Register) (changes : List Change) (after : Register) : Type 0 where
  pub deed : Deed
  pub is : IsDeed book r call deed
  pub are : changes ≡ with_change [] deed.change
  pub replay : apply_all r changes ≡ Ok after

abbrev pub ActMakes : Act → Register → List Change → Register → Type 0
ActMakes (Conversed setting heard said) r changes after = SessionMakes setting heard said r changes after
ActMakes (Ordered book call) r changes after = CallMakes book call r changes after

-- one more act, after those of which `Before` speaks
pub record Behind (Before : List Change → Register → Type 0) (act : Act) (changes : List Change) (now : Register) : Type 0 where
  pub before : List Change
  pub at : Register
  pub reached : Before before at
  pub more : List Change
  pub makes : ActMakes act at more now
  pub all : changes ≡ before ++ more

-- all acts are done, one after another: these are all their changes, and the register after them
abbrev pub Reaches : Register → List Act → List Change → Register → Type 0
Reaches first [] changes now = (changes ≡ []) × (now ≡ first)
Reaches first (act ∷ acts) changes now = Behind (Reaches first acts) act changes now

-- The office returned an error within a session. These outputs of it are out, whole, and after them ESID 08 or a beginning of it; and it
-- stopped within the step after them.
pub record SessionStops (setting : Setting) (heard said : List ℕ) (r : Register) (stop : Stop) : Type 0 where
  pub outs : List Output
  pub later : List Output
  pub outputs : (whole setting heard r).outputs ≡ outs ++ later
  pub closing : ℕ
  pub out : said ≡ octets_of outs ++ take closing last_frame
  pub changes : stop.changes ≡ (whole setting heard r).changes
  pub least : stop.answered ≡ answered outs (length (octets_of outs))
  pub stopped : StopsWithin setting heard r outs stop.made

-- the office returned an error within an operator's call, of which nothing is out
pub record CallStops (book : BookData) (call : Operator) (r : Register) (stop : Stop) : Type 0 where
  pub deed : Deed
  pub is : IsDeed book r call deed
  pub changes : stop.changes ≡ with_change [] deed.change
  pub least : stop.answered ≡ 0

abbrev pub ActStops : Act → Register → Stop → Type 0
ActStops (Conversed setting heard said) r stop = SessionStops setting heard said r stop
ActStops (Ordered book call) r stop = CallStops book call r stop

-- The office returned an error within the last act. These are all changes of the acts before it, and then its own. The first `least` of
-- them come before an answer of which one octet is out.
pub record IsCut (first : Register) (acts : List Act) (changes : List Change) (least : ℕ) : Type 0 where
  pub last : Act
  pub earlier : List Act
  pub are : acts ≡ last ∷ earlier
  pub before : List Change
  pub at : Register
  pub reached : Reaches first earlier before at
  pub stop : Stop
  pub stops : ActStops last at stop
  pub all : changes ≡ before ++ stop.changes
  pub count : least ≡ length before + stop.answered

-- These are the changes of all acts. All of them are done, or the last was cut short by an error of the office.
abbrev pub Covers : Register → List Act → List Change → ℕ → Type 0
Covers first acts changes least = ((now : Register) × Reaches first acts changes now × (least ≡ length changes)) ⊎ IsCut first acts changes least
