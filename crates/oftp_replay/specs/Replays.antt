-- What a record determines: what was heard and asked, from a register on. And what a replay keeps of a life that was cut short.
use Rattle.std.specs.Prelude.{◌≡◌, ◌⊎◌, ◌+◌, ◌≤◌, ⊤, ℕ, List, [], ◌∷◌, ◌++◌, length, take}
use Rattle.std.proofs.Common.{inl, inr}
use Rattle.oftp_register.specs.declared.change.Change.{Change}
use Rattle.oftp_register.specs.Offices.{View}
use Rattle.oftp_register.specs.Register.{Register}
use Rattle.oftp_engine.specs.Jobs.{LeavesSome}
use Rattle.oftp_engine.specs.Runs.{Output, answered, octets_of}
use Rattle.oftp_engine.specs.Served.{whole}
use Rattle.oftp_engine.specs.Serving.{last_frame}
use Rattle.oftp_life.specs.Acts.{Act, Conversed, Ordered}
use Rattle.oftp_life.specs.Lives.{LifeLeaves}
use Rattle.oftp_life.specs.Reaches.{Covers, IsCut, Reaches}

-- a record has the same of two acts: they are sessions of one setting that heard the same octets, or the same call by the same book
abbrev pub IsSame : Act → Act → Type 0
IsSame (Conversed setting heard said) (Conversed setting' heard' said') = (setting ≡ setting') × (heard ≡ heard')
IsSame (Ordered book call) (Ordered book' call') = (book ≡ book') × (call ≡ call')
IsSame (Conversed setting heard said) (Ordered book call) = ⊥
IsSame (Ordered book call) (Conversed setting heard said) = ⊥

-- a record has the same of two lives, act by act
abbrev pub AreSame : List Act → List Act → Type 0
AreSame [] [] = ⊤
AreSame [] (b ∷ others) = ⊥
AreSame (a ∷ acts) [] = ⊥
AreSame (a ∷ acts) (b ∷ others) = AreSame acts others × IsSame a b

-- an act from this register that nothing cut short: a session has said all that it says over what it heard, and has made all its changes
abbrev pub HasRun : Act → Register → List Change → Type 0
HasRun (Conversed setting heard said) r changes = (said ≡ octets_of (whole setting heard r).outputs) × (changes ≡ (whole setting heard r).changes)
HasRun (Ordered book call) r changes = ⊤

-- the same of all acts, each from the register that those before it led to
abbrev pub HaveRun : (first : Register) (acts : List Act) (changes : List Change) (now : Register) → Reaches first acts changes now → Type 0
HaveRun first [] changes now h = ⊤
HaveRun first (act ∷ acts) changes now h = HaveRun first acts h.before h.at h.reached × HasRun act h.at h.more

-- two lives did the same: the same octets went out, and the same changes led to the same register
pub record AreAlike (acts others : List Act) (changes changes' : List Change) (now now' : Register) : Type 0 where
  pub same_acts : acts ≡ others
  pub same_changes : changes ≡ changes'
  pub same_register : now ≡ now'

-- what was heard and asked, from a register on, determines the octets that go out, the changes, and the register
abbrev pub RecordsDetermine : Type 0
RecordsDetermine = (first : Register) (acts others : List Act) (changes changes' : List Change) (now now' : Register)
    → (h : Reaches first acts changes now) → (k : Reaches first others changes' now') → AreSame acts others
    → HaveRun first acts changes now h → HaveRun first others changes' now' k → AreAlike acts others changes changes' now now'

-- a life that was cut short, and its replay

-- the octets that went out of a session
abbrev pub said_in : Act → List ℕ
said_in (Conversed setting heard said) = said
said_in (Ordered book call) = []

-- what a session says from this register if nothing cuts it short
abbrev pub outputs_in : Act → Register → List Output
outputs_in (Conversed setting heard said) r = (whole setting heard r).outputs
outputs_in (Ordered book call) r = []

-- the replay of an act went as far: nothing cut either short, or it was cut where as many octets had gone out and as many changes were made
abbrev pub IsEven : (act again : Act) (r s : Register) (made remade : List Change) → Type 0
IsEven act again r s made remade = (HasRun act r made × HasRun again s remade) ⊎ ((length (said_in act) ≡ length (said_in again)) × (length made ≡ length remade))

-- the same of all acts
abbrev pub AreEven : (first : Register) (acts others : List Act) (changes changes' : List Change) (now now' : Register)
    → Reaches first acts changes now → Reaches first others changes' now' → Type 0
AreEven first [] others changes changes' now now' h k = ⊤
AreEven first (act ∷ acts) [] changes changes' now now' h k = ⊤
AreEven first (act ∷ acts) (again ∷ others) changes changes' now now' h k =
    AreEven first acts others h.before k.before h.at k.at h.reached k.reached × IsEven act again h.at k.at h.more k.more

-- the same of all acts but the last, wherever that was cut short
abbrev pub AreEvenBefore : (first : Register) (last again : Act) (acts others : List Act) (changes changes' : List Change) (least : ℕ) (now' : Register)
    → Covers first (last ∷ acts) changes least → Reaches first (again ∷ others) changes' now' → Type 0
AreEvenBefore first last again acts others changes changes' least now' (inl done) k =
    AreEven first acts others done.1.before k.before done.1.at k.at done.1.reached k.reached
AreEvenBefore first last again acts others changes changes' least now' (inr cut) k =
    AreEven first cut.earlier others cut.before k.before cut.at k.at cut.reached k.reached

-- Before the last act the same octets went out of the station and of its replay. Of the octets of the replay's last act the first `out` went out
-- of the station, and behind them nothing, or ESID 08 or a beginning of it after an error of the office. The station's changes are a
-- beginning of the replay's. A crash leaves the register of the replay after some of its changes: at least those before the last answer of
-- which an octet went out of the station.
pub record ReplayKeeps (first : Register) (last again : Act) (acts others : List Act) (before changes : List Change) (at : Register) (station : View)
    (life : LifeLeaves first (last ∷ acts) station) : Type 0 where
  pub same : acts ≡ others
  pub out : ℕ
  pub closing : ℕ
  pub said : said_in last ≡ take out (said_in again) ++ take closing last_frame
  pub ended : (closing ≡ 0) ⊎ IsCut first (last ∷ acts) life.changes life.least
  pub later : List Change
  pub begins : changes ≡ life.changes ++ later
  pub answers : length before + answered (outputs_in again at) out ≤ life.least
  pub left : LeavesSome changes life.least life.made first station

-- A station's last act was cut short anywhere. The replay of its record from the same register went as far in each act before, and nothing cut
-- its last one short. Then the replay keeps what the station did.
abbrev pub RecordsKeep : View → Type 0
RecordsKeep station = (first : Register) (last again : Act) (acts others : List Act) (changes : List Change) (now : Register)
    → (life : LifeLeaves first (last ∷ acts) station) → (k : Reaches first (again ∷ others) changes now) → AreSame (last ∷ acts) (again ∷ others)
    → AreEvenBefore first last again acts others life.changes changes life.least now life.covers k → HasRun again k.at k.more
    → ReplayKeeps first last again acts others k.before changes k.at station life
