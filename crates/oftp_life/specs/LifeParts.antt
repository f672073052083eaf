-- Files that come in parts, in the sessions of a life.
use Rattle.std.specs.Prelude.{ℕ, ⊤, List, [], ◌∷◌, Option}
use Rattle.std.proofs.Common.{inl, inr}
use Rattle.oftp_register.specs.declared.change.Change.{Change}
use Rattle.oftp_register.specs.declared.entry.Identity.{Identity}
use Rattle.oftp_register.specs.ByIdentity.{in_at}
use Rattle.oftp_register.specs.Offices.{View}
use Rattle.oftp_register.specs.Register.{Register}
use Rattle.oftp_session.specs.Settings.{Setting}
use Rattle.oftp_engine.specs.Parts.{BringsParts, File, IsSoFar, SessionData}
use Rattle.oftp_life.specs.Acts.{Act, Conversed, Ordered}
use Rattle.oftp_life.specs.Lives.{LifeLeaves}
use Rattle.oftp_life.specs.Reaches.{Covers, Reaches}

-- a session over these octets, whose writer had taken this many octets when it returned an error, if it did
abbrev pub session_over : Setting → List ℕ → Option ℕ → SessionData
session_over setting given stop = record { setting = setting; limit = stop; stream = given }

-- an act from this register: a session has to bring parts of the file, wherever it breaks
abbrev pub MayAct : File → Identity → Act → Register → Type 0
MayAct file identity (Conversed setting heard said) r = (stop : Option ℕ) → BringsParts file identity (session_over setting heard stop) r
MayAct file identity (Ordered book call) r = ⊤

-- all acts, each from the register that those before it led to
abbrev pub BringSo : File → Identity → (first : Register) (acts : List Act) (changes : List Change) (now : Register) → Reaches first acts changes now → Type 0
BringSo file identity first [] changes now h = ⊤
BringSo file identity first (act ∷ acts) changes now h = BringSo file identity first acts h.before h.at h.reached × MayAct file identity act h.at

-- the same where the last act may have been cut short
abbrev pub BringAll : File → Identity → (first : Register) (acts : List Act) (changes : List Change) (least : ℕ) → Covers first acts changes least → Type 0
BringAll file identity first acts changes least (inl all) = BringSo file identity first acts changes all.0 all.1
BringAll file identity first acts changes least (inr cut) = BringSo file identity first cut.earlier cut.before cut.at cut.reached × MayAct file identity cut.last cut.at

-- Each content that a crash may leave now has nothing of the file, or a beginning of its rows. Or it has the file as one transfer gives it.
abbrev pub CrashLeavesSoFar : File → Identity → View → Type 0
CrashLeavesSoFar file identity now = (content : now.Content) → now.may_leave content → (r : Register) × now.holds content r × IsSoFar file (in_at r identity)

-- The sessions of these acts, which led from the first view to the second, bring parts of the file. So nothing else of it is left.
abbrev pub ActsMakeTheFile : File → Identity → View → List Act → View → Type 0
ActsMakeTheFile file identity first acts now = (h : LifeLeaves first.register acts now) → IsSoFar file (in_at first.register identity)
    → BringAll file identity first.register acts h.changes h.least h.covers → CrashLeavesSoFar file identity now
