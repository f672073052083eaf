-- The ranges of the fields that a session sends of a book and of a register (RFC 5024, section 5.3).
use Rattle.std.specs.Prelude.{◌≡◌, ℕ, ◌<◌, ◌≤◌, ⊤, List, length, take, All, IfSome, Option, Ok}
use Rattle.std.specs.Str.{IsUtf8}
use Rattle.oftp_wire.specs.Octets.{IsDigits, IsName}
use Rattle.oftp_vfile.specs.declared.limits.Limits.{Limits}
use Rattle.oftp_partners.specs.Book.{BookData, IsBook, IsPartner}
use Rattle.oftp_register.specs.declared.entry.Identity.{Identity}
use Rattle.oftp_register.specs.Register.{Register, Incoming, Issued, Outgoing, empty}
use Rattle.oftp_register.specs.Changes.{apply_all}
use Rattle.oftp_register.specs.Soundness.{IsSound}
use Rattle.oftp_session.specs.Calls.{Makes}
use Rattle.oftp_session.specs.Settings.{Setting}
use Rattle.oftp_engine.specs.declared.limits.TheConstants.{LONGEST_TEXT}
use Rattle.oftp_engine.specs.declared.operating.Operator.{Operator}
use Rattle.oftp_engine.specs.declared.operating.Operator.TheVariants as operator
use Rattle.oftp_engine.specs.Operating.{Deed, IsDeed}
use Rattle.oftp_engine.specs.Runs.{run, started}

-- the identity of a file
pub record IsIdentity (identity : Identity) : Type 0 where
  pub dataset : IsName 26 identity.dataset
  pub date : IsDigits 8 identity.date
  pub time : IsDigits 10 identity.time
  pub originator : IsName 25 identity.originator
  pub destination : IsName 25 identity.destination

-- a description, or the text of a response
abbrev pub AreWords : List ℕ → Type 0
AreWords text = (length text ≤ LONGEST_TEXT) × IsUtf8 text

-- a response that was issued
pub record IsSpellableAnswer (response : Issued) : Type 0 where
  pub reason : response.reason < 100
  pub text : AreWords response.text

-- the responses of an incoming file send its identity; SFID of an outgoing file sends its description too
pub record IsSpellableIncoming (f : Incoming) : Type 0 where
  pub identity : IsIdentity f.identity
  pub response : IfSome f.response IsSpellableAnswer

pub record IsSpellableOutgoing (f : Outgoing) : Type 0 where
  pub identity : IsIdentity f.identity
  pub description : AreWords f.description

-- what a session sends of a register is in its ranges
pub record IsSpellable (r : Register) : Type 0 where
  pub incoming : All IsSpellableIncoming r.incoming
  pub outgoing : All IsSpellableOutgoing r.outgoing

-- A session begins with a book and the partner that it calls, as they are read from a file. Its register is sound and in its ranges.
pub record StartsInRange (setting : Setting) (r : Register) : Type 0 where
  pub book : IsBook setting.book
  pub called : IfSome setting.called IsPartner
  pub sound : IsSound r
  pub spellable : IsSpellable r

-- the texts of an operator's call are UTF-8
abbrev pub HasWords : Operator → Type 0
HasWords (operator.Submit submission) = IsUtf8 submission.description.now
HasWords (operator.Release n) = ⊤
HasWords (operator.Refuse n reason text) = IsUtf8 text.now

-- Each register of a station is in its ranges. These are the first one, those after a session's changes, wherever it stops, and
-- those after an operator's calls.
pub record RangesAreKept : Type 0 where
  pub first : (limits : Limits) → IsSpellable (empty limits)
  pub sessions : (limit : Option ℕ) (setting : Setting) (given : List ℕ) (r s : Register) (n : ℕ) → StartsInRange setting r
      → apply_all r (take n (run limit given (started setting r)).changes) ≡ Ok s → IsSpellable s
  pub calls : (book : BookData) (r s : Register) (call : Operator) (deed : Deed) → IsBook book → IsSpellable r → HasWords call → IsDeed book r call deed
      → Makes deed.change r s → IsSpellable s
