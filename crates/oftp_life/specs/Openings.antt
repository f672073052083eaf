-- What holds of the opening of a session, before any life knows of it.
use Rattle.std.specs.Prelude.{◌≡◌, ◌++◌, ◌⊎◌, ⊤, ℕ, List, [], Result, Ok, Err, IfOk}
use Rattle.oftp_partners.specs.Book.{BookData}
use Rattle.oftp_io.specs.declared.port.Port.{Port}
use Rattle.oftp_engine.specs.Conversation.{Dialogue}
use Rattle.oftp_engine.specs.Openings.{IsJudged, admission_of}
use Rattle.oftp_engine.specs.declared.serving.Admission.{Admission}
use Rattle.oftp_engine.specs.declared.serving.Admission.TheVariants.{Undecided}
use Rattle.oftp_engine.specs.declared.serving.RunFault.{RunFault}
use Rattle.oftp_engine.specs.declared.serving.RunFault.TheVariants as fault
use Rattle.oftp_life.specs.Outboxes.{contents_of, octets_out}
use Rattle.oftp_life.specs.declared.outbox.Outbox.{Outbox}

-- A caller was greeted, has sent these octets in all, and was judged by them. All that was said to it went into the box, which was empty.
pub record HasHeardOf (book : BookData) (octets : List ℕ) (out : Port Outbox) (dialogue : Dialogue) (admission : Admission) : Type 0 where
  pub front : Port Outbox
  pub nothing : octets_out front.inner ≡ []
  pub judged : IsJudged contents_of book octets dialogue front out admission

-- the same for an opening that wasn't cut short
abbrev pub IsOpening : BookData → List ℕ → Port Outbox → Dialogue → Result Admission RunFault → Type 0
IsOpening book octets out dialogue (Ok admission) = HasHeardOf book octets out dialogue admission
IsOpening book octets out dialogue (Err fault) = ⊤

-- what a caller amounts to that has sent nothing, after its greeting had this result
abbrev pub greeted_as : {T : Type 0} → Result T RunFault → Result Admission RunFault
greeted_as (Ok x) = Ok Undecided
greeted_as (Err fault) = Err fault

-- An opening as its callers see it: its book, the octets that it has heard, and those that it hands out. Also its conversation, and what the octets
-- amount to.
pub record OpeningData : Type 0 where
  pub book : BookData
  pub heard : List ℕ
  pub out : Port Outbox
  pub dialogue : Dialogue
  pub stage : Result Admission RunFault

-- the same of a caller that was let in
pub record GuestData : Type 0 where
  pub book : BookData
  pub heard : List ℕ
  pub out : Port Outbox
  pub dialogue : Dialogue

-- the guest that an opening becomes whose caller was let in
abbrev pub guest_from : OpeningData → GuestData
guest_from o = record { book = o.book; heard = o.heard; out = o.out; dialogue = o.dialogue }

-- the octets that an opening has heard decide, in whatever pieces they came
abbrev pub IsVerdict : OpeningData → Result Admission RunFault → Type 0
IsVerdict o result = IfOk result (λ admission. admission ≡ admission_of o.book o.heard)

-- nothing of an opening is changed but the octets that it hands out
abbrev pub IsSameOpening : OpeningData → OpeningData → Type 0
IsSameOpening old new = (new.book ≡ old.book) × (new.heard ≡ old.heard) × (new.stage ≡ old.stage) × (new.dialogue ≡ old.dialogue)

-- an opening heard these octets too, and this is what all of them amount to
pub record HeardOn (old new : OpeningData) (octets : List ℕ) (result : Result Admission RunFault) : Type 0 where
  pub heard : new.heard ≡ old.heard ++ octets
  pub stage : new.stage ≡ result
  pub book : new.book ≡ old.book

-- it did that; or there was no room for the octets, and it is as it was
abbrev pub HeardOrNot : OpeningData → OpeningData → List ℕ → Result Admission RunFault → Type 0
HeardOrNot old new octets result = HeardOn old new octets result ⊎ ((new ≡ old) × (result ≡ Err fault.Memory))
