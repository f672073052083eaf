-- The opening of a session with a caller: the greeting, and the answer to its first command. It needs no register.
use Rattle.std.specs.Prelude.{◌≡◌, ◌++◌, false, ℕ, List, [], drop, Option, None, Some, Result, Ok, Err, IfOk}
use Rattle.oftp_codec.specs.Kinds.{command_of}
use Rattle.oftp_wire.specs.Reasons.{reason_of}
use Rattle.oftp_codec.specs.Stream.{Head, Whole, Waits, Bad, command_in, front}
use Rattle.oftp_wire.specs.declared.command.Command.{Command}
use Rattle.oftp_wire.specs.declared.command.Ssid.{Ssid}
use Rattle.oftp_wire.specs.declared.command.Command.TheVariants as command
use Rattle.oftp_wire.specs.declared.fault.WireFault.{WireFault}
use Rattle.oftp_wire.specs.declared.reason.SessionReason.TheVariants.{ProtocolViolation}
use Rattle.oftp_partners.specs.Book.{BookData}
use Rattle.oftp_register.specs.Offices.{View}
use Rattle.oftp_register.specs.Register.{Register}
use Rattle.oftp_session.specs.Callers.{greeting}
use Rattle.oftp_session.specs.Calls.{Seen, Stands}
use Rattle.oftp_session.specs.Opening.{Agreement, came_awaiting_ssid, ssid_verdict}
use Rattle.oftp_session.specs.Phases.{Phase, AwaitingSsid, Step, ending_of, fails, framed, is_over}
use Rattle.oftp_session.specs.Recalling.{Recalls}
use Rattle.oftp_session.specs.Settings.{Setting}
use Rattle.oftp_session.specs.declared.session.Ending.{Ending}
use Rattle.oftp_io.specs.declared.port.Port.{Port}
use Rattle.oftp_io.specs.Ports.{SentAll}
use Rattle.oftp_engine.specs.declared.serving.Admission.{Admission}
use Rattle.oftp_engine.specs.declared.serving.Admission.TheVariants.{LetIn, SentAway, Undecided}
use Rattle.oftp_codec.specs.declared.limits.TheConstants.{LONGEST_FRAME}
use Rattle.oftp_engine.specs.declared.serving.RunFault.{RunFault}
use Rattle.oftp_engine.specs.Conversation.{Dialogue, HasHeard}
use Rattle.oftp_engine.specs.Runs.{refusal}
use Rattle.oftp_engine.specs.Serving.{scene}

-- what doesn't change in a session with a caller
abbrev pub of_caller : BookData → Setting
of_caller book = record { book = book; called = None }

-- the answer to a caller's first command, or to octets that aren't one
abbrev pub answer_to : Setting → Result Command WireFault → Step
answer_to setting (Ok command) = came_awaiting_ssid setting command
answer_to setting (Err fault) = refusal (reason_of fault)

-- The answer to what a caller sent, by its beginning: to the first command, once it is whole. What follows isn't answered yet.
abbrev pub answer_at : Setting → List ℕ → Head → Option Step
answer_at setting octets (Whole n) = Some (answer_to setting (command_of (command_in n octets)))
answer_at setting octets Waits = None
answer_at setting octets (Bad fault) = Some (fails ProtocolViolation)

-- the octets that follow
abbrev pub beyond : List ℕ → Head → List ℕ
beyond octets (Whole n) = drop n octets
beyond octets Waits = octets
beyond octets (Bad fault) = octets

-- the phase after the answer, and its frame
abbrev pub phase_after : Option Step → Phase
phase_after None = AwaitingSsid
phase_after (Some step) = step.phase

abbrev pub said_after : Option Step → List ℕ
said_after None = []
said_after (Some step) = framed step.output

-- what the answer means for the caller: it is sent away if the session ends by it, and otherwise let in
abbrev pub admission_by : Option Ending → Admission
admission_by None = LetIn
admission_by (Some ending) = SentAway ending

abbrev pub admission_at : Option Step → Admission
admission_at None = Undecided
admission_at (Some step) = admission_by (ending_of step.phase)

-- what the octets of a caller amount to
abbrev pub admission_of : BookData → List ℕ → Admission
admission_of book octets = admission_at (answer_at (of_caller book) octets (front LONGEST_FRAME octets))

-- the first whole command of these octets is an SSID that the book accepts (RFC 5024, section 5.3.2)
pub record IsAccepted (book : BookData) (octets : List ℕ) : Type 0 where
  pub count : ℕ
  pub whole : front LONGEST_FRAME octets ≡ Whole count
  pub ssid : Ssid
  pub is : command_of (command_in count octets) ≡ Ok (command.Ssid ssid)
  pub agreement : Agreement
  pub verdict : ssid_verdict (of_caller book) ssid ≡ Ok agreement

-- A step was made for which no office was asked. Its frame is out, and what the session remembers is true of each register.
pub record Answered {W : Type 0} (contents : W → Option (List ℕ)) (step : Step) (old new : Seen) (before now : Port W) : Type 0 where
  pub setting : new.setting ≡ old.setting
  pub stands : Stands step.phase new
  pub recalls : (r : Register) → Recalls new r
  pub out : SentAll contents before now (framed step.output)

-- A caller was greeted, and has sent these octets, which weren't looked at yet.
pub record IsGreeted {W : Type 0} (contents : W → Option (List ℕ)) (book : BookData) (octets : List ℕ) (talk : Dialogue) (before now : Port W) : Type 0 where
  pub setting : talk.seen.setting ≡ of_caller book
  pub stands : Stands AwaitingSsid talk.seen
  pub recalls : (r : Register) → Recalls talk.seen r
  pub rest : talk.stream.rest ≡ octets
  pub limit : talk.stream.limit ≡ LONGEST_FRAME
  pub told : talk.stream.told ≡ None
  pub out : SentAll contents before now (framed greeting.output)

-- A caller has sent these octets in all, in any pieces, and they begin like this. The greeting is out, and so is the answer to the first
-- command, if that one is whole. The session is in the phase after it, and the octets beyond are unread.
pub record OpenedAt {W : Type 0} (contents : W → Option (List ℕ)) (book : BookData) (octets : List ℕ) (head : Head) (talk : Dialogue) (before now : Port W) : Type 0 where
  pub setting : talk.seen.setting ≡ of_caller book
  pub stands : Stands (phase_after (answer_at (of_caller book) octets head)) talk.seen
  pub recalls : (r : Register) → Recalls talk.seen r
  pub rest : talk.stream.rest ≡ beyond octets head
  pub limit : talk.stream.limit ≡ LONGEST_FRAME
  pub told : is_over (phase_after (answer_at (of_caller book) octets head)) ≡ false → talk.stream.told ≡ None
  pub out : SentAll contents before now (framed greeting.output ++ said_after (answer_at (of_caller book) octets head))

abbrev pub HasOpened : {W : Type 0} → (W → Option (List ℕ)) → BookData → List ℕ → Dialogue → Port W → Port W → Type 0
HasOpened contents book octets talk before now = OpenedAt contents book octets (front LONGEST_FRAME octets) talk before now

-- the caller was judged: what its octets amount to, and what is out and unread
pub record IsJudged {W : Type 0} (contents : W → Option (List ℕ)) (book : BookData) (octets : List ℕ) (talk : Dialogue) (before now : Port W) (admission : Admission) : Type 0 where
  pub verdict : admission ≡ admission_of book octets
  pub opened : HasOpened contents book octets talk before now

module _ {W : Type 0} (contents : W → Option (List ℕ)) where
  -- a call judges the caller, whatever book it was greeted by, whatever it has sent, and wherever the conversation began
  abbrev pub Judges : Dialogue → Port W → Dialogue → Port W → Result Admission RunFault → Type 0
  Judges old here new now result = (book : BookData) (octets : List ℕ) (before : Port W)
      → IsGreeted contents book octets old before here → IfOk result (IsJudged contents book octets new before now)

  -- an office that is open can go on with a caller that was let in: the conversation has heard all that the caller has sent
  abbrev pub TakesOver : BookData → List ℕ → Dialogue → Port W → Port W → View → Type 0
  TakesOver book octets talk before now office = office.clean → office.stands → HasOpened contents book octets talk before now → admission_of book octets ≡ LetIn
      → HasHeard (of_caller book) octets talk (scene contents office before) (scene contents office now)
