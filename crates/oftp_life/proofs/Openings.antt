-- Openings of sessions: what holds of them after each call.
use Rattle.std.specs.Result.{IfOk, OnOk}
use Rattle.std.proofs.Common.{◌≡◌, ◌≢◌, ◌∙◌, ap, sym, subst, refl, ℕ, List, [], ◌++◌, ◌%◌, ◌^◌, Some, Result, Ok, Err}
use Rattle.oftp_codec.specs.Stream.{Head, front}
use Rattle.oftp_wire.specs.declared.command.Command.{Command}
use Rattle.oftp_wire.specs.declared.fault.WireFault.{WireFault}
use Rattle.oftp_wire.specs.declared.reason.SessionReason.{SessionReason}
use Rattle.oftp_partners.specs.Book.{BookData}
use Rattle.oftp_io.specs.declared.port.Port.{Port}
use Rattle.oftp_io.specs.Ports.{SentAll}
use Rattle.oftp_session.specs.Calls.{Stands}
use Rattle.oftp_session.specs.Callers.{code_of, greeting}
use Rattle.oftp_session.specs.Opening.{Agreement, came_awaiting_ssid, contact_of, opened_step}
use Rattle.oftp_session.specs.Phases.{AwaitingSsid, ListenerIdle, Phase, framed}
use Rattle.oftp_session.specs.Standings.{Broken}
use Rattle.oftp_engine.specs.Conversation.{Dialogue, HeardMore}
use Rattle.oftp_engine.specs.Openings.{IsAccepted, IsGreeted, IsJudged, admission_of, answer_at, answer_to, of_caller, phase_after}
use Rattle.oftp_engine.specs.declared.serving.Admission.{Admission}
use Rattle.oftp_engine.specs.declared.serving.Admission.TheVariants.{LetIn, Undecided}
use Rattle.oftp_engine.specs.declared.serving.RunFault.{RunFault}
use Rattle.oftp_engine.proofs.Openings.{greeted_more, greeted_undecided, let_in_more, stands_unbroken, undecided_stands}
use Rattle.oftp_life.specs.Openings.{HasHeardOf, IsOpening, greeted_as}
use Rattle.oftp_life.specs.Outboxes.{contents_of, octets_out}
use Rattle.oftp_life.specs.declared.outbox.Outbox.{Outbox}

-- an opening in this stage holds what the stage says
pub opening_at : (book : BookData) (octets : List ℕ) (out : Port Outbox) (dialogue : Dialogue) (stage : Result Admission RunFault) (admission : Admission)
    → stage ≡ Ok admission → IsOpening book octets out dialogue stage → HasHeardOf book octets out dialogue admission
opening_at book octets out dialogue stage admission is h = subst (IsOpening book octets out dialogue) is h

pub opening_as : (book : BookData) (octets octets' : List ℕ) (out : Port Outbox) (dialogue : Dialogue) (stage stage' : Result Admission RunFault) → octets' ≡ octets → stage' ≡ stage
    → IsOpening book octets out dialogue stage → IsOpening book octets' out dialogue stage'
opening_as book octets octets' out dialogue stage stage' p q h =
    subst (λ (x : Result Admission RunFault). IsOpening book octets' out dialogue x) (sym q) (subst (λ (x : List ℕ). IsOpening book x out dialogue stage) (sym p) h)

-- one that has greeted
pub opening_new : {T : Type 0} (book : BookData) (front out : Port Outbox) (dialogue : Dialogue) (answer : Result T RunFault) → octets_out front.inner ≡ []
    → OnOk answer (IsGreeted contents_of book [] dialogue front out) → IsOpening book [] out dialogue (greeted_as answer)
opening_new book front out dialogue (Ok x) nothing greeted = record { front = front; nothing = nothing; judged = greeted_undecided contents_of book dialogue front out greeted }
opening_new book front out dialogue (Err fault) nothing greeted = tt

said_by : {T : Type 0} (book : BookData) (front out : Port Outbox) (dialogue : Dialogue) (answer : Result T RunFault) → octets_out front.inner ≡ []
    → OnOk answer (IsGreeted contents_of book [] dialogue front out) → IfOk (greeted_as answer) (λ admission. (admission ≡ Undecided) × (octets_out out.inner ≡ framed greeting.output))
said_by book front out dialogue (Ok x) nothing greeted = (refl, greeted.out.wrote.contents ∙ ap (λ (x : List ℕ). x ++ framed greeting.output) nothing)
said_by book front out dialogue (Err fault) nothing greeted = tt

pub opening_said : {T : Type 0} (book : BookData) (front out : Port Outbox) (dialogue : Dialogue) (answer : Result T RunFault) (stage : Result Admission RunFault) → stage ≡ greeted_as answer
    → octets_out front.inner ≡ [] → OnOk answer (IsGreeted contents_of book [] dialogue front out)
    → IfOk stage (λ admission. (admission ≡ Undecided) × (octets_out out.inner ≡ framed greeting.output))
opening_said book front out dialogue answer stage is nothing greeted =
    subst (λ (x : Result Admission RunFault). IfOk x (λ admission. (admission ≡ Undecided) × (octets_out out.inner ≡ framed greeting.output)))
    (sym is) (said_by book front out dialogue answer nothing greeted)

-- one that was undecided, heard these octets, and judged its caller
pub opening_judged : (book : BookData) (octets more : List ℕ) (here there : Port Outbox) (dialogue fed then : Dialogue) (answer : Result Admission RunFault)
    → HasHeardOf book octets here dialogue Undecided → HeardMore dialogue fed more
    → ((b : BookData) (all : List ℕ) (front : Port Outbox) → IsGreeted contents_of b all fed front here → IfOk answer (IsJudged contents_of b all then front there))
    → IsOpening book (octets ++ more) there then answer
opening_judged book octets more here there dialogue fed then (Ok admission) h heard judges = record {
  front = h.front;
  nothing = h.nothing;
  judged = judges book (octets ++ more) h.front (greeted_more contents_of book octets more dialogue fed h.front here heard h.judged);
}
opening_judged book octets more here there dialogue fed then (Err fault) h heard judges = tt

-- what it amounts to
pub opening_verdict : (book : BookData) (octets : List ℕ) (out : Port Outbox) (dialogue : Dialogue) (stage : Result Admission RunFault) → IsOpening book octets out dialogue stage
    → IfOk stage (λ admission. admission ≡ admission_of book octets)
opening_verdict book octets out dialogue (Ok admission) h = h.judged.verdict
opening_verdict book octets out dialogue (Err fault) h = tt

-- the code of the partner whose SSID was accepted
pub code_accepted : (book : BookData) (octets : List ℕ) (out : Port Outbox) (dialogue : Dialogue) → HasHeardOf book octets out dialogue LetIn → (a : IsAccepted book octets)
    → code_of dialogue.seen.standing ≡ Some a.agreement.partner.code
unfolding came_awaiting_ssid
code_accepted book octets out dialogue h a =
    let caller = of_caller book in
    let stands : Stands (ListenerIdle (contact_of a.agreement)) dialogue.seen =
    subst (λ (p : Phase). Stands p dialogue.seen)
    (ap (λ (x : Head). phase_after (answer_at caller octets x)) a.whole ∙ ap (λ (x : Result Command WireFault). (answer_to caller x).phase) a.is
    ∙ ap (λ (x : Result Agreement SessionReason). (opened_step caller a.ssid.mode x).phase) a.verdict) h.judged.opened.stands in
    ap code_of stands

-- one that had let its caller in, and heard these octets
pub opening_kept : (book : BookData) (octets more : List ℕ) (out : Port Outbox) (dialogue fed : Dialogue) → HasHeardOf book octets out dialogue LetIn → HeardMore dialogue fed more
    → HasHeardOf book (octets ++ more) out fed LetIn
opening_kept book octets more out dialogue fed h heard = record {
  front = h.front;
  nothing = h.nothing;
  judged = let_in_more contents_of book octets more dialogue fed h.front out heard h.judged;
}

-- it waits for the caller's first command
pub awaits_ssid : (book : BookData) (octets : List ℕ) (out : Port Outbox) (dialogue : Dialogue) → HasHeardOf book octets out dialogue Undecided → Stands AwaitingSsid dialogue.seen
awaits_ssid book octets out dialogue h = undecided_stands contents_of book octets dialogue h.front out h.judged

-- it can go on
pub guest_unbroken : (book : BookData) (octets : List ℕ) (out : Port Outbox) (dialogue : Dialogue) → HasHeardOf book octets out dialogue LetIn → dialogue.seen.standing ≢ Broken
guest_unbroken book octets out dialogue h = stands_unbroken _ dialogue.seen.standing h.judged.opened.stands

-- a port whose box has handed out the same octets, and that is the same otherwise
sent_same : (front here there : Port Outbox) (octets : List ℕ) → octets_out there.inner ≡ octets_out here.inner → there.moved ≡ here.moved → there.faults ≡ here.faults
    → there.most ≡ here.most → there.ended ≡ here.ended → SentAll contents_of front here octets → SentAll contents_of front there octets
sent_same front here there octets p q r s t h = record {
  wrote = record { contents = p ∙ h.wrote.contents; moved = ap (λ (n : ℕ). n % 2 ^ 64) q ∙ h.wrote.moved };
  faults = r ∙ h.faults;
  same = record { most = s ∙ h.same.most; on = t ∙ h.same.on };
}

module _ (book : BookData) (octets : List ℕ) (here there : Port Outbox) (dialogue : Dialogue)
    (p : octets_out there.inner ≡ octets_out here.inner) (q : there.moved ≡ here.moved) (r : there.faults ≡ here.faults) (s : there.most ≡ here.most) (t : there.ended ≡ here.ended) where
  heard_same : (admission : Admission) → HasHeardOf book octets here dialogue admission → HasHeardOf book octets there dialogue admission
  heard_same admission h = record {
    front = h.front;
    nothing = h.nothing;
    judged = record {
      verdict = h.judged.verdict;
      opened = record {
        setting = h.judged.opened.setting;
        stands = h.judged.opened.stands;
        recalls = h.judged.opened.recalls;
        rest = h.judged.opened.rest;
        limit = h.judged.opened.limit;
        told = h.judged.opened.told;
        out = sent_same h.front here there _ p q r s t h.judged.opened.out;
      };
    };
  }

  -- the octets of its box were taken out
  pub opening_same : (stage : Result Admission RunFault) → IsOpening book octets here dialogue stage → IsOpening book octets there dialogue stage
  opening_same (Ok admission) h = heard_same admission h
  opening_same (Err fault) h = tt
