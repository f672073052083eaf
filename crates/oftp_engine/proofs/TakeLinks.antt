-- A command that arrives, and the link between two sessions: what is sent may arrive, and they are consistent again.
use Rattle.std.proofs.Common.{◌≡◌, ℕ, Bool, true, false, cond, nat_le, nat_lt, List, [], ◌∷◌, ◌++◌, All, None, refl, ap, sym, ◌∙◌, subst, inl}
use Rattle.std.proofs.lemmas.Bool.{true≢false}
use Rattle.std.proofs.lemmas.List.Elements.{All-head, All-tail, All-nil}
use Rattle.oftp_wire.specs.declared.command.Command.{Command}
use Rattle.oftp_wire.specs.declared.command.Command.TheVariants as command
use Rattle.oftp_wire.specs.declared.command.Sfpa.{Sfpa}
use Rattle.oftp_wire.specs.declared.command.Esid.{Esid}
use Rattle.oftp_wire.specs.Reasons.{session_number}
use Rattle.oftp_register.specs.declared.entry.OutgoingState.TheVariants.{Waiting}
use Rattle.oftp_wire.specs.declared.reason.SessionReason.{SessionReason}
use Rattle.oftp_wire.specs.declared.reason.SessionReason.TheVariants.{ProtocolViolation}
use Rattle.oftp_register.specs.Register.{Register, Outgoing}
use Rattle.oftp_register.specs.Changes.{is_closing}
use Rattle.oftp_register.specs.Soundness.{IsSound}
use Rattle.oftp_session.specs.declared.state.Contact.{Contact}
use Rattle.oftp_session.specs.Phases.{Offer, Transfer, Step, AwaitingRtr, AwaitingStart, Sending, AwaitingEnd, changes, fails, leaves, unexpected}
use Rattle.oftp_session.specs.Speaker.{came_awaiting_rtr}
use Rattle.oftp_session.specs.Sending.{came_awaiting_start, came_sending, came_awaiting_end, transfer_of, reopened_file, reopening, credited, new_mark, credit_left, after_file}
use Rattle.oftp_engine.proofs.Standing.{ResponseGoes, RtrComes, SfidGoes, SfpaComes, SfnaComes, EfidGoes, AnswerComes, MaySpeak, MayCome, IsCredit, Speaks, Talk}
use Rattle.oftp_engine.proofs.Coming.{may_come_later, may_come_end}
use Rattle.oftp_session.specs.Calls.{Makes}
use Rattle.oftp_engine.proofs.Events.{later_made}
use Rattle.oftp_engine.proofs.Heard.{one_left}
use Rattle.oftp_engine.proofs.TurnLinks.{Linked, Links, either_links}

-- the session ends
pub fails_links : (reason : SessionReason) (r after : Register) (calls : Bool) (coming : List Command) (other : Talk) → after ≡ r → MayCome r other.phase other.coming
    → Links calls coming other (fails reason) after
fails_links reason r after calls coming other made come =
    let e : Esid = record { reason = session_number reason; text = [] } in
    record { said = subst (λ x. MayCome x other.phase (other.coming ++ command.Esid e ∷ [])) (sym made) (may_come_end r other.phase other.coming e come); meet = λ o. absurd (true≢false o) }

pub leaves_links : (reason : ℕ) (r after : Register) (calls : Bool) (coming : List Command) (other : Talk) → after ≡ r → MayCome r other.phase other.coming
    → Links calls coming other (leaves reason) after
leaves_links reason r after calls coming other made come = record { said = subst (λ x. MayCome x other.phase other.coming) (sym made) come; meet = λ o. absurd (true≢false o) }

-- nothing is sent
silent_links : (r after : Register) (step : Step) (calls : Bool) (coming : List Command) (other : Talk) → step.output ≡ None → IsSound r → Makes step.change r after
    → MayCome r other.phase other.coming
    → (let one : Talk = record { calls = calls; phase = step.phase; coming = coming } in Linked one other) → Links calls coming other (changes step.phase step.change) after
silent_links r after step calls coming other none sound made come s = record { said = may_come_later r after other.phase other.coming (later_made r after step.change sound made) come; meet = λ _. s }

-- a speaker that awaits an answer

pub rtr_links : (contact : Contact) (n : ℕ) (r after : Register) (c : Command) (calls : Bool) (coming : List Command) (other : Talk) → IsSound r
    → Makes (came_awaiting_rtr contact n c).change r after → MayCome r other.phase other.coming
    → (let one : Talk = record { calls = calls; phase = AwaitingRtr contact n; coming = c ∷ coming } in Speaks one (AwaitingRtr contact n) other)
    → Links calls coming other (came_awaiting_rtr contact n c) after
unfolding came_awaiting_rtr unexpected
rtr_links contact n r after command.Rtr calls coming other sound made come s =
    silent_links r after (came_awaiting_rtr contact n command.Rtr) calls coming other refl sound made come
    (elim s [
      | ResponseGoes none response is k ↦ absurd (let q : command.Rtr ∷ coming ≡ [] = none in cc)
      | RtrComes comes k ↦ inl (record { comes = (one_left command.Rtr command.Rtr coming comes).1; listens = k })
    ])
rtr_links contact n r after (command.Esid e) calls coming other sound made come s = leaves_links e.reason r after calls coming other made come
rtr_links contact n r after _ calls coming other sound made come s = fails_links ProtocolViolation r after calls coming other made come

reopened_name : (file : Outgoing) → (reopened_file file).identity ≡ file.identity
reopened_name file = by (is_closing file.state)
  where
    by : (b : Bool) → (let f : Outgoing = cond b (record file { state = Waiting; mark = 0 }) file in f).identity ≡ file.identity
    by true = refl
    by false = refl

pub start_answer_links : (contact : Contact) (offer : Offer) (r after : Register) (c : Command) (calls : Bool) (coming : List Command) (other : Talk) → IsSound r
    → Makes (came_awaiting_start contact offer c).change r after → MayCome r other.phase other.coming
    → (let one : Talk = record { calls = calls; phase = AwaitingStart contact offer; coming = c ∷ coming } in Speaks one (AwaitingStart contact offer) other)
    → Links calls coming other (came_awaiting_start contact offer c) after
unfolding came_awaiting_start unexpected
start_answer_links contact offer r after (command.Sfpa sfpa) calls coming other sound made come s =
    let sends = changes (Sending contact (transfer_of offer sfpa.restart)) (reopening offer) in
    either_links (nat_le sfpa.restart offer.from) sends (fails ProtocolViolation) r after calls coming other
    (λ m. silent_links r after sends calls coming other refl sound m come (inl on))
    (λ m. fails_links ProtocolViolation r after calls coming other m come) made
  where
    taking : (from : ℕ) → (let c : Command = command.Sfpa sfpa in c) ≡ command.Sfpa (record { restart = from }) → sfpa.restart ≡ from
    taking from h = let q : sfpa ≡ record { restart = from } = cc in ap (λ (x : Sfpa). x.restart) q

    on : Speaks (record { calls = calls; phase = Sending contact (transfer_of offer sfpa.restart); coming = coming }) (Sending contact (transfer_of offer sfpa.restart)) other
    on = elim s [
      | SfidGoes none sfid same k ↦ absurd (let q : command.Sfpa sfpa ∷ coming ≡ [] = none in cc)
      | SfpaComes from comes k ↦ (let l = one_left (command.Sfpa sfpa) (command.Sfpa (record { restart = from })) coming comes in
          record {
            credits = subst (All IsCredit) (sym l.1) (All-nil IsCredit);
            takes = record {
              contact = k.contact;
              receipt = k.receipt;
              takes = k.takes;
              same = k.same ∙ sym (reopened_name offer.file);
              from_row = k.from_row ∙ sym (taking from l.0);
              on_the_way = k.on_the_way;
              told = k.told;
              all = k.all;
            };
          })
      | SfnaComes sfna comes k ↦ absurd (let l = one_left (command.Sfpa sfpa) (command.Sfna sfna) coming comes in let q : command.Sfpa sfpa ≡ command.Sfna sfna = l.0 in cc)
    ]
start_answer_links contact offer r after (command.Sfna sfna) calls coming other sound made come s =
    silent_links r after (came_awaiting_start contact offer (command.Sfna sfna)) calls coming other refl sound made come
    (elim s [
      | SfidGoes none sfid same k ↦ absurd (let q : command.Sfna sfna ∷ coming ≡ [] = none in cc)
      | SfpaComes from comes k ↦
          absurd (let l = one_left (command.Sfna sfna) (command.Sfpa (record { restart = from })) coming comes in let q : command.Sfna sfna ≡ command.Sfpa (record { restart = from }) = l.0 in cc)
      | SfnaComes answer comes k ↦ inl (record { comes = (one_left (command.Sfna sfna) (command.Sfna answer) coming comes).1; listens = k })
    ])
start_answer_links contact offer r after (command.Esid e) calls coming other sound made come s = leaves_links e.reason r after calls coming other made come
start_answer_links contact offer r after _ calls coming other sound made come s = fails_links ProtocolViolation r after calls coming other made come

pub sending_takes : (contact : Contact) (t : Transfer) (r after : Register) (c : Command) (calls : Bool) (coming : List Command) (other : Talk) → IsSound r
    → Makes (came_sending contact t c).change r after → MayCome r other.phase other.coming
    → (let one : Talk = record { calls = calls; phase = Sending contact t; coming = c ∷ coming } in Speaks one (Sending contact t) other) → Links calls coming other (came_sending contact t c) after
unfolding came_sending unexpected
sending_takes contact t r after command.Cdt calls coming other sound made come s =
    let goes_on = credited contact t (new_mark contact t) in
    either_links (nat_lt 0 (credit_left contact t)) (fails ProtocolViolation) goes_on r after calls coming other
    (λ m. fails_links ProtocolViolation r after calls coming other m come)
    (λ m. silent_links r after goes_on calls coming other refl sound m come (inl (record { credits = All-tail IsCredit command.Cdt coming s.credits; takes = s.takes }))) made
sending_takes contact t r after (command.Esid e) calls coming other sound made come s = leaves_links e.reason r after calls coming other made come
sending_takes contact t r after _ calls coming other sound made come s = fails_links ProtocolViolation r after calls coming other made come

-- the answer to EFID is alone on its way
answer_alone : (c : Command) (rest credits : List Command) (answer : Command) → (IsCredit c → ⊥) → All IsCredit credits → c ∷ rest ≡ credits ++ answer ∷ [] → rest ≡ []
answer_alone c rest [] answer other all h = (one_left c answer rest h).1
answer_alone c rest (x ∷ xs) answer other all h = absurd (other (let q : c ∷ rest ≡ x ∷ (xs ++ answer ∷ []) = h in let same : c ≡ x = cc in subst IsCredit (sym same) (All-head IsCredit x xs all)))

answered_link : (contact : Contact) (t : Transfer) (c : Command) (calls : Bool) (coming : List Command) (other : Talk) → (IsCredit c → ⊥)
    → (let one : Talk = record { calls = calls; phase = AwaitingEnd contact t; coming = c ∷ coming } in Speaks one (AwaitingEnd contact t) other) → MaySpeak [] coming other
answered_link contact t c calls coming other uncredited s = elim s [
  | EfidGoes all efid k ↦ absurd (uncredited (All-head IsCredit c coming all))
  | AnswerComes credits all answer is comes k ↦ record { comes = answer_alone c coming credits answer uncredited all comes; listens = k }
]

pub end_answer_links : (contact : Contact) (t : Transfer) (r after : Register) (c : Command) (calls : Bool) (coming : List Command) (other : Talk) → IsSound r
    → Makes (came_awaiting_end contact t c).change r after → MayCome r other.phase other.coming
    → (let one : Talk = record { calls = calls; phase = AwaitingEnd contact t; coming = c ∷ coming } in Speaks one (AwaitingEnd contact t) other)
    → Links calls coming other (came_awaiting_end contact t c) after
unfolding came_awaiting_end unexpected
end_answer_links contact t r after (command.Efpa efpa) calls coming other sound made come s =
    silent_links r after (came_awaiting_end contact t (command.Efpa efpa)) calls coming other refl sound made come (by efpa.change_direction)
  where
    k : MaySpeak [] coming other
    k = answered_link contact t (command.Efpa efpa) calls coming other (λ x. x) s

    by : (b : Bool) → let one : Talk = record { calls = calls; phase = after_file contact b; coming = coming } in Linked one other
    by true = inl k
    by false = inl k
end_answer_links contact t r after (command.Efna efna) calls coming other sound made come s =
    silent_links r after (came_awaiting_end contact t (command.Efna efna)) calls coming other refl sound made come (inl (answered_link contact t (command.Efna efna) calls coming other (λ x. x) s))
end_answer_links contact t r after (command.Esid e) calls coming other sound made come s = leaves_links e.reason r after calls coming other made come
end_answer_links contact t r after _ calls coming other sound made come s = fails_links ProtocolViolation r after calls coming other made come

pub idle_links : (r after : Register) (c : Command) (calls : Bool) (coming : List Command) (other : Talk) → Makes (unexpected c).change r after → MayCome r other.phase other.coming
    → Links calls coming other (unexpected c) after
unfolding unexpected
idle_links r after (command.Esid e) calls coming other made come = leaves_links e.reason r after calls coming other made come
idle_links r after _ calls coming other made come = fails_links ProtocolViolation r after calls coming other made come

pub respond_links : (r after : Register) (c : Command) (calls : Bool) (coming : List Command) (other : Talk) → Makes (unexpected c).change r after → MayCome r other.phase other.coming
    → Links calls coming other (unexpected c) after
unfolding unexpected
respond_links r after (command.Esid e) calls coming other made come = leaves_links e.reason r after calls coming other made come
respond_links r after _ calls coming other made come = fails_links ProtocolViolation r after calls coming other made come
