-- The changes of the sending phases: each is fit, the register accepts it, and the facts of the next phase hold.
use Rattle.std.proofs.Common.{◌≡◌, ℕ, ◌≤◌, ◌==◌, ◌&&◌, ◌||◌, Bool, true, false, cond, nat_le, length, Option, None, Some, Result, Ok, is_ok, refl, ap, sym, ◌∙◌, subst, arith}
use Rattle.std.proofs.lemmas.Bool.{and_parts, eqb-true, le-leb}
use Rattle.std.proofs.lemmas.List.{length-drop}
use Rattle.std.specs.Result.{result_unwrap_or}
use Rattle.oftp_wire.specs.declared.command.Sfna.{Sfna}
use Rattle.oftp_wire.specs.declared.reason.StartReason.TheVariants.{DuplicateFile}
use Rattle.oftp_wire.specs.Reasons.{start_number}
use Rattle.oftp_vfile.proofs.LendLemmas.{rows_from}
use Rattle.oftp_vfile.proofs.MarkLemmas.{sent_few}
use Rattle.oftp_register.specs.declared.change.Cause.{Cause}
use Rattle.oftp_register.specs.declared.change.Change.{Change}
use Rattle.oftp_register.specs.declared.change.Change.TheVariants.{Send, Mark, BeginClosing, HandOver, Refuse, Reopen}
use Rattle.oftp_register.specs.declared.entry.Dispatch.{Dispatch}
use Rattle.oftp_register.specs.declared.entry.Dispatch.TheVariants.{Sent}
use Rattle.oftp_register.specs.declared.entry.OutgoingState.{OutgoingState}
use Rattle.oftp_register.specs.declared.entry.OutgoingState.TheVariants.{Waiting, Closing, Handed, Refused, Delivered, Returned}
use Rattle.oftp_register.specs.Register.{Register, Incoming, Outgoing, Issued}
use Rattle.oftp_register.specs.Changes.{apply, closing, handed, if_allowed, is_closing, is_waiting, mapped, marked, refused, reopened, sent, sent_as, sent_of}
use Rattle.oftp_register.specs.LookUps.{entry_at, is_on_its_way}
use Rattle.oftp_register.specs.Soundness.{IsFit, IsSound, IsSoundOutgoing}
use Rattle.oftp_register.proofs.EntryLemmas.{IsChanged, all_at, changes_incoming, changes_outgoing}
use Rattle.oftp_session.specs.declared.state.Contact.{Contact}
use Rattle.oftp_session.specs.Phases.{Offer, Transfer, register_after}
use Rattle.oftp_session.specs.Sending.{after_file, closing_transfer, credited_transfer, marking, new_mark, payload_size, refusal, reopening, rows_from as rows_sent, transfer_of}
use Rattle.oftp_session.specs.Steps.{Holds, IsEnded, IsOffered, IsResponding, IsSent}
use Rattle.oftp_session.specs.Inside.{IsAccepted}

-- a change that its entry's state allows
allowed : (b : Bool) (file : Outgoing) → b ≡ true → if_allowed b file ≡ Ok file
allowed true file h = refl
allowed false file h = absurd (let no : ⊥ = cc in no)

-- what holds after a change that is made
after_made : (P : Register → Type 0) (r : Register) (change : Change) (s : Register) → apply r change ≡ Ok s → P s → P (register_after r (Some change))
after_made P r change s made p = subst P (sym (ap (λ (q : Result Register Cause). result_unwrap_or q r) made)) p

-- RTR: a response was sent

pub send_fits : (r : Register) (n : ℕ) → IsFit r (Send n)
unfolding IsFit
send_fits r n = tt

pub send_accepted : (r : Register) (n : ℕ) → IsResponding r n → IsAccepted r (Send n)
unfolding apply
send_accepted r n holds =
    let now : Issued = record holds.response { dispatch = Sent } in
    let file : Incoming = record holds.file { response = Some now } in
    let made : sent holds.file ≡ Ok file =
    ap (sent_of holds.file) holds.issued ∙ ap (λ (d : Dispatch). mapped (λ answer. record holds.file { response = Some answer }) (sent_as holds.response d)) holds.due in
    ap is_ok (changes_incoming sent n r holds.file file holds.entry made).made

-- CDT: rows are marked

pub mark_fits : (r : Register) (n mark : ℕ) → IsFit r (Mark n mark)
unfolding IsFit
mark_fits r n mark = tt

-- no row is marked that the file doesn't have
pub mark_within : (r : Register) (contact : Contact) (t : Transfer) → IsSound r → IsSent r t → new_mark contact t ≤ length t.file.rows
mark_within r contact t sound holds =
    let file = all_at IsSoundOutgoing t.number r.outgoing t.file sound.outgoing holds.entry in
    let rows = rows_from t.file.format t.file.longest t.from t.file.rows file.fits in
    let few = sent_few t.file.format t.file.longest (payload_size contact) t.sent (rows_sent t) rows in
    omega (arith, few, holds.within, length-drop t.from t.file.rows)

mark_made : (r : Register) (t : Transfer) (mark : ℕ) → IsSent r t → mark ≤ length t.file.rows
    → (s : Register) × (apply r (Mark t.number mark) ≡ Ok s) × IsSent s (credited_transfer t mark)
unfolding apply
mark_made r t mark holds within =
    let now : Outgoing = record t.file { mark = mark } in
    let made : marked mark t.file ≡ Ok now =
    ap (λ x. if_allowed (is_waiting x && nat_le mark (length t.file.rows)) now) holds.waits ∙ ap (λ b. if_allowed b now) (le-leb mark (length t.file.rows) within) in
    let c = changes_outgoing (marked mark) t.number r t.file now holds.entry made in
    (c.after, c.made, record { entry = c.entry; waits = holds.waits; within = holds.within })

pub mark_accepted : (r : Register) (t : Transfer) (mark : ℕ) → IsSent r t → mark ≤ length t.file.rows → IsAccepted r (Mark t.number mark)
mark_accepted r t mark holds within = ap is_ok (mark_made r t mark holds within).1

pub mark_after : (r : Register) (t : Transfer) (mark : ℕ) → IsSent r t → mark ≤ length t.file.rows → IsSent (register_after r (marking t mark)) (credited_transfer t mark)
mark_after r t mark holds within = by (mark == t.file.mark) refl
  where
    by : (b : Bool) → (mark == t.file.mark) ≡ b → IsSent (register_after r (cond b None (Some (Mark t.number mark)))) (credited_transfer t mark)
    by true h =
        let same : t.file ≡ record t.file { mark = mark } = ap (λ (n : ℕ). let f : Outgoing = record t.file { mark = n } in f) (sym (eqb-true mark t.file.mark h)) in
        record { entry = holds.entry ∙ ap (λ (f : Outgoing). let o : Option Outgoing = Some f in o) same; waits = holds.waits; within = holds.within }
    by false h =
        let s = mark_made r t mark holds within in
        after_made (λ (z : Register). IsSent z (credited_transfer t mark)) r (Mark t.number mark) s.0 s.1 s.2

-- the change, if the mark differs
pub marking_goes : (r : Register) (t : Transfer) (mark : ℕ) (change : Change) → IsSent r t → mark ≤ length t.file.rows → marking t mark ≡ Some change
    → IsFit r change × IsAccepted r change
marking_goes r t mark change holds within h = by (mark == t.file.mark) h
  where
    by : (b : Bool) → cond b None (Some (Mark t.number mark)) ≡ Some change → IsFit r change × IsAccepted r change
    by true e = absurd (let no : ⊥ = cc in no)
    by false e =
        let is : Mark t.number mark ≡ change = cc in
        subst (λ (x : Change). IsFit r x × IsAccepted r x) is (mark_fits r t.number mark, mark_accepted r t mark holds within)

-- EFID: the end is sent

pub closing_fits : (r : Register) (n : ℕ) → IsFit r (BeginClosing n)
unfolding IsFit
closing_fits r n = tt

closing_made : (r : Register) (t : Transfer) → IsSent r t → (s : Register) × (apply r (BeginClosing t.number) ≡ Ok s) × IsEnded s (closing_transfer t)
unfolding apply
closing_made r t holds =
    let now : Outgoing = record t.file { state = Closing } in
    let made : closing t.file ≡ Ok now = ap (λ (s : OutgoingState). if_allowed (is_waiting s) now) holds.waits in
    let c = changes_outgoing closing t.number r t.file now holds.entry made in
    (c.after, c.made, record { entry = c.entry; closing = refl })

pub closing_accepted : (r : Register) (t : Transfer) → IsSent r t → IsAccepted r (BeginClosing t.number)
closing_accepted r t holds = ap is_ok (closing_made r t holds).1

pub closing_after : (r : Register) (t : Transfer) → IsSent r t → IsEnded (register_after r (Some (BeginClosing t.number))) (closing_transfer t)
closing_after r t holds =
    let s = closing_made r t holds in
    after_made (λ (z : Register). IsEnded z (closing_transfer t)) r (BeginClosing t.number) s.0 s.1 s.2

-- EFPA, and SFNA for a duplicate: the partner has the file

pub handed_fits : (r : Register) (n : ℕ) → IsFit r (HandOver n)
unfolding IsFit
handed_fits r n = tt

-- a file whose end was sent
hand_over : (r : Register) (n : ℕ) (file : Outgoing) → entry_at n r.outgoing ≡ Some file → is_closing file.state ≡ true → IsAccepted r (HandOver n)
unfolding apply
hand_over r n file entry closes =
    let now : Outgoing = record file { state = Handed } in
    ap is_ok (changes_outgoing handed n r file now entry (allowed (is_closing file.state) now closes)).made

pub handed_accepted : (r : Register) (t : Transfer) → IsEnded r t → IsAccepted r (HandOver t.number)
handed_accepted r t holds = hand_over r t.number t.file holds.entry (ap is_closing holds.closing)

pub offered_handed : (r : Register) (offer : Offer) → IsOffered r offer → is_closing offer.file.state ≡ true → IsAccepted r (HandOver offer.number)
offered_handed r offer holds closes = hand_over r offer.number offer.file holds.entry closes

-- whether or not the partner asks to speak, the next phase has no facts of the register
pub handed_after : (contact : Contact) (speaks : Bool) (r : Register) → Holds (after_file contact speaks) r
handed_after contact true r = tt
handed_after contact false r = tt

-- SFNA: the file is refused

pub refused_fits : (r : Register) (n reason : ℕ) → IsFit r (Refuse n reason)
unfolding IsFit
refused_fits r n reason = tt

goes_on : (state : OutgoingState) → is_on_its_way state ≡ true → (is_waiting state || is_closing state) ≡ true
goes_on Waiting h = refl
goes_on Closing h = refl
goes_on Handed h = absurd (let no : ⊥ = cc in no)
goes_on (Refused reason) h = absurd (let no : ⊥ = cc in no)
goes_on Delivered h = absurd (let no : ⊥ = cc in no)
goes_on Returned h = absurd (let no : ⊥ = cc in no)

pub refused_accepted : (r : Register) (offer : Offer) (reason : ℕ) → IsOffered r offer → IsAccepted r (Refuse offer.number reason)
unfolding apply
refused_accepted r offer reason holds =
    let now : Outgoing = record offer.file { state = Refused reason } in
    let may = allowed (is_waiting offer.file.state || is_closing offer.file.state) now (goes_on offer.file.state holds.goes) in
    ap is_ok (changes_outgoing (refused reason) offer.number r offer.file now holds.entry may).made

-- each change of an answer that refuses the file
pub refusal_goes : (r : Register) (offer : Offer) (sfna : Sfna) (change : Change) → IsOffered r offer → refusal offer sfna ≡ Some change → IsFit r change × IsAccepted r change
refusal_goes r offer sfna change holds h = by (sfna.reason == start_number DuplicateFile && is_closing offer.file.state) refl h
  where
    Goes : Change → Type 0
    Goes x = IsFit r x × IsAccepted r x

    by_retry : (b : Bool) → cond b None (Some (Refuse offer.number sfna.reason)) ≡ Some change → Goes change
    by_retry true e = absurd (let no : ⊥ = cc in no)
    by_retry false e =
        let is : Refuse offer.number sfna.reason ≡ change = cc in
        subst Goes is (refused_fits r offer.number sfna.reason, refused_accepted r offer sfna.reason holds)

    by : (b : Bool) → (sfna.reason == start_number DuplicateFile && is_closing offer.file.state) ≡ b
        → cond b (Some (HandOver offer.number)) (cond sfna.retry None (Some (Refuse offer.number sfna.reason))) ≡ Some change → Goes change
    by true d e =
        let is : HandOver offer.number ≡ change = cc in
        let closes = (and_parts (sfna.reason == start_number DuplicateFile) (is_closing offer.file.state) d).1 in
        subst Goes is (handed_fits r offer.number, offered_handed r offer holds closes)
    by false d e = by_retry sfna.retry e

-- EFNA, and SFPA for a file whose end was sent: it is sent again

pub reopened_fits : (r : Register) (n : ℕ) → IsFit r (Reopen n)
unfolding IsFit
reopened_fits r n = tt

reopened_made : (r : Register) (n : ℕ) (file : Outgoing) → entry_at n r.outgoing ≡ Some file → is_closing file.state ≡ true
    → IsChanged (λ (s : Register). s.outgoing) n r (record file { state = Waiting; mark = 0 }) (apply r (Reopen n))
unfolding apply
reopened_made r n file entry closes =
    let now : Outgoing = record file { state = Waiting; mark = 0 } in
    changes_outgoing reopened n r file now entry (allowed (is_closing file.state) now closes)

pub reopened_accepted : (r : Register) (t : Transfer) → IsEnded r t → IsAccepted r (Reopen t.number)
reopened_accepted r t holds = ap is_ok (reopened_made r t.number t.file holds.entry (ap is_closing holds.closing)).made

pub offered_reopened : (r : Register) (offer : Offer) → IsOffered r offer → is_closing offer.file.state ≡ true → IsAccepted r (Reopen offer.number)
offered_reopened r offer holds closes = ap is_ok (reopened_made r offer.number offer.file holds.entry closes).made

-- the change of an answer that accepts the file
pub reopening_goes : (r : Register) (offer : Offer) (change : Change) → IsOffered r offer → reopening offer ≡ Some change → IsFit r change × IsAccepted r change
reopening_goes r offer change holds h = by (is_closing offer.file.state) refl h
  where
    by : (b : Bool) → is_closing offer.file.state ≡ b → cond b (Some (Reopen offer.number)) None ≡ Some change → IsFit r change × IsAccepted r change
    by true closes e =
        let is : Reopen offer.number ≡ change = cc in
        subst (λ (x : Change). IsFit r x × IsAccepted r x) is (reopened_fits r offer.number, offered_reopened r offer holds closes)
    by false closes e = absurd (let no : ⊥ = cc in no)

waits : (state : OutgoingState) → is_on_its_way state ≡ true → is_closing state ≡ false → state ≡ Waiting
waits Waiting h k = refl
waits Closing h k = absurd (let no : ⊥ = cc in no)
waits Handed h k = absurd (let no : ⊥ = cc in no)
waits (Refused reason) h k = absurd (let no : ⊥ = cc in no)
waits Delivered h k = absurd (let no : ⊥ = cc in no)
waits Returned h k = absurd (let no : ⊥ = cc in no)

-- the file is sent from this row on
pub reopened_after : (r : Register) (offer : Offer) (from : ℕ) → IsOffered r offer → from ≤ offer.from → IsSent (register_after r (reopening offer)) (transfer_of offer from)
reopened_after r offer from holds before = by (is_closing offer.file.state) refl
  where
    transfer : Bool → Transfer
    transfer b = record { number = offer.number; file = cond b (record offer.file { state = Waiting; mark = 0 }) offer.file; from = from; sent = 0; credits = 0 }

    by : (b : Bool) → is_closing offer.file.state ≡ b → IsSent (register_after r (cond b (Some (Reopen offer.number)) None)) (transfer b)
    by true h =
        let c = reopened_made r offer.number offer.file holds.entry h in
        after_made (λ (z : Register). IsSent z (transfer true)) r (Reopen offer.number) c.after c.made
        (record { entry = c.entry; waits = refl; within = omega (arith, before, holds.within) })
    by false h = record { entry = holds.entry; waits = waits offer.file.state holds.goes h; within = omega (arith, before, holds.within) }
