-- A payload in a window of credit.
use Rattle.std.proofs.Common.{◌≡◌, ℕ, suc, ◌+◌, ◌-◌, ◌%◌, ◌≤◌, ◌<◌, ◌==◌, true, false, max, nat_lt, Option, None, Some, unwrap_or, Result, Ok, Err, ◌⊎◌, inl, inr, List, [], ◌∷◌, ◌++◌, length, refl, sym, ap, ◌∙◌, subst, arith}
use Rattle.std.proofs.Math.Dec.{eqb-suc-zero}
use Rattle.std.proofs.lemmas.List.{length-append, length-drop}
use Rattle.oftp_wire.specs.declared.command.Command.TheVariants as command
use Rattle.oftp_wire.specs.declared.reason.SessionReason.TheVariants.{BufferSizeError, ProtocolViolation}
use Rattle.oftp_vfile.specs.declared.fault.TakeFault.{TakeFault}
use Rattle.oftp_vfile.specs.declared.fault.TakeFault.TheVariants as take
use Rattle.oftp_vfile.specs.Taking.{Taking}
use Rattle.oftp_vfile.specs.Reading.{shed, taken}
use Rattle.oftp_vfile.proofs.ShedLemmas.{shed_all, shed_err, shed_ok}
use Rattle.oftp_register.specs.declared.change.Change.{Change}
use Rattle.oftp_register.specs.declared.change.Change.TheVariants.{Keep}
use Rattle.oftp_register.specs.Register.{Register}
use Rattle.oftp_register.specs.Soundness.{IsFit}
use Rattle.oftp_register.specs.Offices.{View}
use Rattle.oftp_session.specs.declared.receiving.IncomingTransfer.{IncomingTransfer}
use Rattle.oftp_session.specs.declared.session.SessionFault.{SessionFault}
use Rattle.oftp_session.specs.declared.state.Contact.{Contact}
use Rattle.oftp_session.specs.declared.state.State.{State}
use Rattle.oftp_session.specs.declared.state.State.TheVariants as state
use Rattle.oftp_session.specs.Phases.{Receipt, Receiving, Step, answers, fails, frame_of, quiet}
use Rattle.oftp_session.specs.Receiving.{data_step, carried_by, ends_at, is_window_full, kept_of, keeping, reason_of, rows_to_keep, window, window_step, with_payload, with_rows}
use Rattle.oftp_session.specs.Steps.{IsReceived}
use Rattle.oftp_session.specs.Standings.{Tracks}
use Rattle.oftp_session.specs.Calls.{DoesNot, IsMade}
use Rattle.oftp_session.specs.Inside.{IsAccepted, Takes}
use Rattle.oftp_session.specs.InsideReceiving.{HasTaken, Refuses}
use Rattle.oftp_session.proofs.Saying.{step_same}
use Rattle.oftp_session.proofs.Credit.{place_full, place_open}
use Rattle.oftp_session.proofs.Receipts.{carried_next, keep_accepted, keep_fits, kept_within, payload_holds}

-- the steps of DATA
pub too_long : (contact : Contact) (f : Receipt) (payload : List ℕ) → nat_lt contact.link.buffer (length payload + 1) ≡ true → data_step contact f payload ≡ fails BufferSizeError
unfolding data_step
too_long contact f payload h = rw h refl

pub refused : (contact : Contact) (f : Receipt) (payload : List ℕ) (fault : TakeFault) → nat_lt contact.link.buffer (length payload + 1) ≡ false
    → taken (carried_by f) payload ≡ Err fault → data_step contact f payload ≡ ends_at fault
unfolding data_step
refused contact f payload fault h e = rw h (rw e refl)

pub data_window : (contact : Contact) (f : Receipt) (payload : List ℕ) (t : Taking) → nat_lt contact.link.buffer (length payload + 1) ≡ false → taken (carried_by f) payload ≡ Ok t
    → let g = with_payload f payload in data_step contact f payload ≡ window_step contact g (rows_to_keep g (carried_by g))
unfolding data_step
data_window contact f payload t h e =
    let g = with_payload f payload in
    rw h (rw e (ap (λ (x : Taking). window_step contact g (rows_to_keep g x)) (sym (carried_next f payload t e))))

pub window_open : (contact : Contact) (g : Receipt) (rows : List (List ℕ)) → is_window_full contact g ≡ false → window_step contact g rows ≡ quiet (Receiving contact g)
window_open contact g rows h = rw h refl

pub window_full : (contact : Contact) (g : Receipt) (rows : List (List ℕ)) → is_window_full contact g ≡ true
    → window_step contact g rows ≡ answers (Receiving contact (with_rows g rows)) (keeping g.number rows) command.Cdt
window_full contact g rows h = rw h refl

-- what the session's taker took or refused, the phase's does
pub next_taken : (r : Register) (contact : Contact) (f : Receipt) (s : IncomingTransfer) (new : Taking) (payload : List ℕ) → IsReceived r f → Tracks contact f s → taken s.taker payload ≡ Ok new
    → (t : Taking) × (taken (carried_by f) payload ≡ Ok t) × (new ≡ shed (kept_of f) t)
next_taken r contact f s new payload holds at e =
    shed_ok (kept_of f) (carried_by f) new payload (kept_within r f holds) (ap (λ (x : Taking). taken x payload) (sym at.taker) ∙ e)

pub next_refused : (r : Register) (contact : Contact) (f : Receipt) (s : IncomingTransfer) (fault : TakeFault) (payload : List ℕ) → IsReceived r f → Tracks contact f s
    → taken s.taker payload ≡ Err fault → taken (carried_by f) payload ≡ Err fault
next_refused r contact f s fault payload holds at e =
    shed_err (kept_of f) (carried_by f) payload fault (kept_within r f holds) (ap (λ (x : Taking). taken x payload) (sym at.taker) ∙ e)

-- the transfer has one payload more, which isn't counted yet
pub next_tracks : (contact : Contact) (f : Receipt) (s : IncomingTransfer) (new t : Taking) (payload : List ℕ) → Tracks contact f s → taken (carried_by f) payload ≡ Ok t
    → new ≡ shed (kept_of f) t → HasTaken contact (with_payload f payload) (record s { taker = new })
next_tracks contact f s new t payload at e is =
    let n : length (f.payloads ++ payload ∷ []) ≡ length f.payloads + 1 = length-append f.payloads (payload ∷ []) in
    record {
      number = at.number;
      credit = at.credit ∙ ap (λ (m : ℕ). window contact - m % window contact) (let m : length f.payloads ≡ length (f.payloads ++ payload ∷ []) - 1 = omega (arith, n) in m);
      some = omega (arith, n);
      taker = is ∙ ap (shed (kept_of f)) (sym (carried_next f payload t e));
    }

-- the payloads of a window
some_window : (contact : Contact) → 0 < window contact
some_window contact = omega arith

pub credit_open : (contact : Contact) (g : Receipt) (s : IncomingTransfer) → HasTaken contact g s → 1 < s.credit
    → (is_window_full contact g ≡ false) × (max 1 (s.credit - 1) ≡ window contact - length g.payloads % window contact)
credit_open contact g s at more =
    let w = window contact in
    let n : ℕ = length g.payloads - 1 in
    let all : suc n ≡ length g.payloads = omega (arith, at.some) in
    let place : length g.payloads % w ≡ suc (n % w) = ap (λ (m : ℕ). m % w) (sym all) ∙ place_open n w s.credit (some_window contact) more at.credit in
    (ap (λ (m : ℕ). m == 0) place ∙ eqb-suc-zero (n % w), omega (arith, at.credit, place, more))

pub credit_full : (contact : Contact) (g : Receipt) (s : IncomingTransfer) → HasTaken contact g s → s.credit ≤ 1 → (is_window_full contact g ≡ true) × (length g.payloads % window contact ≡ 0)
credit_full contact g s at last =
    let w = window contact in
    let n : ℕ = length g.payloads - 1 in
    let all : suc n ≡ length g.payloads = omega (arith, at.some) in
    let place : length g.payloads % w ≡ 0 = ap (λ (m : ℕ). m % w) (sym all) ∙ place_full n w s.credit (some_window contact) last at.credit in
    (ap (λ (m : ℕ). m == 0) place, place)

-- within a window nothing is sent
pub open_takes : (contact : Contact) (g : Receipt) (s : IncomingTransfer) (now : View) (frame : List ℕ) → HasTaken contact g s → 1 < s.credit → now.stands → frame ≡ []
    → Takes (window_step contact g (rows_to_keep g (carried_by g))) now now frame (Ok (state.Receiving contact (record s { credit = s.credit - 1 })))
open_takes contact g s now frame at more stands hushed =
    let c = credit_open contact g s at more in
    let to : Result State SessionFault = Ok (state.Receiving contact (record s { credit = s.credit - 1 })) in
    let tracks : Tracks contact g (record s { credit = s.credit - 1 }) = record { number = at.number; credit = c.1; taker = at.taker } in
    subst (λ (x : Step). Takes x now now frame to) (sym (window_open contact g (rows_to_keep g (carried_by g)) c.0))
    (record { said = hushed; register = refl; stands = stands; faults = refl }, (record s { credit = s.credit - 1 }, refl, tracks))

-- the rows were removed
keep_tracks : (r : Register) (contact : Contact) (g : Receipt) (s : IncomingTransfer) → IsReceived r g → HasTaken contact g s → length g.payloads % window contact ≡ 0
    → let rows = rows_to_keep g (carried_by g) in let new = record s.taker { rows = []; away = s.taker.away + length s.taker.rows } in
    Tracks contact (with_rows g rows) (record s { credit = contact.link.credit; taker = new })
keep_tracks r contact g s holds at none =
    let t = carried_by g in
    let k = kept_of g in
    let rows = rows_to_keep g t in
    let n : length t.rows ≡ kept_of (with_rows g rows) = omega (arith, holds.kept, holds.most, length-append g.file.rows rows, length-drop k t.rows) in
    record {
      number = at.number;
      credit = (let e : window contact ≡ window contact - length g.payloads % window contact = omega (arith, none) in e);
      taker = ap (λ (x : Taking). let y : Taking = record x { rows = []; away = x.away + length x.rows } in y) at.taker ∙ shed_all k t (kept_within r g holds) ∙ ap (λ m. shed m t) n;
    }

-- the premise on the rows and their change
pub fit_of : (r : Register) (contact : Contact) (g : Receipt) (s : IncomingTransfer) → IsReceived r g → HasTaken contact g s → IsFit r (Keep s.number s.taker.rows)
fit_of r contact g s holds at =
    subst (λ (n : ℕ). IsFit r (Keep n s.taker.rows)) (sym at.number)
    (subst (λ (rows : List (List ℕ)). IsFit r (Keep g.number rows)) (sym (ap (λ (t : Taking). t.rows) at.taker)) (keep_fits r g holds))

pub accepted_of : (r : Register) (contact : Contact) (g : Receipt) (s : IncomingTransfer) → IsReceived r g → HasTaken contact g s → IsAccepted r (Keep s.number s.taker.rows)
accepted_of r contact g s holds at =
    subst (λ (n : ℕ). IsAccepted r (Keep n s.taker.rows)) (sym at.number)
    (subst (λ (rows : List (List ℕ)). IsAccepted r (Keep g.number rows)) (sym (ap (λ (t : Taking). t.rows) at.taker)) (keep_accepted r g holds))

change_of : (contact : Contact) (g : Receipt) (s : IncomingTransfer) → HasTaken contact g s → keeping s.number s.taker.rows ≡ keeping g.number (rows_to_keep g (carried_by g))
change_of contact g s at = ap (λ (n : ℕ). keeping n s.taker.rows) at.number ∙ ap (λ (t : Taking). keeping g.number t.rows) at.taker

-- a full window fails if its rows can't be stored
pub full_fails : (contact : Contact) (g : Receipt) (s : IncomingTransfer) (old new : View) (told : SessionFault) → HasTaken contact g s → s.credit ≤ 1
    → DoesNot (keeping s.number s.taker.rows) old new told → DoesNot (window_step contact g (rows_to_keep g (carried_by g))).change old new told
full_fails contact g s old new told at last d =
    let rows = rows_to_keep g (carried_by g) in
    let full = (credit_full contact g s at last).0 in
    subst (λ (x : Option Change). DoesNot x old new told) (change_of contact g s at ∙ ap (λ (x : Step). x.change) (sym (window_full contact g rows full))) d

-- otherwise the partner gets credit
pub full_takes : (contact : Contact) (g : Receipt) (s next : IncomingTransfer) (old new : View) (frame : List ℕ) → IsReceived old.register g → HasTaken contact g s → s.credit ≤ 1
    → next ≡ (record s { credit = contact.link.credit; taker = record s.taker { rows = []; away = s.taker.away + length s.taker.rows } })
    → IsMade (keeping s.number s.taker.rows) (Some command.Cdt) old new frame
    → Takes (window_step contact g (rows_to_keep g (carried_by g))) old new frame (Ok (state.Receiving contact next))
full_takes contact g s next old new frame holds at last is m =
    let rows = rows_to_keep g (carried_by g) in
    let c = credit_full contact g s at last in
    let made = subst (λ (x : Option Change). IsMade x (Some command.Cdt) old new frame) (change_of contact g s at) m in
    let tracks = subst (Tracks contact (with_rows g rows)) (sym is) (keep_tracks old.register contact g s holds at c.1) in
    subst (λ (x : Step). Takes x old new frame (Ok (state.Receiving contact next))) (sym (window_full contact g rows c.0)) (made, (next, refl, tracks))

-- the rows that are stored are those that the taker returned
pub window_err : (contact : Contact) (g : Receipt) (s : IncomingTransfer) (rows : List (List ℕ)) (old new : View) (told : SessionFault) → IsReceived old.register g
    → HasTaken contact g s → s.credit ≤ 1 → rows ≡ s.taker.rows
    → (IsFit old.register (Keep s.number rows) → IsAccepted old.register (Keep s.number rows) → DoesNot (keeping s.number rows) old new told)
    → DoesNot (window_step contact g (rows_to_keep g (carried_by g))).change old new told
window_err contact g s rows old new told holds at last is does =
    let fit = subst (λ (x : List (List ℕ)). IsFit old.register (Keep s.number x)) (sym is) (fit_of old.register contact g s holds at) in
    let accepted = subst (λ (x : List (List ℕ)). IsAccepted old.register (Keep s.number x)) (sym is) (accepted_of old.register contact g s holds at) in
    full_fails contact g s old new told at last (subst (λ (x : List (List ℕ)). DoesNot (keeping s.number x) old new told) is (does fit accepted))

pub window_ok : (contact : Contact) (g : Receipt) (s : IncomingTransfer) (rows : List (List ℕ)) (taker : Taking) (credit : ℕ) (old new : View) (frame : List ℕ) → IsReceived old.register g
    → HasTaken contact g s → s.credit ≤ 1 → rows ≡ s.taker.rows → taker ≡ (record s.taker { rows = []; away = s.taker.away + length s.taker.rows }) → credit ≡ contact.link.credit
    → frame ≡ frame_of command.Cdt
    → (IsFit old.register (Keep s.number rows) → IsAccepted old.register (Keep s.number rows) → IsMade (keeping s.number rows) None old new [])
    → Takes (window_step contact g (rows_to_keep g (carried_by g))) old new frame (Ok (state.Receiving contact (record { number = s.number; credit = credit; taker = taker })))
window_ok contact g s rows taker credit old new frame holds at last is rest value said does =
    let fit = subst (λ (x : List (List ℕ)). IsFit old.register (Keep s.number x)) (sym is) (fit_of old.register contact g s holds at) in
    let accepted = subst (λ (x : List (List ℕ)). IsAccepted old.register (Keep s.number x)) (sym is) (accepted_of old.register contact g s holds at) in
    let m = subst (λ (x : List (List ℕ)). IsMade (keeping s.number x) None old new []) is (does fit accepted) in
    let made : IsMade (keeping s.number s.taker.rows) (Some command.Cdt) old new frame = record { said = said; register = m.register; stands = m.stands; faults = m.faults } in
    let next : (record s { credit = credit; taker = taker }) ≡ (record s { credit = contact.link.credit; taker = record s.taker { rows = []; away = s.taker.away + length s.taker.rows } }) =
    ap (λ (n : ℕ). let x : IncomingTransfer = record s { credit = n; taker = taker } in x) value
    ∙ ap (λ (t : Taking). let x : IncomingTransfer = record s { credit = contact.link.credit; taker = t } in x) rest in
    full_takes contact g s (record { number = s.number; credit = credit; taker = taker }) old new frame holds at last next made

-- a payload that is taken
pub data_takes : (contact : Contact) (f : Receipt) (s : IncomingTransfer) (taker : Taking) (payload : List ℕ) (old new : View) (frame : List ℕ) (result : Result State SessionFault)
    → IsReceived old.register f → Tracks contact f s → nat_lt contact.link.buffer (length payload + 1) ≡ false → taken s.taker payload ≡ Ok taker
    → ((g : Receipt) → IsReceived old.register g → HasTaken contact g (record s { taker = taker }) → Takes (window_step contact g (rows_to_keep g (carried_by g))) old new frame result)
    → Takes (data_step contact f payload) old new frame result
data_takes contact f s taker payload old new frame result holds at short took takes =
    let t = next_taken old.register contact f s taker payload holds at took in
    let now = payload_holds old.register f t.0 payload holds t.1 in
    let has = next_tracks contact f s taker t.0 payload at t.1 t.2 in
    subst (λ (x : Step). Takes x old new frame result) (sym (data_window contact f payload t.0 short t.1)) (takes (with_payload f payload) now has)

-- a payload that is refused
pub refused_takes : (contact : Contact) (f : Receipt) (s : IncomingTransfer) (payload : List ℕ) (cause : TakeFault) (now : View) (frame : List ℕ) (result : Result State SessionFault) → now.stands
    → IsReceived now.register f → Tracks contact f s → nat_lt contact.link.buffer (length payload + 1) ≡ false
    → (cause ≡ take.Memory) ⊎ (taken s.taker payload ≡ Err cause) → Refuses cause result frame → Takes (data_step contact f payload) now now frame result
refused_takes contact f s payload cause now frame (Ok to) stands holds at short told goes = elim told [
  | inl e ↦ absurd (let none : None ≡ Some goes.0 = sym (ap reason_of e) ∙ goes.1 in let no : ⊥ = cc in no)
  | inr e ↦ (let reason : ends_at cause ≡ fails goes.0 = ap (λ o. fails (unwrap_or o ProtocolViolation)) goes.1 in
      let is = refused contact f payload cause short (next_refused now.register contact f s cause payload holds at e) ∙ reason in
      step_same (data_step contact f payload) (fails goes.0) now to frame stands is goes.2)
]
refused_takes contact f s payload cause now frame (Err told') stands holds at short told goes =
    subst (λ (x : SessionFault). DoesNot (data_step contact f payload).change now now x) (sym goes.1) (record { register = refl; stands = stands; faults = refl })
