-- What the session does at EFID, as a step.
use Rattle.std.proofs.Common.{◌≡◌, ℕ, Bool, true, false, None, Some, Result, Ok, List, [], refl, sym, ap, ◌∙◌, subst}
use Rattle.oftp_wire.specs.declared.command.Efid.{Efid}
use Rattle.oftp_wire.specs.declared.reason.EndReason.{EndReason}
use Rattle.oftp_wire.specs.declared.reason.SessionReason.TheVariants.{ProtocolViolation}
use Rattle.oftp_vfile.specs.VirtualFile.{closed}
use Rattle.oftp_vfile.specs.Carries.{is_open}
use Rattle.oftp_vfile.specs.Taking.{Taking, counts_of}
use Rattle.oftp_register.specs.declared.change.Change.{Change}
use Rattle.oftp_register.specs.declared.change.Change.TheVariants.{Close, GiveUp}
use Rattle.oftp_register.specs.declared.verdicts.EndVerdict.{EndVerdict}
use Rattle.oftp_register.specs.declared.verdicts.EndVerdict.TheVariants as «end»
use Rattle.oftp_register.specs.Register.{Register}
use Rattle.oftp_register.specs.Soundness.{IsFit, IsSound}
use Rattle.oftp_register.specs.Offices.{View}
use Rattle.oftp_register.specs.Verdicts.{end_verdict}
use Rattle.oftp_register.proofs.EntryLemmas.{give_up_fit}
use Rattle.oftp_session.specs.declared.receiving.IncomingTransfer.{IncomingTransfer}
use Rattle.oftp_session.specs.declared.session.SessionFault.{SessionFault}
use Rattle.oftp_session.specs.declared.state.Contact.{Contact}
use Rattle.oftp_session.specs.declared.state.State.{State}
use Rattle.oftp_session.specs.declared.state.State.TheVariants as state
use Rattle.oftp_session.specs.Phases.{Receipt, Step, fails, frame_of}
use Rattle.oftp_session.specs.Receiving.{asks_to_speak, carried_by, efna_of, efpa_of, end_step, on_end_verdict, rows_to_keep}
use Rattle.oftp_session.specs.Steps.{IsReceived}
use Rattle.oftp_session.specs.Standings.{Tracks}
use Rattle.oftp_session.specs.Calls.{DoesNot, IsMade}
use Rattle.oftp_session.specs.Inside.{IsAccepted, Takes}
use Rattle.oftp_session.proofs.Saying.{answered}
use Rattle.oftp_session.proofs.Views.{then_fails, then_made}
use Rattle.oftp_session.proofs.Ends.{close_accepted, close_fits, counts_are, end_by, end_open, give_up_accepted, last_of, open_of}

-- the change of a verdict is fit and accepted

close_fit : (r : Register) (contact : Contact) (f : Receipt) (s : IncomingTransfer) (rows : List (List ℕ)) → IsSound r → IsReceived r f → Tracks contact f s
    → is_open (carried_by f).stage ≡ false → rows ≡ closed s.taker.rows s.taker.tail → IsFit r (Close s.number rows)
close_fit r contact f s rows sound holds at shut is =
    subst (λ (n : ℕ). IsFit r (Close n rows)) (sym at.number)
    (subst (λ (x : List (List ℕ)). IsFit r (Close f.number x)) (sym (is ∙ last_of contact f s at)) (close_fits r f sound holds shut))

close_goes : (r : Register) (contact : Contact) (f : Receipt) (s : IncomingTransfer) (rows : List (List ℕ)) → IsReceived r f → Tracks contact f s → IsAccepted r (Close s.number rows)
close_goes r contact f s rows holds at = subst (λ (n : ℕ). IsAccepted r (Close n rows)) (sym at.number) (close_accepted r f rows holds)

give_up_goes : (r : Register) (contact : Contact) (f : Receipt) (s : IncomingTransfer) → IsReceived r f → Tracks contact f s → IsAccepted r (GiveUp s.number)
give_up_goes r contact f s holds at = subst (λ (n : ℕ). IsAccepted r (GiveUp n)) (sym at.number) (give_up_accepted r f holds)

-- it is the change of the verdict's step

close_is : (contact : Contact) (f : Receipt) (s : IncomingTransfer) (rows : List (List ℕ)) → Tracks contact f s → rows ≡ closed s.taker.rows s.taker.tail
    → Close s.number rows ≡ Close f.number (closed (rows_to_keep f (carried_by f)) (carried_by f).tail)
close_is contact f s rows at is = ap (λ (n : ℕ). Close n rows) at.number ∙ ap (λ (x : List (List ℕ)). Close f.number x) (is ∙ last_of contact f s at)

give_up_is : (contact : Contact) (f : Receipt) (s : IncomingTransfer) → Tracks contact f s → GiveUp s.number ≡ GiveUp f.number
give_up_is contact f s at = ap (λ (n : ℕ). GiveUp n) at.number

-- by the verdict, the step

pub open_fails : (contact : Contact) (r : Register) (f : Receipt) (s : IncomingTransfer) (efid : Efid) → Tracks contact f s → is_open s.taker.stage ≡ true
    → end_step contact r f efid ≡ fails ProtocolViolation
open_fails contact r f s efid at was = end_open contact r f efid (sym (open_of contact f s at) ∙ was)

verdict_is : (contact : Contact) (r : Register) (f : Receipt) (s : IncomingTransfer) (efid : Efid) (verdict : EndVerdict) → IsReceived r f → Tracks contact f s
    → end_verdict efid (counts_of s.taker).0 (counts_of s.taker).1 ≡ verdict → end_verdict efid (counts_of (carried_by f)).0 (counts_of (carried_by f)).1 ≡ verdict
verdict_is contact r f s efid verdict holds at v = ap (λ (p : ℕ × ℕ). end_verdict efid p.0 p.1) (sym (counts_are r contact f s holds at)) ∙ v

pub by_verdict : (contact : Contact) (r : Register) (f : Receipt) (s : IncomingTransfer) (efid : Efid) (verdict : EndVerdict) (old new : View) (frame : List ℕ) (result : Result State SessionFault)
    → IsReceived r f → Tracks contact f s → is_open s.taker.stage ≡ false → end_verdict efid (counts_of s.taker).0 (counts_of s.taker).1 ≡ verdict
    → Takes (on_end_verdict contact r f (carried_by f) verdict) old new frame result → Takes (end_step contact r f efid) old new frame result
by_verdict contact r f s efid verdict old new frame result holds at shut v h =
    let closed_off = sym (open_of contact f s at) ∙ shut in
    subst (λ (x : Step). Takes x old new frame result) (sym (end_by contact r f efid verdict closed_off (verdict_is contact r f s efid verdict holds at v))) h

-- the file is closed, after the look-up of the next item

asked : (contact : Contact) (f : Receipt) (s : IncomingTransfer) (rows : List (List ℕ)) (old mid : View) → IsSound mid.register → IsReceived old.register f → Tracks contact f s
    → is_open (carried_by f).stage ≡ false → rows ≡ closed s.taker.rows s.taker.tail → IsMade None None old mid []
    → IsFit mid.register (Close s.number rows) × IsAccepted mid.register (Close s.number rows)
asked contact f s rows old mid sound holds at shut is was =
    let now = subst (λ (r : Register). IsReceived r f) (sym was.register) holds in
    (close_fit mid.register contact f s rows sound now at shut is, close_goes mid.register contact f s rows now at)

pub close_err : (contact : Contact) (f : Receipt) (s : IncomingTransfer) (rows : List (List ℕ)) (old mid new : View) (told : SessionFault) → IsSound mid.register → IsReceived old.register f
    → Tracks contact f s → is_open (carried_by f).stage ≡ false → rows ≡ closed s.taker.rows s.taker.tail → IsMade None None old mid []
    → (IsFit mid.register (Close s.number rows) → IsAccepted mid.register (Close s.number rows) → DoesNot (Some (Close s.number rows)) mid new told)
    → DoesNot (on_end_verdict contact old.register f (carried_by f) «end».Accept).change old new told
close_err contact f s rows old mid new told sound holds at shut is was does =
    let asks = asked contact f s rows old mid sound holds at shut is was in
    subst (λ (x : Change). DoesNot (Some x) old new told) (close_is contact f s rows at is) (then_fails (Some (Close s.number rows)) told old mid new was (does asks.0 asks.1))

pub close_ok : (contact : Contact) (f : Receipt) (s : IncomingTransfer) (rows : List (List ℕ)) (speaks : Bool) (old mid new : View) (frame : List ℕ) → IsSound mid.register → IsReceived old.register f
    → Tracks contact f s → is_open (carried_by f).stage ≡ false → rows ≡ closed s.taker.rows s.taker.tail → IsMade None None old mid []
    → speaks ≡ asks_to_speak contact old.register → frame ≡ frame_of (efpa_of speaks)
    → (IsFit mid.register (Close s.number rows) → IsAccepted mid.register (Close s.number rows) → IsMade (Some (Close s.number rows)) None mid new [])
    → Takes (on_end_verdict contact old.register f (carried_by f) «end».Accept) old new frame (Ok (state.ListenerIdle contact))
close_ok contact f s rows speaks old mid new frame sound holds at shut is was asks said does =
    let asked_of = asked contact f s rows old mid sound holds at shut is was in
    let made = then_made (Some (Close s.number rows)) None [] old mid new was (does asked_of.0 asked_of.1) in
    let its = subst (λ (x : Change). IsMade (Some x) None old new []) (close_is contact f s rows at is) made in
    (answered _ (efpa_of (asks_to_speak contact old.register)) old new frame (said ∙ ap (λ (b : Bool). frame_of (efpa_of b)) asks) its, refl)

-- its rows are deleted

pub give_up_err : (contact : Contact) (f : Receipt) (s : IncomingTransfer) (reason : EndReason) (old new : View) (told : SessionFault) → IsReceived old.register f → Tracks contact f s
    → (IsFit old.register (GiveUp s.number) → IsAccepted old.register (GiveUp s.number) → DoesNot (Some (GiveUp s.number)) old new told)
    → DoesNot (on_end_verdict contact old.register f (carried_by f) («end».Refuse reason)).change old new told
give_up_err contact f s reason old new told holds at does =
    subst (λ (x : Change). DoesNot (Some x) old new told) (give_up_is contact f s at) (does (give_up_fit old.register s.number) (give_up_goes old.register contact f s holds at))

pub give_up_ok : (contact : Contact) (f : Receipt) (s : IncomingTransfer) (reason : EndReason) (old new : View) (frame : List ℕ) → IsReceived old.register f → Tracks contact f s
    → frame ≡ frame_of (efna_of reason)
    → (IsFit old.register (GiveUp s.number) → IsAccepted old.register (GiveUp s.number) → IsMade (Some (GiveUp s.number)) None old new [])
    → Takes (on_end_verdict contact old.register f (carried_by f) («end».Refuse reason)) old new frame (Ok (state.ListenerIdle contact))
give_up_ok contact f s reason old new frame holds at said does =
    let made = does (give_up_fit old.register s.number) (give_up_goes old.register contact f s holds at) in
    (answered _ (efna_of reason) old new frame said (subst (λ (x : Change). IsMade (Some x) None old new []) (give_up_is contact f s at) made), refl)

-- the verdict on the taker's counts
pub told_verdict : (efid : Efid) (t : Taking) (counts : ℕ × ℕ) (verdict : EndVerdict) → counts ≡ counts_of t → end_verdict efid counts.0 counts.1 ≡ verdict
    → end_verdict efid (counts_of t).0 (counts_of t).1 ≡ verdict
told_verdict efid t counts verdict is v = ap (λ (p : ℕ × ℕ). end_verdict efid p.0 p.1) (sym is) ∙ v
