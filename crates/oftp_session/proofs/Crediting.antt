-- What the session does at CDT and at the end of a file that it sends, as a step.
use Rattle.std.proofs.Common.{◌≡◌, ℕ, suc, ◌+◌, ◌-◌, ◌*◌, ◌<◌, ◌≤◌, ◌==◌, Bool, true, false, cond, List, [], length, take, slice_get, Option, None, Some, Result, Ok, Err, refl, sym, ap, ◌∙◌, subst, arith}
use Rattle.std.proofs.Math.Nat.{suc-mul}
use Rattle.std.proofs.lemmas.Bool.{eqb-true}
use Rattle.std.proofs.lemmas.List.{length-take-le}
use Rattle.oftp_wire.specs.declared.command.Command.{Command}
use Rattle.oftp_wire.specs.declared.command.Command.TheVariants as command
use Rattle.oftp_vfile.specs.declared.format.Format.{Format}
use Rattle.oftp_vfile.specs.VirtualFile.{is_stream, AreRows}
use Rattle.oftp_vfile.specs.Fill.{wholly_sent}
use Rattle.oftp_vfile.proofs.LendLemmas.{rows_from as left_rows}
use Rattle.oftp_vfile.proofs.SentLemmas.{mark_sent}
use Rattle.oftp_register.specs.declared.change.Change.{Change}
use Rattle.oftp_register.specs.declared.change.Change.TheVariants.{Mark, BeginClosing}
use Rattle.oftp_register.specs.Register.{Register}
use Rattle.oftp_register.specs.Offices.{View}
use Rattle.oftp_register.specs.Soundness.{IsFit, IsSound, IsSoundOutgoing}
use Rattle.oftp_register.proofs.EntryLemmas.{all_at}
use Rattle.oftp_session.specs.declared.sending.OutgoingTransfer.{OutgoingTransfer}
use Rattle.oftp_session.specs.declared.session.SessionFault.{SessionFault}
use Rattle.oftp_session.specs.declared.state.Contact.{Contact}
use Rattle.oftp_session.specs.declared.state.State.TheVariants as state
use Rattle.oftp_session.specs.Phases.{Transfer, Step, frame_of}
use Rattle.oftp_session.specs.Receiving.{window}
use Rattle.oftp_session.specs.Sending.{credited, credited_transfer, efid_of, marking, new_mark, payload_size, payloads_in, rows_from, turned_sending}
use Rattle.oftp_session.specs.Steps.{IsSent}
use Rattle.oftp_session.specs.Standings.{Awaits, Ships}
use Rattle.oftp_session.specs.Calls.{DoesNot, IsMade}
use Rattle.oftp_session.specs.Inside.{IsAccepted, MakesChange, Takes}
use Rattle.oftp_session.proofs.Outgoing.{closing_accepted, closing_fits, mark_accepted, mark_fits, mark_within}
use Rattle.oftp_session.proofs.Saying.{answered}
use Rattle.oftp_session.proofs.Shipping.{turned_next}

-- CDT

-- if no credit is left, as many payloads were sent as it covered, and there was room for them
used_up : (contact : Contact) (t : Transfer) (s : OutgoingTransfer) → Ships contact t s → s.credit ≡ 0 → t.sent ≡ (t.credits + 1) * window contact
used_up contact t s at none = let c = at.credit in let all : ℕ = (t.credits + 1) * window contact in all_of all t.sent (omega (arith, c, none)) at.covered
  where
    all_of : (all sent : ℕ) → all - sent ≡ 0 → sent ≤ all → sent ≡ all
    all_of all sent e h = omega (arith, e, h)

some_sent : (n w : ℕ) → 1 ≤ w → 0 < (n + 1) * w
some_sent n w h = let e : (n + 1) * w ≡ n * w + w = ap (λ k. k * w) (let q : n + 1 ≡ suc n = omega arith in q) ∙ suc-mul n w in omega (arith, e, h)

-- the filler's mark is the new one
pub marks : (r : Register) (contact : Contact) (t : Transfer) (s : OutgoingTransfer) (mark : ℕ) → IsSound r → IsSent r t → Ships contact t s → s.credit ≡ 0
    → mark ≡ s.filler.mark → mark ≡ new_mark contact t
marks r contact t s mark sound holds at none is =
    let file : IsSoundOutgoing t.file = all_at IsSoundOutgoing t.number r.outgoing t.file sound.outgoing holds.entry in
    let size = payload_size contact in
    let rows = rows_from t in
    let are = subst (λ (f : Format). AreRows f t.file.longest rows) (sym at.format) (left_rows t.file.format t.file.longest t.from t.file.rows file.fits) in
    let used = used_up contact t s at none in
    let some = some_sent t.credits (window contact) (omega arith) in
    let sent : 0 < t.sent = subst (λ n. 0 < n) (sym used) some in
    let count : length (take t.sent (payloads_in contact t)) ≡ t.sent = length-take-le t.sent (payloads_in contact t) at.most in
    is ∙ mark_sent s.filler t.file.longest size t.from rows (take t.sent (payloads_in contact t)) (at.room sent) are at.sent
    ∙ ap (λ (f : Format). t.from + wholly_sent f size rows (length (take t.sent (payloads_in contact t)))) at.format
    ∙ ap (λ n. t.from + wholly_sent t.file.format size rows n) count

-- the credit is full again
pub credited_ships : (contact : Contact) (t : Transfer) (s new : OutgoingTransfer) (mark : ℕ) → Ships contact t s → s.credit ≡ 0
    → new ≡ record s { mark = mark; credit = window contact } → Ships contact (credited_transfer t mark) new
credited_ships contact t s new mark at none is = subst (Ships contact (credited_transfer t mark)) (sym is) (record {
  number = at.number;
  format = at.format;
  longest = at.longest;
  rows = at.rows;
  units = at.units;
  mark = refl;
  credit = full;
  covered = more;
  room = at.room;
  most = at.most;
  sent = at.sent;
  page = record { first = at.page.first; place = at.page.place };
})
  where
    w : ℕ
    w = window contact

    next : (t.credits + 1 + 1) * w ≡ (t.credits + 1) * w + w
    next = ap (λ k. k * w) (let q : t.credits + 1 + 1 ≡ suc (t.credits + 1) = omega arith in q) ∙ suc-mul (t.credits + 1) w

    left : (all more w sent : ℕ) → more ≡ all + w → sent ≡ all → w ≡ more - sent
    left all more w sent e h = omega (arith, e, h)

    full : w ≡ (t.credits + 1 + 1) * w - t.sent
    full = left ((t.credits + 1) * w) ((t.credits + 1 + 1) * w) w t.sent next (used_up contact t s at none)

    within : (all more w sent : ℕ) → more ≡ all + w → sent ≤ all → sent ≤ more
    within all more w sent e h = omega (arith, e, h)

    more : t.sent ≤ (t.credits + 1 + 1) * w
    more = within ((t.credits + 1) * w) ((t.credits + 1 + 1) * w) w t.sent next at.covered

-- the change of the step, if the mark differs
mark_is : (t : Transfer) (s : OutgoingTransfer) (mark number : ℕ) → number ≡ t.number → s.mark ≡ t.file.mark → (mark ≡ s.mark → ⊥) → marking t mark ≡ Some (Mark number mark)
mark_is t s mark number n m other = by (mark == t.file.mark) refl
  where
    by : (b : Bool) → (mark == t.file.mark) ≡ b → (let o : Option Change = cond b None (Some (Mark t.number mark)) in o) ≡ Some (Mark number mark)
    by true e = absurd (other (eqb-true mark t.file.mark e ∙ sym m))
    by false e = ap (λ k. let o : Option Change = Some (Mark k mark) in o) (sym n)

-- what the office does with the mark is the change of the step

covers : {T : Type 0} (t : Transfer) (s : OutgoingTransfer) (mark : ℕ) (old new : View) (result : Result T SessionFault) → mark ≡ s.filler.mark → IsSent old.register t → t.number ≡ s.number
    → t.file.mark ≡ s.mark → s.filler.mark ≤ length t.file.rows → (mark ≡ s.mark → ⊥)
    → (IsFit old.register (Mark s.number mark) → IsAccepted old.register (Mark s.number mark) → MakesChange (Some (Mark s.number mark)) old new result)
    → MakesChange (marking t s.filler.mark) old new result
covers t s mark old new result is holds number was within other does =
    let accepted = subst (λ k. IsAccepted old.register (Mark k mark)) number (mark_accepted old.register t mark holds (omega (arith, is, within))) in
    subst (λ n. MakesChange (marking t n) old new result) is
    (subst (λ (x : Option Change). MakesChange x old new result) (sym (mark_is t s mark s.number (sym number) (sym was) other)) (does (mark_fits old.register s.number mark) accepted))

pub covers_err : (t : Transfer) (s : OutgoingTransfer) (mark : ℕ) (old new : View) (told : SessionFault) → mark ≡ s.filler.mark → IsSent old.register t → t.number ≡ s.number → t.file.mark ≡ s.mark
    → s.filler.mark ≤ length t.file.rows → (mark ≡ s.mark → ⊥)
    → (IsFit old.register (Mark s.number mark) → IsAccepted old.register (Mark s.number mark) → DoesNot (Some (Mark s.number mark)) old new told)
    → DoesNot (marking t s.filler.mark) old new told
covers_err t s mark old new told is holds number was within other does = covers {T = ℕ} t s mark old new (Err told) is holds number was within other does

pub covers_ok : (t : Transfer) (s : OutgoingTransfer) (mark : ℕ) (old new : View) → mark ≡ s.filler.mark → IsSent old.register t → t.number ≡ s.number → t.file.mark ≡ s.mark
    → s.filler.mark ≤ length t.file.rows → (mark ≡ s.mark → ⊥)
    → (IsFit old.register (Mark s.number mark) → IsAccepted old.register (Mark s.number mark) → IsMade (Some (Mark s.number mark)) None old new [])
    → IsMade (marking t s.filler.mark) None old new []
covers_ok t s mark old new is holds number was within other does = covers {T = ℕ} t s mark old new (Ok 0) is holds number was within other does

-- the step of CDT

-- the mark is one of the file's
mark_there : (r : Register) (contact : Contact) (t : Transfer) (mark : ℕ) → IsSound r → IsSent r t → mark ≡ new_mark contact t → mark ≤ length t.file.rows
mark_there r contact t mark sound holds is = subst (λ n. n ≤ length t.file.rows) (sym is) (mark_within r contact t sound holds)

-- the change that the office was given
abbrev pub Covered : Transfer → OutgoingTransfer → View → Type 0
Covered t s old = IsSent old.register t × (t.number ≡ s.number) × (t.file.mark ≡ s.mark) × (s.filler.mark ≤ length t.file.rows)

is_covered : (contact : Contact) (t : Transfer) (s : OutgoingTransfer) (old : View) → IsSound old.register → IsSent old.register t → Ships contact t s → s.credit ≡ 0 → Covered t s old
is_covered contact t s old sound holds at none =
    (holds, sym at.number, sym at.mark, mark_there old.register contact t s.filler.mark sound holds (marks old.register contact t s s.filler.mark sound holds at none refl))

pub credit_err : (contact : Contact) (t : Transfer) (s : OutgoingTransfer) (old new : View) (told : SessionFault) → IsSound old.register → IsSent old.register t → Ships contact t s → s.credit ≡ 0
    → (Covered t s old → DoesNot (marking t s.filler.mark) old new told) → DoesNot (marking t (new_mark contact t)) old new told
credit_err contact t s old new told sound holds at none does =
    subst (λ n. DoesNot (marking t n) old new told) (marks old.register contact t s s.filler.mark sound holds at none refl) (does (is_covered contact t s old sound holds at none))

pub credit_ok : (contact : Contact) (t : Transfer) (s covered : OutgoingTransfer) (credit : ℕ) (old new : View) (frame : List ℕ) → IsSound old.register → IsSent old.register t → Ships contact t s
    → s.credit ≡ 0 → covered ≡ (record s { mark = s.filler.mark }) → credit ≡ window contact → frame ≡ []
    → (Covered t s old → IsMade (marking t s.filler.mark) None old new [])
    → Takes (credited contact t (new_mark contact t)) old new frame (Ok (state.Sending contact (record covered { credit = credit })))
credit_ok contact t s covered credit old new frame sound holds at none is full said does =
    let mark : s.filler.mark ≡ new_mark contact t = marks old.register contact t s s.filler.mark sound holds at none refl in
    let made = does (is_covered contact t s old sound holds at none) in
    let result : OutgoingTransfer = record covered { credit = credit } in
    let same : result ≡ record s { mark = s.filler.mark; credit = window contact } =
    ap (λ (x : OutgoingTransfer). let y : OutgoingTransfer = record x { credit = credit } in y) is
    ∙ ap (λ n. let y : OutgoingTransfer = record s { mark = s.filler.mark; credit = n } in y) full in
    subst (λ n. Takes (credited contact t n) old new frame (Ok (state.Sending contact result))) mark
    (record { said = said; register = made.register; stands = made.stands; faults = made.faults }, (result, refl, credited_ships contact t s result s.filler.mark at none same))

-- the end of a file

-- the end of a file with this number of rows and of octets
abbrev pub efid_with : Format → ℕ → ℕ → Command
efid_with format rows units = command.Efid (record { records = cond (is_stream format) 0 rows; units = units })

-- it has the counts of the transfer
efid_is : (contact : Contact) (t : Transfer) (s : OutgoingTransfer) → Ships contact t s → efid_with s.filler.format s.rows s.units ≡ efid_of t.file
efid_is contact t s at =
    ap (λ (f : Format). efid_with f s.rows s.units) at.format ∙ ap (λ n. efid_with t.file.format n s.units) at.rows ∙ ap (λ n. efid_with t.file.format (length t.file.rows) n) at.units

closes : (contact : Contact) (t : Transfer) (s : OutgoingTransfer) (old : View) → IsSent old.register t → Ships contact t s
    → IsFit old.register (BeginClosing s.number) × IsAccepted old.register (BeginClosing s.number)
closes contact t s old holds at =
    (closing_fits old.register s.number, subst (λ n. IsAccepted old.register (BeginClosing n)) (sym at.number) (closing_accepted old.register t holds))

pub end_err : (contact : Contact) (t : Transfer) (s : OutgoingTransfer) (old new : View) (told : SessionFault) → IsSent old.register t
    → Ships contact t s → 0 < s.credit → slice_get (payloads_in contact t) t.sent ≡ None
    → (IsFit old.register (BeginClosing s.number) → IsAccepted old.register (BeginClosing s.number) → DoesNot (Some (BeginClosing s.number)) old new told)
    → DoesNot (turned_sending contact t).change old new told
end_err contact t s old new told holds at some none does =
    let may = closes contact t s old holds at in
    let not : DoesNot (Some (BeginClosing t.number)) old new told = subst (λ n. DoesNot (Some (BeginClosing n)) old new told) at.number (does may.0 may.1) in
    subst (λ (x : Step). DoesNot x.change old new told) (sym (turned_next contact t s None at some none)) not

pub end_ok : (contact : Contact) (t : Transfer) (s : OutgoingTransfer) (old new : View) (frame : List ℕ) → IsSent old.register t → Ships contact t s → 0 < s.credit
    → slice_get (payloads_in contact t) t.sent ≡ None → frame ≡ frame_of (efid_with s.filler.format s.rows s.units)
    → (IsFit old.register (BeginClosing s.number) → IsAccepted old.register (BeginClosing s.number) → IsMade (Some (BeginClosing s.number)) None old new [])
    → Takes (turned_sending contact t) old new frame (Ok (state.AwaitingEnd contact s.number))
end_ok contact t s old new frame holds at some none said does =
    let may = closes contact t s old holds at in
    let made = subst (λ n. IsMade (Some (BeginClosing n)) None old new []) at.number (does may.0 may.1) in
    subst (λ (x : Step). Takes x old new frame (Ok (state.AwaitingEnd contact s.number))) (sym (turned_next contact t s None at some none))
    (answered (Some (BeginClosing t.number)) (efid_of t.file) old new frame (said ∙ ap frame_of (efid_is contact t s at)) made, ap (Awaits contact) at.number)
