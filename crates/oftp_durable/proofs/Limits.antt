-- No change modifies the limits of a register.
use Rattle.std.proofs.Common.{◌≡◌, ◌∙◌, sym, ap, refl, List, [], ◌∷◌, fold, ℕ, Result, Ok, Err}
use Rattle.oftp_register.specs.declared.change.Cause.{Cause}
use Rattle.oftp_register.specs.declared.change.Change.{Change}
use Rattle.oftp_register.specs.declared.change.Change.TheVariants as change
use Rattle.oftp_register.specs.declared.entry.Dispatch.TheVariants.{Due}
use Rattle.oftp_register.specs.Register.{Register, Incoming, Outgoing}
use Rattle.oftp_register.specs.Changes.{apply, apply_all, at_number, closed, closing, given_up, go_on_by, handed, issued, kept, marked, new_incoming, new_outgoing, on_incoming, on_outgoing, refused, reopened, sent, started_in}
use Rattle.oftp_register.proofs.AdditionLemmas.{filed_ok, submitted_ok}
use Rattle.oftp_register.proofs.NumberLemmas.{mapped_ok}

incoming_limits : (f : Incoming → Result Incoming Cause) (n : ℕ) (r s : Register) → on_incoming f n r ≡ Ok s → s.limits ≡ r.limits
incoming_limits f n r s h =
    let part = mapped_ok (λ files. record r { incoming = files }) (at_number f n r.incoming) s h in
    sym (ap (λ (x : Register). x.limits) part.2)

outgoing_limits : (f : Outgoing → Result Outgoing Cause) (n : ℕ) (r s : Register) → on_outgoing f n r ≡ Ok s → s.limits ≡ r.limits
outgoing_limits f n r s h =
    let part = mapped_ok (λ files. record r { outgoing = files }) (at_number f n r.outgoing) s h in
    sym (ap (λ (x : Register). x.limits) part.2)

change_limits : (r : Register) (k : Change) (s : Register) → apply r k ≡ Ok s → s.limits ≡ r.limits
unfolding apply
change_limits r (change.Submit identity format longest description rows) s h =
    sym (ap (λ (x : Register). x.limits) (submitted_ok r s (new_outgoing identity format longest description rows) h).1)
change_limits r (change.Start identity format longest description count) s h =
    let header = new_incoming identity format longest description in
    let part = mapped_ok (λ files. record r { incoming = files }) (started_in r header count r.incoming) s h in
    sym (ap (λ (x : Register). x.limits) part.2)
change_limits r (change.Keep n rows) s h = incoming_limits (kept rows) n r s h
change_limits r (change.Close n rows) s h = incoming_limits (closed rows) n r s h
change_limits r (change.GiveUp n) s h = incoming_limits given_up n r s h
change_limits r (change.File kind identity reason creator text) s h =
    sym (ap (λ (x : Register). x.limits) (filed_ok r s (record { kind = kind; identity = identity; reason = reason; creator = creator; text = text }) h).1)
change_limits r (change.Issue n kind reason text) s h = incoming_limits (issued (record { kind = kind; reason = reason; text = text; dispatch = Due })) n r s h
change_limits r (change.Mark n rows) s h = outgoing_limits (marked rows) n r s h
change_limits r (change.BeginClosing n) s h = outgoing_limits closing n r s h
change_limits r (change.HandOver n) s h = outgoing_limits handed n r s h
change_limits r (change.Refuse n reason) s h = outgoing_limits (refused reason) n r s h
change_limits r (change.Reopen n) s h = outgoing_limits reopened n r s h
change_limits r (change.Send n) s h = incoming_limits sent n r s h

-- changes in order, from a register or a refusal on
pub all_limits : (changes : List Change) (so_far : Result Register Cause) (s : Register) → fold go_on_by so_far changes ≡ Ok s → (r : Register) × (so_far ≡ Ok r) × (s.limits ≡ r.limits)
all_limits [] so_far s h = (s, h, refl)
all_limits (k ∷ ks) (Ok r) s h = let p = all_limits ks (apply r k) s h in (r, refl, p.2 ∙ change_limits r k p.0 p.1)
all_limits (k ∷ ks) (Err cause) s h = let p = all_limits ks (Err cause) s h in let e : Err cause ≡ Ok p.0 = p.1 in absurd (cc)

pub changes_limits : (changes : List Change) (r s : Register) → apply_all r changes ≡ Ok s → s.limits ≡ r.limits
changes_limits changes r s h =
    let p = all_limits changes (Ok r) s h in
    let is : p.0 ≡ r = let e : Ok r ≡ Ok p.0 = p.1 in cc in
    p.2 ∙ ap (λ (x : Register). x.limits) is
