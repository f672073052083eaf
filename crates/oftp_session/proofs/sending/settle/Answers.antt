use Rattle.std.proofs.Common.{◌≡◌, ◌==◌, ◌&&◌, ◌∙◌, ℕ, Bool, true, false, sym, ap}
use Rattle.oftp_session.proofs.Replying.{duplicate_given, given_up}
use Rattle.oftp_session.proofs.sending.settle.Goals.{else-eq-via-then-eq+else-offered, else-eq-via-else-eq}
use Rattle.oftp_session.proofs.sending.settle.Goals as goal

pub returns-then-offered-clause-does : goal.returns-then-offered-clause-does
returns-then-offered-clause-does g c = λ clean stands offer holds is.
    let reason : (c.args.sfna.now.reason == 13) ≡ true = ap (λ (n : ℕ). c.args.sfna.now.reason == n) (sym c.number.ensures) ∙ sym c.eq.ensures ∙ c.if-eq.true in
    duplicate_given c.args.offered.now offer c.args.sfna.now _ _ c.make.result holds is reason c.if-offered.true (c.make.ensures.does clean stands)

pub returns-clause-does : goal.returns-clause-does
returns-clause-does g c = λ clean stands offer holds is.
    let test : c.eq.result ≡ (c.args.sfna.now.reason == 13) = c.eq.ensures ∙ ap (λ (n : ℕ). c.args.sfna.now.reason == n) c.number.ensures in
    let other : (c.args.sfna.now.reason == 13 && c.args.offered.now.is_closing) ≡ false =
    elim c.else-eq.branch [
      | else-eq-via-then-eq+else-offered w ↦ ap (λ (b : Bool). b && c.args.offered.now.is_closing) (sym test ∙ w.if-eq.true) ∙ w.if-offered.false
      | else-eq-via-else-eq w ↦ ap (λ (b : Bool). b && c.args.offered.now.is_closing) (sym test ∙ w.if-eq.false)
    ] in
    given_up c.args.offered.now offer c.args.sfna.now _ _ c.make-2.result holds is other c.if-sfna.false (c.make-2.ensures.does clean stands)
