-- A register that came from an older one by changes passes an audit.
use Rattle.std.proofs.Common.{◌≡◌, List, [], ◌∷◌, fold, All, Result, Ok, Err, refl, subst}
use Rattle.std.proofs.lemmas.List.Elements.{All-cons, All-head, All-nil, All-tail}
use Rattle.oftp_register.specs.declared.change.Cause.{Cause}
use Rattle.oftp_register.specs.declared.change.Change.{Change}
use Rattle.oftp_register.specs.Register.{Register}
use Rattle.oftp_register.specs.Changes.{apply, go_on_by}
use Rattle.oftp_register.specs.Soundness.{AreFit, IsSound, IsSoundIncoming, IsSoundOutgoing, IsSoundReceived}
use Rattle.oftp_register.proofs.KeepLemmas.{apply_keeps}
use Rattle.oftp_audit.specs.Evidence.{KeepsEach, KeepsIncoming, KeepsOutgoing, KeepsReceived}
use Rattle.oftp_audit.specs.Passing.{ChangesPass, IncomingPasses, IncomingStands, OutgoingPasses, OutgoingStands, ReceivedPasses, ReceivedStands}
use Rattle.oftp_audit.proofs.EvidenceLemmas.{evidence_stays, refused_stays}
use Rattle.oftp_audit.proofs.LossLemmas.{audit_is_exact}
use Rattle.oftp_audit.proofs.StandingLemmas.{soundness_is_exact}

-- a sound register stays sound
stays_sound : (r : Register) (ks : List Change) (s : Register) → IsSound r → AreFit r ks → fold go_on_by (Ok r) ks ≡ Ok s → IsSound s
unfolding AreFit
stays_sound r [] s sound fit h = let same : r ≡ s = cc in subst IsSound same sound
stays_sound r (k ∷ ks) s sound fit h = by (apply r k) refl h (λ t now later g. stays_sound t ks s now later g)
  where
    by : (made : Result Register Cause) → apply r k ≡ made → fold go_on_by made ks ≡ Ok s
        → ((t : Register) → IsSound t → AreFit t ks → fold go_on_by (Ok t) ks ≡ Ok s → IsSound s) → IsSound s
    by (Ok t) e g goes = goes t (apply_keeps r k t sound fit.0 e) (fit.1 t e) g
    by (Err cause) e g goes = absurd (refused_stays cause ks s g)

-- what each pair of entries has gives another fact of each pair
each_into : {A : Type 0} (P Q : A → A → Type 0) → ((x y : A) → P x y → Q x y) → (xs ys : List A) → KeepsEach P xs ys → KeepsEach Q xs ys
each_into P Q into [] ys h = tt
each_into P Q into (x ∷ xs) [] h = absurd h
each_into P Q into (x ∷ xs) (y ∷ ys) h = (into x y h.0, each_into P Q into xs ys h.1)

all_into : {A : Type 0} (P Q : A → Type 0) → ((x : A) → P x → Q x) → (xs : List A) → All P xs → All Q xs
all_into P Q into [] h = All-nil Q
all_into P Q into (x ∷ xs) h = All-cons Q x xs (into x (All-head P x xs h)) (all_into P Q into xs (All-tail P x xs h))

pub changes_pass : ChangesPass
changes_pass r ks s sound fit h =
    let kept = evidence_stays r ks s h in
    let now = stays_sound r ks s sound fit h in
    record {
      incoming_kept = each_into KeepsIncoming IncomingPasses (λ x y. (audit_is_exact.incoming x y).0) r.incoming s.incoming kept.incoming;
      outgoing_kept = each_into KeepsOutgoing OutgoingPasses (λ x y. (audit_is_exact.outgoing x y).0) r.outgoing s.outgoing kept.outgoing;
      received_kept = each_into KeepsReceived ReceivedPasses (λ x y. (audit_is_exact.received x y).0) r.received s.received kept.received;
      incoming_sound = all_into IsSoundIncoming IncomingStands (λ x. (soundness_is_exact.incoming x).0) s.incoming now.incoming;
      outgoing_sound = all_into IsSoundOutgoing OutgoingStands (λ x. (soundness_is_exact.outgoing x).0) s.outgoing now.outgoing;
      received_sound = all_into IsSoundReceived ReceivedStands (λ x. (soundness_is_exact.received x).0) s.received now.received;
    }
