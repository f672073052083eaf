-- One write after another.
use Rattle.std.proofs.Common.{◌≡◌, ℕ, ◌+◌, ◌-◌, ◌≤◌, List, ◌++◌, length, take, drop, Option, sym, ap, ◌∙◌, subst, arith, length-drop}
use Rattle.std.proofs.lemmas.List.{take_rest, length-take-le}
use Rattle.std.proofs.Math.Seq.{take-add}
use Rattle.std.specs.Io.KnownBytes.{Appends}
use Rattle.oftp_io.specs.declared.port.Port.{Port}
use Rattle.oftp_io.specs.Ports.{SentAll, Takes}
use Rattle.oftp_io.proofs.Bytes.{appends_on, count_on}
use Rattle.oftp_io.proofs.Puts.{same_on}

pub sent_on : {X : Type 0} (contents : X → Option (List ℕ)) (a b d : Port X) (octets : List ℕ) (at n : ℕ)
    → SentAll contents a b (take at octets) → Takes contents b d (take (length octets - at) (drop at octets)) n → at ≤ length octets
    → SentAll contents a d (take (at + n) octets)
sent_on contents a b d octets at n s t le =
    let piece : take (length octets - at) (drop at octets) ≡ drop at octets = take_rest octets at in
    let joined : take at octets ++ take n (take (length octets - at) (drop at octets)) ≡ take (at + n) octets =
    ap (λ (z : List ℕ). take at octets ++ take n z) piece ∙ sym (take-add at n octets) in
    let fits : n ≤ length octets - at = omega (arith, t.fits, ap (λ (z : List ℕ). length z) piece, length-drop at octets) in
    let long : length (take (at + n) octets) ≡ length (take at octets) + n = length-take-le (at + n) octets (omega arith) ∙ ap (λ (k : ℕ). k + n) (sym (length-take-le at octets le)) in
    let both = appends_on (contents a.inner) (contents b.inner) (contents d.inner) (take at octets) _ s.wrote.contents t.bytes in
    record {
      wrote = record {
        contents = subst (Appends (contents a.inner) (contents d.inner)) joined both;
        moved = count_on a.moved b.moved d.moved (length (take at octets)) n (length (take (at + n) octets)) s.wrote.moved (omega (arith, t.moved)) long;
      };
      faults = t.faults ∙ s.faults;
      same = same_on a b d s.same t.same;
    }

pub sent_fits : (octets : List ℕ) (at n : ℕ) → at ≤ length octets → n ≤ length (take (length octets - at) (drop at octets)) → at + n ≤ length octets
sent_fits octets at n p q = omega (arith, ap (λ (z : List ℕ). length z) (take_rest octets at), length-drop at octets)
