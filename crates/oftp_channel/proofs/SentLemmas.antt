-- One write after another.
use Rattle.std.proofs.Common.{◌≡◌, ℕ, ◌+◌, ◌%◌, ◌^◌, Bool, true, false, List, ◌++◌, length, take, Option, sym, ap, ◌∙◌, subst, arith, length-append}
use Rattle.std.proofs.lemmas.List.{take-append-le}
use Rattle.std.proofs.Math.Seq.{take-append-add}
use Rattle.std.specs.Io.KnownBytes.{Appends}
use Rattle.oftp_io.specs.Ports.{Sent, SentAll, SentPart}
use Rattle.oftp_io.specs.declared.port.Port.{Port}
use Rattle.oftp_io.proofs.Bytes.{appends_on, count_on}
use Rattle.oftp_io.proofs.Puts.{same_on}

module _ {X : Type 0} (contents : X → Option (List ℕ)) (a b d : Port X) where
  pub sent_all_on : (xs ys : List ℕ) → SentAll contents a b xs → SentAll contents b d ys → SentAll contents a d (xs ++ ys)
  sent_all_on xs ys p q = record {
    wrote = record {
      contents = appends_on (contents a.inner) (contents b.inner) (contents d.inner) xs ys p.wrote.contents q.wrote.contents;
      moved = count_on a.moved b.moved d.moved (length xs) (length ys) (length (xs ++ ys)) p.wrote.moved q.wrote.moved (length-append xs ys);
    };
    faults = q.faults ∙ p.faults;
    same = same_on a b d p.same q.same;
  }

  sent_part_on : (xs ys : List ℕ) → SentAll contents a b xs → SentPart contents b d ys → SentPart contents a d (xs ++ ys)
  sent_part_on xs ys p q =
      let front : xs ++ take q.count ys ≡ take (length xs + q.count) (xs ++ ys) = sym (take-append-add xs ys q.count) in
      let both = appends_on (contents a.inner) (contents b.inner) (contents d.inner) xs (take q.count ys) p.wrote.contents q.wrote.contents in
      let long : length (take (length xs + q.count) (xs ++ ys)) ≡ length xs + length (take q.count ys) = ap (λ (z : List ℕ). length z) (sym front) ∙ length-append xs (take q.count ys) in
      record {
        count = length xs + q.count;
        short = omega (arith, q.short, length-append xs ys);
        wrote = record {
          contents = subst (Appends (contents a.inner) (contents d.inner)) front both;
          moved = count_on a.moved b.moved d.moved (length xs) (length (take q.count ys)) (length (take (length xs + q.count) (xs ++ ys))) p.wrote.moved q.wrote.moved long;
        };
        faults = q.faults ∙ ap (λ (n : ℕ). (n + 1) % 2 ^ 64) p.faults;
        same = same_on a b d p.same q.same;
      }

  pub sent_then : (xs ys : List ℕ) (all : Bool) → SentAll contents a b xs → Sent contents b d ys all → Sent contents a d (xs ++ ys) all
  sent_then xs ys true p q = sent_all_on xs ys p q
  sent_then xs ys false p q = sent_part_on xs ys p q

-- a beginning of these octets is also one of these with more after them
pub sent_short : {X : Type 0} (contents : X → Option (List ℕ)) (a b : Port X) (xs ys : List ℕ) → SentPart contents a b xs → SentPart contents a b (xs ++ ys)
sent_short contents a b xs ys p =
    let front : take p.count xs ≡ take p.count (xs ++ ys) = sym (take-append-le p.count xs ys (omega (arith, p.short))) in
    record {
      count = p.count;
      short = omega (arith, p.short, length-append xs ys);
      wrote = record {
        contents = subst (Appends (contents a.inner) (contents b.inner)) front p.wrote.contents;
        moved = p.wrote.moved ∙ ap (λ (z : List ℕ). (a.moved + length z) % 2 ^ 64) front;
      };
      faults = p.faults;
      same = p.same;
    }
