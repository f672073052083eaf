-- What a writer took, one call after another.
use Rattle.std.proofs.Common.{refl, ◌∙◌, ℕ, Bool, true, false, List, [], ◌++◌, length, take, Option, arith, length-append}
use Rattle.oftp_io.specs.declared.port.Port.{Port}
use Rattle.oftp_io.specs.Ports.{IsSamePort, Sent, Puts}
use Rattle.oftp_io.proofs.Bytes.{appends_none, appends_on, count_on}

pub same_port : {X : Type 0} (a : Port X) → IsSamePort a a
same_port a = record { most = refl; on = refl }

pub same_on : {X : Type 0} (a b d : Port X) → IsSamePort a b → IsSamePort b d → IsSamePort a d
same_on a b d p q = record { most = q.most ∙ p.most; on = q.on ∙ p.on }

pub puts_none : {X : Type 0} (contents : X → Option (List ℕ)) (a : Port X) → Puts contents a a
puts_none contents a = record {
  octets = [];
  wrote = record { contents = appends_none (contents a.inner); moved = omega arith };
  same = same_port a;
}

pub puts_on : {X : Type 0} (contents : X → Option (List ℕ)) (a b d : Port X) → Puts contents a b → Puts contents b d → Puts contents a d
puts_on contents a b d p q = record {
  octets = p.octets ++ q.octets;
  wrote = record {
    contents = appends_on (contents a.inner) (contents b.inner) (contents d.inner) p.octets q.octets p.wrote.contents q.wrote.contents;
    moved = count_on a.moved b.moved d.moved (length p.octets) (length q.octets) (length (p.octets ++ q.octets)) p.wrote.moved q.wrote.moved (length-append p.octets q.octets);
  };
  same = same_on a b d p.same q.same;
}

pub puts_sent : {X : Type 0} (contents : X → Option (List ℕ)) (a d : Port X) (octets : List ℕ) (all : Bool) → Sent contents a d octets all → Puts contents a d
puts_sent contents a d octets true s = record { octets = octets; wrote = s.wrote; same = s.same }
puts_sent contents a d octets false s = record { octets = take s.count octets; wrote = s.wrote; same = s.same }
