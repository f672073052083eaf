use Rattle.std.proofs.Common.{◌++◌, ◌≤◌, sym, subst, arith, length, length-append, drop, List, ℕ}
use Rattle.std.proofs.lemmas.List.{drop-append-le}
use Rattle.oftp_record.specs.Ahead.{ahead_in}
use Rattle.oftp_record.specs.Next.{ArePassed}
use Rattle.oftp_record.specs.Streams.{IsStreamed}
use Rattle.oftp_record.proofs.PassedLemmas.{passed_more}
use Rattle.oftp_record.proofs.stream.RecordStream.add.Goals as goal

pub invariant_of-self : goal.invariant_of-self
invariant_of-self c = rw c.in_err-extend_from_slice.ensures.items c.self.invariant

pub invariant_of-self-2 : goal.invariant_of-self-2
invariant_of-self-2 c =
    let s = c.self.inside in
    let held = c.self.invariant in
    let octets = s.octets.items in
    let piece = c.args.piece.now in
    let more : length octets ≤ length (octets ++ piece) = omega (arith, length-append octets piece) in
    rw c.in_ok-extend_from_slice.ensures.items (record {
      begins = held.begins;
      ends = omega (arith, held.ends, more);
      within = omega (arith, held.within, more);
      passed = subst (λ (z : List ℕ). ArePassed s.digest.0 z (ahead_in s.ahead)) (sym (drop-append-le s.at octets piece held.within))
          (passed_more s.digest.0 (drop s.at octets) piece (ahead_in s.ahead) held.passed);
    })
