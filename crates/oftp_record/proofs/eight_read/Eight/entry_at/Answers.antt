use Rattle.std.proofs.Common.{ℕ, ◌+◌, ◌-◌, ◌*◌, List, length, take, drop, refl, subst, arith}
use Rattle.std.proofs.lemmas.List.{take_rest}
use Rattle.oftp_record.specs.Entries.{noted}
use Rattle.oftp_record.specs.Next.{BeginsEntry}
use Rattle.oftp_record.proofs.PassedLemmas.{passed_begins}
use Rattle.oftp_record.proofs.eight_read.Eight.entry_at.Goals as goal

pub returns-in-Whole : goal.returns-in-Whole
returns-in-Whole c =
    let octets = c.args.self.now.octets.now in
    let at = c.args.place * c.args.self.now.stride in
    let stored = c.in-Whole.stored in
    record {
      next = passed_begins c.args.before.now.0 (drop at octets) (noted stored.entry) stored.length stored.digest.0
          (subst (λ (z : List ℕ). BeginsEntry c.args.before.now.0 z (noted stored.entry) stored.length stored.digest.0) (take_rest octets at) c.in-Whole.ensures.next);
      size = omega (arith, c.in-Whole.ensures.size stored refl);
    }
