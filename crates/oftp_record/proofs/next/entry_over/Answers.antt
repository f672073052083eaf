use Rattle.std.proofs.Common.{rules, ◌≡◌, ℕ, ◌+◌, ◌-◌, List, ◌++◌, take, drop, ap, ◌∙◌}
use Rattle.sha2.specs.Sha256.{sha256}
use Rattle.oftp_record.specs.declared.chain.TheConstants.{DIGEST_LEN}
use Rattle.oftp_record.specs.declared.header.TheConstants.{HEADER_LEN}
use Rattle.oftp_record.proofs.StoredLemmas.{begins, otherwise}
use Rattle.oftp_record.proofs.next.entry_over.Goals as goal

pub returns-then-ne-clause-next : goal.returns-then-ne-clause-next
returns-then-ne-clause-next c =
    let h = c.args.header in
    let digest = c.over-digest.ensures ∙ ap (λ (z : List ℕ). sha256 (z ++ c.args.before.now.0)) c.requires.digest in
    let differs : take (HEADER_LEN + h.count + DIGEST_LEN - (HEADER_LEN + h.count)) (drop (HEADER_LEN + h.count) c.args.octets.now) ≡ c.over-digest.result.0 → ⊥ = search rules in
    otherwise c.args.before.now.0 c.args.octets.now h.kind h.moment h.count c.requires.headed c.requires.count c.requires.moment c.requires.enough
    c.over-digest.result.0 digest differs

pub returns-clause-next : goal.returns-clause-next
returns-clause-next c =
    let h = c.args.header in
    let digest = c.over-digest.ensures ∙ ap (λ (z : List ℕ). sha256 (z ++ c.args.before.now.0)) c.requires.digest in
    let same : take (HEADER_LEN + h.count + DIGEST_LEN - (HEADER_LEN + h.count)) (drop (HEADER_LEN + h.count) c.args.octets.now) ≡ c.over-digest.result.0 = search rules in
    begins c.args.before.now.0 c.args.octets.now h.kind h.moment h.count c.requires.headed c.requires.count c.requires.moment c.requires.enough
    c.over-digest.result.0 digest same
