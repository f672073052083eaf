use Rattle.std.proofs.Common.{inl, inr, ◌≡◌, ℕ, ◌*◌, ◌/◌, ◌%◌, not, eqb, nat_le, sym, ap, ◌∙◌, arith}
use Rattle.std.proofs.lemmas.Bool.{cases_lt, eq-eqb, lt-leb, le-leb, ne_eqb}
use Rattle.std.proofs.lemmas.Nat.Bits.{and_pow}
use Rattle.oftp_vfile.proofs.header.has_compression.Goals as goal

-- the second bit from the left
second_bit : (h b : ℕ) → b ≡ h / 64 % 2 * 64 → not (eqb b 0) ≡ nat_le 64 (h % 128)
second_bit h b e =
    elim (cases_lt (h % 128) 64) [
      | inl l ↦ ap not (eq-eqb b 0 (omega arith)) ∙ sym (lt-leb 64 (h % 128) l)
      | inr m ↦ ap not (ne_eqb b 0 (λ z. omega arith)) ∙ sym (le-leb 64 (h % 128) m)
    ]

pub returns : goal.returns
returns c = second_bit c.args.header _ (and_pow c.args.header 6)
