use Rattle.std.proofs.Common.{◌≡◌, ℕ, List, ◌++◌, ap, append_assoc, ◌∙◌, codes, decimal, arith}
use Rattle.std.proofs.lemmas.Fmt.{decimal-digits_of}
use Rattle.http.specs.StatusCode.{code_digits}
use Rattle.oftp_listing.specs.Replies.{head_text}
use Rattle.oftp_listing.specs.declared.reply.Content.TheVariants.{Json}
use Rattle.oftp_listing.proofs.reply.error_octets.Goals as goal

thirteen : decimal 13 ≡ codes "13"
thirteen = decimal-digits_of 13 (omega arith) (omega arith)

joined : (h a b c : List ℕ) → ((h ++ a) ++ b) ++ c ≡ h ++ ((a ++ b) ++ c)
joined h a b c = ap (λ (x : List ℕ). x ++ c) (append_assoc h a b) ∙ append_assoc h (a ++ b) c

pub returns : goal.returns
returns c =
    rw (c.in_ok-extend_from_slice-3.ensures.items, c.in_ok-extend_from_slice-2.ensures.items, c.in_ok-extend_from_slice.ensures.items, c.in_ok-octets.ensures)
    (rw (c.as_bytes.ensures.value, c.as_str.ensures, thirteen) (joined (head_text c.args.status Json (codes "13")) (codes "{\"error\":") (code_digits c.args.status) (codes "}")))
