-- Boxes of octets.
use Rattle.std.proofs.Common.{◌≡◌, ◌∙◌, ap, List, ℕ, [], ◌++◌}
use Rattle.std.proofs.lemmas.List.{append-nil}
use Rattle.oftp_io.specs.declared.port.Port.{Port}
use Rattle.oftp_life.specs.Outboxes.{octets_out}
use Rattle.oftp_life.specs.declared.outbox.Outbox.{Outbox}

-- an empty box has handed out nothing
pub nothing_out : (b : Outbox) → b.taken.octets ≡ [] → b.waiting.items ≡ [] → octets_out b ≡ []
nothing_out b taken waiting = ap (λ (w : List ℕ). b.taken.octets ++ w) waiting ∙ append-nil b.taken.octets ∙ taken

-- a box whose octets were taken out has handed out as much as before
pub taken_same : (was full now : Outbox) → full ≡ was → now.taken.octets ≡ full.taken.octets ++ full.waiting.items → now.waiting.items ≡ [] → octets_out now ≡ octets_out was
taken_same was full now is taken none = ap (λ (w : List ℕ). now.taken.octets ++ w) none ∙ append-nil now.taken.octets ∙ taken ∙ ap octets_out is

-- the port of the box, from the one that it was
pub port_same : (was new : Port Outbox) (b now : Outbox) → new ≡ record (let p : Port Outbox = record was { inner = b } in p) { inner = now } → octets_out now ≡ octets_out was.inner
    → octets_out new.inner ≡ octets_out was.inner
port_same was new b now e same = ap (λ (p : Port Outbox). octets_out p.inner) e ∙ same
