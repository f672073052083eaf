-- The octets that a session handed out.
use Rattle.std.specs.Prelude.{◌≡◌, ℕ, List, [], ◌++◌, Option, Some}
use Rattle.oftp_life.specs.declared.outbox.Outbox.{Outbox}

-- all of them, whether they were taken out or wait
abbrev pub octets_out : Outbox → List ℕ
octets_out b = b.taken.octets ++ b.waiting.items

abbrev pub contents_of : Outbox → Option (List ℕ)
contents_of b = Some (octets_out b)

-- these octets are all that waited, and nothing waits any more
abbrev pub HandsAllOut : Outbox → Outbox → List ℕ → Type 0
HandsAllOut old new octets = (octets ≡ old.waiting.items) × (new.waiting.items ≡ []) × (octets_out new ≡ octets_out old)
