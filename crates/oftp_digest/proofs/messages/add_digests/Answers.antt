use Rattle.std.proofs.Common.{List, ℕ, ◌++◌, subst, ap, ◌∙◌}
use Rattle.std.proofs.lemmas.List.Folds.{flat_map-map}
use Rattle.std.specs.List.{flat_map}
use Rattle.sha2.specs.Hashers.{Holds256}
use Rattle.sha2.specs.Sha256.{sha256}
use Rattle.oftp_digest.proofs.messages.add_digests.Goals as goal

pub returns-in-Some : goal.returns-in-Some
returns-in-Some c held holds =
    let same = ap (flat_map (λ (digest : List ℕ). digest)) c.in-Some.ensures ∙ flat_map-map (λ (digest : List ℕ). digest) (λ message. sha256 message.now) c.args.messages.now in
    subst (λ octets. Holds256 c.add_all.new.hasher (held ++ octets)) same (c.add_all.ensures held holds)
