use Rattle.std.proofs.Common.{◌≡◌, ◌*◌, ◌++◌, ap, ◌∙◌, arith}
use Rattle.std.specs.List.{flat_map}
use Rattle.sha2.specs.Sha256.{sha256}
use Rattle.oftp_digest.specs.Lanes.{part}
use Rattle.oftp_digest.proofs.JoinLemmas.{digests-joined, length-eight}
use Rattle.oftp_digest.proofs.messages.digests_side_by_side.Goals as goal

pub digests_of_eight-requires-clause-there : goal.digests_of_eight-requires-clause-there
digests_of_eight-requires-clause-there c =
    let messages = c.args.messages.now in
    let octets = flat_map (λ message. message.now) messages in
    let joined : c.deref.result.now ≡ octets = c.deref.ensures.value ∙ c.in-Ok.ensures ∙ ap (λ z. z ++ octets) c.clear.ensures.items in
    rw joined (omega (arith, length-eight (λ message. message.now) c.in_ok-size.size messages c.in_ok-size.ensures (omega arith)))

pub returns : goal.returns
returns c =
    let messages = c.args.messages.now in
    let size = c.in_ok-size.size in
    let octets = flat_map (λ message. message.now) messages in
    let joined : c.deref.result.now ≡ octets = c.deref.ensures.value ∙ c.in-Ok.ensures ∙ ap (λ z. z ++ octets) c.clear.ensures.items in
    digests-joined (λ message. message.now) size c.digests_of_eight.result messages c.in_ok-size.ensures (omega arith) (omega arith) (λ j low.
    c.digests_of_eight.ensures j low ∙ ap (λ z. sha256 (part z (j * size) size)) joined)
