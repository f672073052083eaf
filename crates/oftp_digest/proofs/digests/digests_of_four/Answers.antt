use Rattle.std.proofs.Common.{◌≡◌, ◌+◌, ◌*◌, ◌/◌, sym, ap, length, ◌∙◌, arith}
use Rattle.std.proofs.lemmas.List.{take_all}
use Rattle.std.proofs.lemmas.Simd.{length-chunk}
use Rattle.sha2.specs.Sha256.{digest_bytes, hash_after, initial_hash_256, sha256}
use Rattle.sha2.proofs.Absorbing256.{hash_after_next}
use Rattle.oftp_digest.specs.Lanes.{part}
use Rattle.oftp_digest.proofs.BlockLemmas.{block-part, final_hash-blocks, last_block}
use Rattle.oftp_digest.proofs.LaneLemmas.{place_fits}
use Rattle.oftp_digest.proofs.digests.digests_of_four.Goals as goal

pub absorb-init : goal.absorb-init
unfolding hash_after
absorb-init c j low = c.initial-state.ensures j low

pub absorb-preserved : goal.absorb-preserved
absorb-preserved c j low =
    let message = part c.args.octets.now (j * c.args.stride) c.args.count in
    let block = block-part c.args.octets.now (j * c.args.stride) c.args.count c.absorb.i (omega arith) in
    c.compress-state.ensures j low ∙ rw (c.absorb.invariant j low, ← block) (sym (hash_after_next initial_hash_256 message c.absorb.i))

pub returns : goal.returns
unfolding sha256
returns c j low =
    let message = part c.args.octets.now (j * c.args.stride) c.args.count in
    let count = c.args.count in
    let done : c.absorb.i ≡ count / 64 = omega arith in
    let whole : count ≡ count / 64 * 64 = omega arith in
    let long : length message ≡ count = length-chunk (j * c.args.stride) count c.args.octets.now (omega (arith, place_fits c.args.stride j low)) in
    let place : j * 0 + 0 ≡ 0 = omega arith in
    let last : part c.padding.result (j * 0 + 0) 64 ≡ last_block (length message) =
    rw place (take_all 64 c.padding.result (omega arith)) ∙ c.padding.ensures ∙ ap last_block (sym long) in
    let state = c.absorb.invariant j low ∙ ap (hash_after initial_hash_256 message) done in
    c.digests.ensures j low
    ∙ ap (λ h. digest_bytes h 8) (c.compress.ensures j low ∙ rw (state, last) (sym (final_hash-blocks message (count / 64) (long ∙ whole))))
