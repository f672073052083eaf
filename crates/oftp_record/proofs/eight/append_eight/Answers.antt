use Rattle.std.proofs.Common.{◌≡◌, ℕ, ◌+◌, ◌-◌, ◌*◌, ◌/◌, List, [], ◌∷◌, ◌++◌, length, take, drop, slice_index_or, refl, sym, ap, ap₂, ◌∙◌, append_assoc, append-nil, arith, length-append}
use Rattle.std.proofs.lemmas.Simd.{length-chunk}
use Rattle.sha2.specs.Sha256.{sha256}
use Rattle.oftp_record.specs.Entries.{entry_body, entry_digest, entry_octets, Noted}
use Rattle.oftp_record.specs.Pieces.{piece_entries, piece_entry, shared}
use Rattle.oftp_record.specs.Records.{last_digest, record_octets}
use Rattle.oftp_record.specs.declared.chain.TheConstants.{DIGEST_LEN}
use Rattle.oftp_record.specs.declared.header.TheConstants.{HEADER_LEN}
use Rattle.oftp_record.proofs.HeaderLemmas.{digest_length}
use Rattle.oftp_record.proofs.PieceLemmas.{digest-append, piece_entries-next, piece_place, record-append}
use Rattle.oftp_record.proofs.eight.append_eight.Goals as goal

pub each-preserved : goal.each-preserved
each-preserved c =
    let e = shared c.args.entries.now in
    let before = c.args.before.now.0 in
    let size = length e.octets / 8 in
    let count = HEADER_LEN + length e.head + size in
    let place = c.each.place in
    let entries = piece_entries e size place in
    let next = piece_entry e size place in
    let bodies = c.in_ok-bodies.bodies.items in
    let old = c.args.octets.now.items in
    let width : place * count + count - place * count ≡ count = omega arith in
    let body : take count (drop (place * count) bodies) ≡ entry_body next = c.in_ok-bodies.ensures.each place (omega arith) in
    let digest : c.over-digest.result.0 ≡ entry_digest next (last_digest before entries) =
    c.over-digest.ensures
    ∙ ap₂ (λ (d b : List ℕ). sha256 (d ++ b))
    (c.digests_of_eight-digests.ensures place (omega arith) ∙ ap (λ (z : List ℕ). sha256 (take count (drop (place * count) z))) c.deref.ensures.value ∙ ap sha256 body)
    c.each.invariant.1 in
    let first : c.append.new.octets.items ≡ (old ++ record_octets before entries) ++ entry_body next =
    c.append.ensures.items
    ∙ ap₂ (λ (a b : List ℕ). a ++ b) c.each.invariant.0
    (ap (λ (n : ℕ). take n (drop (place * count) c.deref-in-each.result.now)) width ∙ ap (λ (z : List ℕ). take count (drop (place * count) z)) c.deref-in-each.ensures.value ∙ body) in
    let whole : c.append-in-each.new.octets.items ≡ old ++ record_octets before (piece_entries e size (place + 1)) =
    c.append-in-each.ensures.items ∙ ap₂ (λ (a b : List ℕ). a ++ b) first (c.as_slice.ensures ∙ digest)
    ∙ append_assoc (old ++ record_octets before entries) (entry_body next) (entry_digest next (last_digest before entries))
    ∙ append_assoc old (record_octets before entries) (entry_octets next (last_digest before entries))
    ∙ ap (λ (z : List ℕ). old ++ (record_octets before entries ++ z)) (sym (append-nil (entry_octets next (last_digest before entries))))
    ∙ ap (λ (z : List ℕ). old ++ z) (sym (record-append before entries (next ∷ [])))
    ∙ ap (λ (es : List Noted). old ++ record_octets before es) (sym (piece_entries-next e size place)) in
    let all = c.deref-in-each.result.now in
    let room = piece_place count place (length all) (omega arith) (omega (arith, c.deref-in-each.ensures.len, c.in_ok-bodies.ensures.long)) in
    let part = length-chunk (place * count) count all room in
    let sum : length c.as_slice.result.now ≡ DIGEST_LEN =
    ap (λ (z : List ℕ). length z) (c.as_slice.ensures ∙ digest) ∙ digest_length next (last_digest before entries) in (
      whole,
      digest ∙ sym (digest-append before entries (next ∷ [])) ∙ ap (last_digest before) (sym (piece_entries-next e size place)),
      omega (
        arith,
        c.append-in-each.ensures.len,
        c.append-in-each.ensures.capacity,
        c.append.ensures.len,
        c.append.ensures.capacity,
        c.each.invariant.2,
        sum,
        part,
      ),
    )
