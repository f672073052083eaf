use Rattle.std.proofs.Common.{◌≡◌, ℕ, ◌+◌, ◌-◌, ◌*◌, ◌/◌, List, ◌++◌, length, take, drop, refl, ap, ◌∙◌, append_assoc, arith, length-append}
use Rattle.oftp_record.specs.Entries.{entry_body, entry_header}
use Rattle.oftp_record.specs.Pieces.{piece_entry, shared}
use Rattle.oftp_record.specs.declared.header.TheConstants.{HEADER_LEN}
use Rattle.oftp_record.proofs.PieceLemmas.{part_more, piece_body, piece_length, piece_place}
use Rattle.oftp_record.proofs.eight.PieceEntries.bodies.Goals as goal

pub each-preserved : goal.each-preserved
each-preserved c =
    let e = shared c.args.self.now in
    let size = length e.octets / 8 in
    let count = HEADER_LEN + length e.head + size in
    let place = c.each.place in
    let items = c.each.bodies.items in
    let header = entry_header e.kind e.moment (length e.head + size) in
    let width : place * size + size - place * size ≡ size = omega arith in
    let fits = piece_place size place (length e.octets) (omega arith) (omega arith) in
    let body = entry_body (piece_entry e size place) in
    let whole : (header ++ e.head) ++ take size (drop (place * size) e.octets) ≡ body = piece_body e size place (length e.head + size) fits (omega arith) in
    let added : c.extend_from_slice-in-each-2.new.self.items ≡ items ++ body =
    c.in_ok-extend_from_slice-3.ensures.items
    ∙ ap (λ (z : List ℕ). z ++ take (place * size + size - place * size) (drop (place * size) e.octets))
    (c.in_ok-extend_from_slice-2.ensures.items ∙ ap (λ (z : List ℕ). z ++ e.head)
    (c.in_ok-extend_from_slice.ensures.items ∙ ap (λ (z : List ℕ). items ++ z) (c.as_slice.ensures ∙ c.octets.ensures)))
    ∙ ap (λ (n : ℕ). ((items ++ header) ++ e.head) ++ take n (drop (place * size) e.octets)) width
    ∙ ap (λ (z : List ℕ). z ++ take size (drop (place * size) e.octets)) (append_assoc items header e.head)
    ∙ append_assoc items (header ++ e.head) (take size (drop (place * size) e.octets)) ∙ ap (λ (z : List ℕ). items ++ z) whole in
    let long : length body ≡ count = piece_length e size place fits in (
      ap (λ (z : List ℕ). length z) added ∙ length-append items body ∙ omega (arith, c.each.invariant.0, long),
      λ j below. ap (λ (z : List ℕ). take count (drop (j * count) z)) added
          ∙ part_more (λ (k : ℕ). entry_body (piece_entry e size k)) count place items body c.each.invariant.0 long c.each.invariant.1 refl j below,
    )
