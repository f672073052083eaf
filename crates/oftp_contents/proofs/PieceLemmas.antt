-- Octets that are appended to a record as one entry, as eight, and behind others.
use Rattle.std.proofs.Common.{◌≡◌, ℕ, zero, suc, ◌+◌, ◌*◌, List, [], ◌∷◌, ◌++◌, length, take, drop, map, Ok, refl, sym, ap, ap₂, ◌∙◌, append_assoc, append-nil, arith}
use Rattle.std.proofs.Math.Seq.{take-add}
use Rattle.std.proofs.lemmas.List.{map-append, take_all}
use Rattle.std.proofs.lemmas.List.Folds.{concat-append}
use Rattle.std.specs.List.{concat}
use Rattle.oftp_contents.specs.Pieces.{Appends, IsAppended, Talked, piece_noted}
use Rattle.oftp_record.specs.declared.chain.ChainDigest.{ChainDigest}
use Rattle.oftp_record.specs.Entries.{Noted, entry_digest, entry_octets}
use Rattle.oftp_record.specs.Pieces.{Shared, piece_entries, piece_entry}
use Rattle.oftp_record.specs.Records.{last_digest, record_octets}
use Rattle.oftp_record.proofs.PieceLemmas.{digest-append, record-append}

-- nothing is appended of no octets
pub appended_none : (s : Talked) (old before : List ℕ) → s.octets ≡ [] → IsAppended s old old before before
appended_none s old before none = record { pieces = []; joined = sym none; written = sym (append-nil old); digest_is = refl }

-- one entry has all
pub appended_whole : (s : Talked) (old new before digest : List ℕ) → new ≡ old ++ entry_octets (piece_noted s s.octets) before
    → digest ≡ entry_digest (piece_noted s s.octets) before → IsAppended s old new before digest
appended_whole s old new before digest written is = record {
  pieces = s.octets ∷ [];
  joined = append-nil s.octets;
  written = written ∙ ap (λ z. old ++ z) (sym (append-nil (entry_octets (piece_noted s s.octets) before)));
  digest_is = is;
}

-- the first pieces of the same length
abbrev pieces_of : List ℕ → ℕ → ℕ → List (List ℕ)
pieces_of octets size zero = []
pieces_of octets size (suc count) = pieces_of octets size count ++ (take size (drop (count * size) octets) ∷ [])

concat-pieces : (octets : List ℕ) (size count : ℕ) → concat (pieces_of octets size count) ≡ take (count * size) octets
concat-pieces octets size zero =
    let none : 0 * size ≡ 0 = omega arith in
    rw none refl
concat-pieces octets size (suc count) =
    let place : suc count * size ≡ count * size + size = omega arith in
    concat-append (pieces_of octets size count) (take size (drop (count * size) octets) ∷ [])
    ∙ ap₂ (λ (x y : List ℕ). x ++ y) (concat-pieces octets size count) (append-nil (take size (drop (count * size) octets)))
    ∙ sym (take-add (count * size) size octets) ∙ ap (λ n. take n octets) (sym place)

module _ (s : Talked) (e : Shared) (kind : e.kind ≡ s.kind) (moment : e.moment ≡ s.moment)
    (head : (rest : List ℕ) → e.head ++ rest ≡ (piece_noted s rest).content) (same : e.octets ≡ s.octets) where
  entry_is : (size place : ℕ) → piece_noted s (take size (drop (place * size) s.octets)) ≡ piece_entry e size place
  entry_is size place =
      let content : (piece_noted s (take size (drop (place * size) s.octets))).content ≡ e.head ++ take size (drop (place * size) e.octets) =
      ap (λ z. (piece_noted s (take size (drop (place * size) z))).content) (sym same) ∙ sym (head (take size (drop (place * size) e.octets))) in
      λ i. record { kind = sym kind i; moment = sym moment i; content = content i }

  entries_are : (size count : ℕ) → map (piece_noted s) (pieces_of s.octets size count) ≡ piece_entries e size count
  entries_are size zero = refl
  entries_are size (suc count) =
      map-append (piece_noted s) (pieces_of s.octets size count) (take size (drop (count * size) s.octets) ∷ [])
      ∙ ap₂ (λ (x y : List Noted). x ++ y) (entries_are size count) (ap (λ n. n ∷ []) (entry_is size count))

  -- eight entries have all
  pub appended_pieces : (size : ℕ) (old new before digest : List ℕ) → length s.octets ≡ 8 * size
      → new ≡ old ++ record_octets before (piece_entries e size 8) → digest ≡ last_digest before (piece_entries e size 8) → IsAppended s old new before digest
  appended_pieces size old new before digest long written is = record {
    pieces = pieces_of s.octets size 8;
    joined = concat-pieces s.octets size 8 ∙ take_all (8 * size) s.octets (omega (arith, long));
    written = written ∙ ap (λ es. old ++ record_octets before es) (sym (entries_are size 8));
    digest_is = is ∙ ap (last_digest before) (sym (entries_are size 8));
  }

-- octets behind others
pub appended_behind : (s : Talked) (xs ys : List ℕ) (old middle new before between digest : List ℕ) → xs ++ ys ≡ s.octets
    → IsAppended (record s { octets = xs }) old middle before between
    → IsAppended (record s { octets = ys }) middle new between digest → IsAppended s old new before digest
appended_behind s xs ys old middle new before between digest whole a b =
    let first = map (piece_noted s) a.pieces in
    let rest = map (piece_noted s) b.pieces in
    let all : map (piece_noted s) (a.pieces ++ b.pieces) ≡ first ++ rest = map-append (piece_noted s) a.pieces b.pieces in
    record {
      pieces = a.pieces ++ b.pieces;
      joined = concat-append a.pieces b.pieces ∙ ap₂ (λ (x y : List ℕ). x ++ y) a.joined b.joined ∙ whole;
      written = b.written ∙ ap (λ z. z ++ record_octets between rest) a.written
          ∙ append_assoc old (record_octets before first) (record_octets between rest)
          ∙ ap (λ d. old ++ (record_octets before first ++ record_octets d rest)) a.digest_is
          ∙ ap (λ z. old ++ z) (sym (record-append before first rest))
          ∙ ap (λ es. old ++ record_octets before es) (sym all);
      digest_is = b.digest_is ∙ ap (λ d. last_digest d rest) a.digest_is ∙ sym (digest-append before first rest) ∙ ap (last_digest before) (sym all);
    }

-- an attempt that appended them
pub appends_ok : (s : Talked) (old new before : List ℕ) (digest : ChainDigest) → IsAppended s old new before digest.0 → Appends s old new before (Ok digest)
appends_ok s old new before digest is = record { ok = is; too_long = tt; err = tt }
