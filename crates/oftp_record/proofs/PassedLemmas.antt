-- Entries that were passed over, one after another.
use Rattle.std.proofs.Common.{◌≡◌, ℕ, ◌+◌, ◌-◌, ◌*◌, ◌≤◌, List, [], ◌∷◌, ◌++◌, length, take, drop, sym, ap, ◌∙◌, subst, append_assoc, refl, arith, length-append}
use Rattle.std.proofs.lemmas.List.{drop-append-le, drop-drop, drop_at, take_at}
use Rattle.oftp_record.specs.Entries.{Noted, entry_body, entry_digest, entry_header, entry_octets, noted}
use Rattle.oftp_record.specs.Inside.{AreAt, IsStoredAt}
use Rattle.oftp_record.specs.Next.{ArePassed, BeginsEntry, passed_noted}
use Rattle.oftp_record.specs.declared.chain.TheConstants.{DIGEST_LEN}
use Rattle.oftp_record.specs.declared.eight_read.PassedEntry.{PassedEntry}
use Rattle.oftp_record.specs.declared.header.TheConstants.{HEADER_LEN}
use Rattle.oftp_record.specs.declared.next.StoredEntry.{StoredEntry}
use Rattle.oftp_record.proofs.HeaderLemmas.{octets_length}

-- the octets of a whole entry are there
begins_within : (before octets : List ℕ) (e : Noted) (count : ℕ) (digest : List ℕ) → BeginsEntry before octets e count digest → count ≤ length octets
begins_within before octets e count digest p =
    omega (
      arith,
      ap (λ (z : List ℕ). length z) p.stored,
      length-append (entry_octets e before) (drop count octets),
      octets_length e before,
      p.count_is,
    )

-- the content of an entry stands between its header and its digest
pub content_between : (before octets : List ℕ) (e : Noted) (count : ℕ) (digest : List ℕ) → BeginsEntry before octets e count digest
    → e.content ≡ take (count - HEADER_LEN - DIGEST_LEN) (drop HEADER_LEN octets)
content_between before octets e count digest begins =
    let header = entry_header e.kind e.moment (length e.content) in
    let behind = entry_digest e before ++ drop count octets in
    let size : count - HEADER_LEN - DIGEST_LEN ≡ length e.content = omega (arith, begins.count_is) in
    let whole : octets ≡ header ++ (e.content ++ behind) =
    begins.stored ∙ append_assoc (entry_body e) (entry_digest e before) (drop count octets) ∙ append_assoc header e.content behind in
    sym (ap (λ n. take n (drop HEADER_LEN octets)) size ∙ ap (λ z. take (length e.content) (drop HEADER_LEN z)) whole
    ∙ ap (take (length e.content)) (drop_at header (e.content ++ behind) HEADER_LEN refl) ∙ take_at e.content behind (length e.content) refl)

-- what is told of an entry, with the content that stands there
pub passed_begins : (before octets : List ℕ) (e : Noted) (count : ℕ) (digest : List ℕ) → BeginsEntry before octets e count digest
    → BeginsEntry before octets (record { kind = e.kind; moment = e.moment; content = take (count - HEADER_LEN - DIGEST_LEN) (drop HEADER_LEN octets) }) count digest
passed_begins before octets e count digest begins =
    subst (λ (z : List ℕ). BeginsEntry before octets (record { kind = e.kind; moment = e.moment; content = z }) count digest)
    (content_between before octets e count digest begins) begins

-- entries at places of one length each are entries one after another
pub at_passed : (stride : ℕ) (octets : List ℕ) (place : ℕ) (before : List ℕ) (entries : List PassedEntry)
    → AreAt stride octets place before entries → ArePassed before (drop (place * stride) octets) entries
at_passed stride octets place before [] at = tt
at_passed stride octets place before (p ∷ more) at =
    let next : place * stride + p.length ≡ (place + 1) * stride = omega (arith, at.0.size) in
    let behind : drop p.length (drop (place * stride) octets) ≡ drop ((place + 1) * stride) octets =
    drop-drop p.length (place * stride) octets ∙ ap (λ n. drop n octets) next in
    (at.0.next, subst (λ (z : List ℕ). ArePassed p.digest.0 z more) (sym behind) (at_passed stride octets (place + 1) p.digest.0 more at.1))

-- an entry that was passed over is told as it stands there
pub stored_next : (before octets : List ℕ) (p : PassedEntry) (stored : StoredEntry) → IsStoredAt octets p stored
    → BeginsEntry before octets (passed_noted octets p) p.length p.digest.0 → BeginsEntry before octets (noted stored.entry) stored.length stored.digest.0
stored_next before octets p stored is begins = rw (is.entry, is.length_is, is.digest_is) begins

-- of octets behind which others come the same entry is told
begins_more : (before octets more : List ℕ) (e : Noted) (count : ℕ) (digest : List ℕ) → BeginsEntry before octets e count digest
    → BeginsEntry before (octets ++ more) e count digest
begins_more before octets more e count digest p =
    let within : count ≤ length octets = begins_within before octets e count digest p in
    record {
      sound = p.sound;
      stored = ap (λ (z : List ℕ). z ++ more) p.stored ∙ append_assoc (entry_octets e before) (drop count octets) more
          ∙ ap (λ (z : List ℕ). entry_octets e before ++ z) (sym (drop-append-le count octets more within));
      count_is = p.count_is;
      digest_is = p.digest_is;
    }

-- entries that were passed over are to be told of octets behind which others come
pub passed_more : (before octets more : List ℕ) (entries : List PassedEntry) → ArePassed before octets entries → ArePassed before (octets ++ more) entries
passed_more before octets more [] passed = tt
passed_more before octets more (p ∷ entries) passed =
    let begins = passed.0 in
    let within : p.length ≤ length octets = begins_within before octets (passed_noted octets p) p.length p.digest.0 begins in (
      passed_begins before (octets ++ more) (passed_noted octets p) p.length p.digest.0 (begins_more before octets more (passed_noted octets p) p.length p.digest.0 begins),
      subst (λ (z : List ℕ). ArePassed p.digest.0 z entries) (sym (drop-append-le p.length octets more within))
          (passed_more p.digest.0 (drop p.length octets) more entries passed.1),
    )
