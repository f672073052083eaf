-- Of octets behind an entry one thing alone is told.
use Rattle.std.proofs.Common.{◌≡◌, ℕ, ◌≤◌, List, [], ◌++◌, length, drop, Some, None, refl, sym, ap, ◌∙◌, append_assoc, arith, length-append}
use Rattle.std.proofs.lemmas.List.{drop_at}
use Rattle.oftp_record.specs.Entries.{IsEntry, Noted, entry_body, entry_digest, entry_header, entry_length, entry_octets}
use Rattle.oftp_record.specs.Next.{BeginsEntry, BreaksBehind, BreaksInHeader, HasNoHeader, HasOtherDigest, IsNext, Next, Whole, Ends, Cut, Changed}
use Rattle.oftp_record.specs.declared.chain.TheConstants.{DIGEST_LEN}
use Rattle.oftp_record.specs.declared.header.TheConstants.{HEADER_LEN, LONGEST_CONTENT}
use Rattle.oftp_record.specs.declared.kind.RecordKind.{RecordKind}
use Rattle.oftp_record.specs.declared.next.Alteration.TheVariants as signs
use Rattle.oftp_record.proofs.HeaderLemmas.{digest_length, octets_length, same_count, same_entry, same_front}

-- the octets begin with a header
record Headed (octets : List ℕ) : Type 0 where
  kind : RecordKind
  moment : ℕ
  count : ℕ
  rest : List ℕ
  within : count ≤ LONGEST_CONTENT
  headed : octets ≡ entry_header kind moment count ++ rest

-- the octets begin with a header and its content, and a digest has room behind them
record Full (octets : List ℕ) : Type 0 where
  entry : Noted
  tail : List ℕ
  sound : IsEntry entry
  parts : octets ≡ entry_body entry ++ tail
  long : DIGEST_LEN ≤ length tail

whole_full : (before octets : List ℕ) (e : Noted) (n : ℕ) (d : List ℕ) → BeginsEntry before octets e n d → Full octets
whole_full before octets e n d p = record {
  entry = e;
  tail = entry_digest e before ++ drop n octets;
  sound = p.sound;
  parts = p.stored ∙ append_assoc (entry_body e) (entry_digest e before) (drop n octets);
  long = omega (arith, length-append (entry_digest e before) (drop n octets), digest_length e before);
}

other_full : (before octets : List ℕ) → HasOtherDigest before octets → Full octets
other_full before octets p = record {
  entry = p.entry;
  tail = p.stored ++ p.rest;
  sound = p.sound;
  parts = p.parts;
  long = omega (arith, length-append p.stored p.rest, p.size);
}

full_headed : (octets : List ℕ) → Full octets → Headed octets
full_headed octets p = record {
  kind = p.entry.kind;
  moment = p.entry.moment;
  count = length p.entry.content;
  rest = p.entry.content ++ p.tail;
  within = p.sound.content;
  headed = p.parts ∙ append_assoc (entry_header p.entry.kind p.entry.moment (length p.entry.content)) p.entry.content p.tail;
}

broken_headed : (octets : List ℕ) (k : ℕ) → BreaksBehind octets k → Headed octets
broken_headed octets k p = record { kind = p.kind; moment = p.moment; count = p.count; rest = p.part; within = p.within; headed = p.headed }

headed_long : (octets : List ℕ) → Headed octets → HEADER_LEN ≤ length octets
headed_long octets h = omega (arith, ap (λ (z : List ℕ). length z) h.headed, length-append (entry_header h.kind h.moment h.count) h.rest)

not_nothing : (octets : List ℕ) → HEADER_LEN ≤ length octets → octets ≡ [] → ⊥
not_nothing octets long e = omega (arith, long, ap (λ (z : List ℕ). length z) e)

not_short : (octets : List ℕ) → HEADER_LEN ≤ length octets → BreaksInHeader octets → ⊥
not_short octets long p = omega (arith, long, p.few)

not_both_short : (octets : List ℕ) → BreaksInHeader octets → octets ≡ [] → ⊥
not_both_short octets p e = omega (arith, p.some, ap (λ (z : List ℕ). length z) e)

not_headed : (octets : List ℕ) → HasNoHeader octets → Headed octets → ⊥
not_headed octets p h = p.none h.kind h.moment h.count h.rest h.within h.headed

not_broken : (octets : List ℕ) (k : ℕ) → Full octets → BreaksBehind octets k → ⊥
not_broken octets k f b =
    let e = f.entry in
    let same = same_count e.kind b.kind e.moment b.moment (length e.content) b.count (e.content ++ f.tail) b.part
    (sym (append_assoc (entry_header e.kind e.moment (length e.content)) e.content f.tail) ∙ sym f.parts ∙ b.headed) f.sound.content b.within in
    omega (arith, same.0, ap (λ (z : List ℕ). length z) same.1, length-append e.content f.tail, f.long, b.some, b.lacks)

not_other : (before octets : List ℕ) (e : Noted) (n : ℕ) (d : List ℕ) → BeginsEntry before octets e n d → HasOtherDigest before octets → ⊥
not_other before octets e n d p q =
    let same = same_entry e q.entry (entry_digest e before ++ drop n octets) (q.stored ++ q.rest) p.sound q.sound
    (sym (append_assoc (entry_body e) (entry_digest e before) (drop n octets)) ∙ sym p.stored ∙ q.parts) in
    let digests = same_front (entry_digest e before) q.stored (drop n octets) q.rest (digest_length e before ∙ sym q.size) same.1 in
    q.other (sym digests.0 ∙ ap (λ (x : Noted). entry_digest x before) same.0)

one_whole : (before octets : List ℕ) (e f : Noted) (n m : ℕ) (d g : List ℕ) → BeginsEntry before octets e n d → BeginsEntry before octets f m g
    → Whole e n d ≡ Whole f m g
one_whole before octets e f n m d g p q =
    let same = same_entry e f (entry_digest e before ++ drop n octets) (entry_digest f before ++ drop m octets) p.sound q.sound
    (sym (append_assoc (entry_body e) (entry_digest e before) (drop n octets)) ∙ sym p.stored ∙ q.stored
    ∙ append_assoc (entry_body f) (entry_digest f before) (drop m octets)) in
    let entries : e ≡ f = same.0 in
    let counts : n ≡ m = p.count_is ∙ ap (λ (x : Noted). entry_length x) entries ∙ sym q.count_is in
    let digests : d ≡ g = p.digest_is ∙ ap (λ (x : Noted). entry_digest x before) entries ∙ sym q.digest_is in
    λ i. Whole (entries i) (counts i) (digests i)

one_lack : (octets : List ℕ) (k l : ℕ) → BreaksBehind octets k → BreaksBehind octets l → Cut (Some k) ≡ Cut (Some l)
one_lack octets k l p q =
    let same = same_count p.kind q.kind p.moment q.moment p.count q.count p.part q.part (sym p.headed ∙ q.headed) p.within q.within in
    let lacks : k ≡ l = omega (arith, same.0, ap (λ (z : List ℕ). length z) same.1, p.lacks, q.lacks) in
    ap (λ (n : ℕ). Cut (Some n)) lacks

module _ (before octets : List ℕ) where
  whole_headed : (e : Noted) (n : ℕ) (d : List ℕ) → BeginsEntry before octets e n d → Headed octets
  whole_headed e n d p = full_headed octets (whole_full before octets e n d p)

  other_headed : HasOtherDigest before octets → Headed octets
  other_headed p = full_headed octets (other_full before octets p)

  long_whole : (e : Noted) (n : ℕ) (d : List ℕ) → BeginsEntry before octets e n d → HEADER_LEN ≤ length octets
  long_whole e n d p = headed_long octets (whole_headed e n d p)

  long_broken : (k : ℕ) → BreaksBehind octets k → HEADER_LEN ≤ length octets
  long_broken k p = headed_long octets (broken_headed octets k p)

  long_other : HasOtherDigest before octets → HEADER_LEN ≤ length octets
  long_other p = headed_long octets (other_headed p)

  -- of octets one thing alone is told
  pub one_next : (x y : Next) → IsNext before octets x → IsNext before octets y → x ≡ y
  one_next (Whole e n d) (Whole f m g) p q = one_whole before octets e f n m d g p q
  one_next (Whole e n d) Ends p q = absurd (not_nothing octets (long_whole e n d p) q)
  one_next (Whole e n d) (Cut None) p q = absurd (not_short octets (long_whole e n d p) q)
  one_next (Whole e n d) (Cut (Some k)) p q = absurd (not_broken octets k (whole_full before octets e n d p) q)
  one_next (Whole e n d) (Changed signs.Header) p q = absurd (not_headed octets q (whole_headed e n d p))
  one_next (Whole e n d) (Changed signs.Digest) p q = absurd (not_other before octets e n d p q)
  one_next Ends (Whole e n d) p q = absurd (not_nothing octets (long_whole e n d q) p)
  one_next Ends Ends p q = refl
  one_next Ends (Cut None) p q = absurd (not_both_short octets q p)
  one_next Ends (Cut (Some k)) p q = absurd (not_nothing octets (long_broken k q) p)
  one_next Ends (Changed signs.Header) p q = absurd (not_nothing octets q.enough p)
  one_next Ends (Changed signs.Digest) p q = absurd (not_nothing octets (long_other q) p)
  one_next (Cut None) (Whole e n d) p q = absurd (not_short octets (long_whole e n d q) p)
  one_next (Cut None) Ends p q = absurd (not_both_short octets p q)
  one_next (Cut None) (Cut None) p q = refl
  one_next (Cut None) (Cut (Some k)) p q = absurd (not_short octets (long_broken k q) p)
  one_next (Cut None) (Changed signs.Header) p q = absurd (not_short octets q.enough p)
  one_next (Cut None) (Changed signs.Digest) p q = absurd (not_short octets (long_other q) p)
  one_next (Cut (Some k)) (Whole e n d) p q = absurd (not_broken octets k (whole_full before octets e n d q) p)
  one_next (Cut (Some k)) Ends p q = absurd (not_nothing octets (long_broken k p) q)
  one_next (Cut (Some k)) (Cut None) p q = absurd (not_short octets (long_broken k p) q)
  one_next (Cut (Some k)) (Cut (Some l)) p q = one_lack octets k l p q
  one_next (Cut (Some k)) (Changed signs.Header) p q = absurd (not_headed octets q (broken_headed octets k p))
  one_next (Cut (Some k)) (Changed signs.Digest) p q = absurd (not_broken octets k (other_full before octets q) p)
  one_next (Changed signs.Header) (Whole e n d) p q = absurd (not_headed octets p (whole_headed e n d q))
  one_next (Changed signs.Header) Ends p q = absurd (not_nothing octets p.enough q)
  one_next (Changed signs.Header) (Cut None) p q = absurd (not_short octets p.enough q)
  one_next (Changed signs.Header) (Cut (Some k)) p q = absurd (not_headed octets p (broken_headed octets k q))
  one_next (Changed signs.Header) (Changed signs.Header) p q = refl
  one_next (Changed signs.Header) (Changed signs.Digest) p q = absurd (not_headed octets p (other_headed q))
  one_next (Changed signs.Digest) (Whole e n d) p q = absurd (not_other before octets e n d q p)
  one_next (Changed signs.Digest) Ends p q = absurd (not_nothing octets (long_other p) q)
  one_next (Changed signs.Digest) (Cut None) p q = absurd (not_short octets (long_other p) q)
  one_next (Changed signs.Digest) (Cut (Some k)) p q = absurd (not_broken octets k (other_full before octets p) q)
  one_next (Changed signs.Digest) (Changed signs.Header) p q = absurd (not_headed octets q (other_headed p))
  one_next (Changed signs.Digest) (Changed signs.Digest) p q = refl

-- an entry that was written is told
pub written_next : (before rest : List ℕ) (e : Noted) → IsEntry e
    → IsNext before (entry_octets e before ++ rest) (Whole e (entry_length e) (entry_digest e before))
written_next before rest e is = record {
  sound = is;
  stored = ap (λ (z : List ℕ). entry_octets e before ++ z) (sym (drop_at (entry_octets e before) rest (entry_length e) (octets_length e before)));
  count_is = refl;
  digest_is = refl;
}
