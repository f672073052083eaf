-- A record that is cut off: the entries that are whole before the cut, and what is told of the next one.
use Rattle.std.proofs.Common.{◌≡◌, ℕ, ◌+◌, ◌-◌, ◌<◌, ◌≤◌, ◌==◌, ltb, Bool, true, false, cond, inl, inr, List, [], ◌∷◌, ◌++◌, length, take, Some, None, refl, sym, ap, ◌∙◌, subst, append_assoc, arith, length-append, eqb-true, ltb-true, ltb-false}
use Rattle.std.proofs.Math.Seq.{take-append-add}
use Rattle.std.proofs.lemmas.Bool.{cases_lt, eqb-false}
use Rattle.std.proofs.lemmas.List.{length-take-le, take-append-le}
use Rattle.std.specs.List.{AllByRecursion}
use Rattle.oftp_record.specs.Entries.{IsEntry, Noted, entry_digest, entry_header, entry_length, entry_octets}
use Rattle.oftp_record.specs.Next.{BreaksBehind, BreaksInHeader, IsNext, Ends, Cut}
use Rattle.oftp_record.specs.Records.{IsCutRead, IsRead, IsStop, cut_next, record_octets}
use Rattle.oftp_record.specs.declared.header.TheConstants.{HEADER_LEN}
use Rattle.oftp_record.proofs.HeaderLemmas.{digest_length, octets_length}
use Rattle.oftp_record.proofs.ReadLemmas.{read_front}

module _ (before : List ℕ) (e : Noted) (is : IsEntry e) where
  breaks_in_header : (at : ℕ) → (at ≡ 0 → ⊥) → at < HEADER_LEN → BreaksInHeader (take at (entry_octets e before))
  breaks_in_header at some few =
      let long = length-take-le at (entry_octets e before) (omega (arith, few, octets_length e before)) in
      record { some = omega (arith, some, long); few = omega (arith, few, long) }

  breaks_behind : (at : ℕ) → HEADER_LEN ≤ at → at < entry_length e → BreaksBehind (take at (entry_octets e before)) (entry_length e - at)
  breaks_behind at enough short =
      let header = entry_header e.kind e.moment (length e.content) in
      let behind = e.content ++ entry_digest e before in
      let many = length-append e.content (entry_digest e before) in
      let there : at ≡ HEADER_LEN + (at - HEADER_LEN) = omega (arith, enough) in
      let part = length-take-le (at - HEADER_LEN) behind (omega (arith, many, digest_length e before, short)) in
      record {
        kind = e.kind;
        moment = e.moment;
        count = length e.content;
        part = take (at - HEADER_LEN) behind;
        headed = ap (λ (z : List ℕ). take at z) (append_assoc header e.content (entry_digest e before)) ∙ ap (λ (n : ℕ). take n (header ++ behind)) there
            ∙ take-append-add header behind (at - HEADER_LEN);
        within = is.content;
        some = omega (arith, short);
        lacks = omega (arith, part, enough, short);
      }

  cut_told_by : (p q : Bool) (at : ℕ) → at < entry_length e → (at == 0) ≡ p → ltb at HEADER_LEN ≡ q
      → IsNext before (take at (entry_octets e before)) (cond p Ends (cond q (Cut None) (Cut (Some (entry_length e - at)))))
  cut_told_by true q at short nothing few = ap (λ (n : ℕ). take n (entry_octets e before)) (eqb-true at 0 nothing)
  cut_told_by false true at short nothing few = breaks_in_header at (eqb-false at 0 nothing) (ltb-true at HEADER_LEN few)
  cut_told_by false false at short nothing few = breaks_behind at (ltb-false at HEADER_LEN few) short

  -- a beginning of an entry
  cut_told : (at : ℕ) → at < entry_length e → IsNext before (take at (entry_octets e before)) (cut_next at (entry_length e))
  cut_told at short = cut_told_by (at == 0) (ltb at HEADER_LEN) at short refl refl

stops_by : (p q : Bool) (k : ℕ) → IsStop (cond p Ends (cond q (Cut None) (Cut (Some k))))
stops_by true q k = tt
stops_by false true k = tt
stops_by false false k = tt

cut_stops : (at count : ℕ) → IsStop (cut_next at count)
cut_stops at count = stops_by (at == 0) (ltb at HEADER_LEN) (count - at)

module _ (before : List ℕ) (e : Noted) (es : List Noted) (at : ℕ) (each : AllByRecursion IsEntry (e ∷ es)) where
  abbrev later : List ℕ
  later = record_octets (entry_digest e before) es

  cut_here : at < entry_length e → IsCutRead before (e ∷ es) at
  cut_here short =
      let alone = take-append-le at (entry_octets e before) later (omega (arith, short, octets_length e before)) in
      let whole : at ≡ at - 0 = omega arith in
      record {
        whole = [];
        broken = e;
        later = es;
        parts = refl;
        begun = omega arith;
        ends = omega (arith, short);
        read = record {
          rest = take at (entry_octets e before ++ later);
          whole = refl;
          each = tt;
          told = subst (λ (n : ℕ). IsNext before (take at (entry_octets e before ++ later)) (cut_next n (entry_length e))) whole
              (subst (λ (z : List ℕ). IsNext before z (cut_next at (entry_length e))) (sym alone) (cut_told before e each.0 at short));
          stops = cut_stops (at - 0) (entry_length e);
        };
      }

  cut_later : entry_length e ≤ at → IsCutRead (entry_digest e before) es (at - entry_length e) → IsCutRead before (e ∷ es) at
  cut_later enough r =
      let here = entry_octets e before in
      let whole = record_octets (entry_digest e before) r.whole in
      let many = length-append here whole in
      let size = octets_length e before in
      let there : at ≡ length here + (at - entry_length e) = omega (arith, enough, size) in
      let cut : take at (here ++ later) ≡ here ++ take (at - entry_length e) later =
      ap (λ (n : ℕ). take n (here ++ later)) there ∙ take-append-add here later (at - entry_length e) in
      let same : at - entry_length e - length whole ≡ at - length (here ++ whole) = omega (arith, many, size) in
      let front = read_front before (take (at - entry_length e) later) e r.whole (cut_next (at - entry_length e - length whole) (entry_length r.broken)) each.0 r.read in
      record {
        whole = e ∷ r.whole;
        broken = r.broken;
        later = r.later;
        parts = ap (λ (z : List Noted). e ∷ z) r.parts;
        begun = omega (arith, many, size, r.begun, enough);
        ends = omega (arith, many, size, r.ends, enough);
        read = subst (λ (n : ℕ). IsRead before (take at (here ++ later)) (e ∷ r.whole) (cut_next n (entry_length r.broken))) same
            (subst (λ (z : List ℕ). IsRead before z (e ∷ r.whole) (cut_next (at - entry_length e - length whole) (entry_length r.broken))) (sym cut) front);
      }

-- a record that is cut off anywhere
pub cut_read : (before : List ℕ) (entries : List Noted) (at : ℕ) → AllByRecursion IsEntry entries → at < length (record_octets before entries)
    → IsCutRead before entries at
cut_read before [] at each short = absurd (omega (arith, short))
cut_read before (e ∷ es) at each short = elim (cases_lt at (entry_length e)) [
  | inl here ↦ cut_here before e es at each here
  | inr past ↦ cut_later before e es at each past (cut_read (entry_digest e before) es (at - entry_length e) each.1
      (omega (arith, short, past, length-append (entry_octets e before) (record_octets (entry_digest e before) es), octets_length e before)))
]
