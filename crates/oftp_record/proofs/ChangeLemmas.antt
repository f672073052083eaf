-- An octet of an entry that was changed is told.
use Rattle.std.proofs.Common.{◌≡◌, ◌≢◌, ℕ, zero, suc, ◌+◌, ◌-◌, ◌^◌, ◌<◌, ◌≤◌, ◌⊎◌, inl, inr, List, [], ◌∷◌, ◌++◌, length, take, drop, get_or, set, codes, refl, sym, ap, ◌∙◌, subst, append_assoc, arith, length-append, length-set}
use Rattle.std.proofs.lemmas.Bool.{cases_eq, cases_lt}
use Rattle.std.proofs.lemmas.List.{drop_at, get_or-append_right, get_or_append_left, get_or-set_other, get_or-set_same, set-append_left, set-append_right, set_past, take_at}
use Rattle.std.proofs.lemmas.Nat.{be_bytes_8}
use Rattle.std.specs.Int.{w32, w64, from_be_bytes, to_be_bytes}
use Rattle.std.specs.List.{AllByRecursion}
use Rattle.oftp_record.specs.Changes.{EndsWithOtherDigest, IsChangedBehind, IsGuardedByDigest, TellsChange}
use Rattle.oftp_record.specs.Entries.{IsEntry, Noted, chained, entry_body, entry_digest, entry_header, entry_length, entry_octets, kind_number}
use Rattle.oftp_record.specs.Next.{Changed, IsNext}
use Rattle.oftp_record.specs.Records.{last_digest, record_octets}
use Rattle.oftp_record.specs.declared.chain.TheConstants.{DIGEST_LEN}
use Rattle.oftp_record.specs.declared.header.TheConstants.{COUNT_AT, HEADER_LEN, KIND_AT, LACK_AT, MOMENT_AT}
use Rattle.oftp_record.specs.declared.kind.RecordKind.{RecordKind}
use Rattle.oftp_record.specs.declared.kind.RecordKind.TheVariants as kinds
use Rattle.oftp_record.specs.declared.next.Alteration.{Alteration}
use Rattle.oftp_record.specs.declared.next.Alteration.TheVariants as signs
use Rattle.oftp_record.proofs.HeaderLemmas.{body_length, digest_length, kinds_by_number, octets_length, same_front, same_short}
use Rattle.oftp_record.proofs.ReadLemmas.{read_before}

-- ---- lists of which one octet is another

differs : (y : List ℕ) (j v : ℕ) → j < length y → v ≢ get_or y j 0 → set y j v ≡ y → ⊥
differs y j v within other same = other (sym (get_or-set_same y j v 0 within) ∙ ap (λ (z : List ℕ). get_or z j 0) same)

module _ (x y z : List ℕ) (at v : ℕ) (from : length x ≤ at) (below : at < length x + length y) where
  set_within : set (x ++ (y ++ z)) at v ≡ x ++ (set y (at - length x) v ++ z)
  set_within = set-append_right x (y ++ z) (length x) at v refl from ∙ ap (λ (t : List ℕ). x ++ t) (set-append_left y z (at - length x) v (omega (arith, from, below)))

  get_within : get_or (x ++ (y ++ z)) at 0 ≡ get_or y (at - length x) 0
  get_within = get_or-append_right x (y ++ z) (length x) at 0 refl from ∙ get_or_append_left y z 0 (at - length x) (omega (arith, from, below))

  -- the middle part is another one
  part_differs : v ≢ get_or (x ++ (y ++ z)) at 0 → set y (at - length x) v ≡ y → ⊥
  part_differs other same = differs y (at - length x) v (omega (arith, from, below)) (λ e. other (e ∙ sym get_within)) same

small_set : (y : List ℕ) (j v : ℕ) → v < 256 → ((i : ℕ) → get_or y i 0 < 256) → (i : ℕ) → get_or (set y j v) i 0 < 256
small_set y j v small each i = elim (cases_eq i j) [
  | inl same ↦ elim (cases_lt j (length y)) [
    | inl within ↦ omega (arith, small, get_or-set_same y j v 0 within, ap (λ (k : ℕ). get_or (set y j v) k 0) same)
    | inr past ↦ omega (arith, each i, ap (λ (z : List ℕ). get_or z i 0) (set_past y j v past))
  ]
  | inr apart ↦ omega (arith, each i, get_or-set_other y j i v 0 apart)
]

small_octets : (m i : ℕ) → get_or (to_be_bytes w64 m) i 0 < 256
small_octets m zero = omega arith
small_octets m (suc zero) = omega arith
small_octets m (suc (suc zero)) = omega arith
small_octets m (suc (suc (suc zero))) = omega arith
small_octets m (suc (suc (suc (suc zero)))) = omega arith
small_octets m (suc (suc (suc (suc (suc zero))))) = omega arith
small_octets m (suc (suc (suc (suc (suc (suc zero)))))) = omega arith
small_octets m (suc (suc (suc (suc (suc (suc (suc zero))))))) = omega arith
small_octets m (suc (suc (suc (suc (suc (suc (suc (suc i)))))))) = omega arith

small_number : (y : List ℕ) → ((i : ℕ) → get_or y i 0 < 256) → from_be_bytes w64 y < 2 ^ 64
small_number y each = omega (arith, each 0, each 1, each 2, each 3, each 4, each 5, each 6, each 7)

-- ---- kinds by their numbers

kind_small : (k : RecordKind) → (1 ≤ kind_number k) × (kind_number k ≤ 8)
kind_small kinds.Opening = (omega arith, omega arith)
kind_small kinds.Session = (omega arith, omega arith)
kind_small kinds.OctetsIn = (omega arith, omega arith)
kind_small kinds.OctetsOut = (omega arith, omega arith)
kind_small kinds.End = (omega arith, omega arith)
kind_small kinds.Call = (omega arith, omega arith)
kind_small kinds.Backup = (omega arith, omega arith)
kind_small kinds.Mark = (omega arith, omega arith)

number_again : (n : ℕ) → 1 ≤ n → n ≤ 8 → kind_number (get_or kinds_by_number n kinds.Mark) ≡ n
number_again zero low high = absurd (omega (arith, low))
number_again (suc zero) low high = refl
number_again (suc (suc zero)) low high = refl
number_again (suc (suc (suc zero))) low high = refl
number_again (suc (suc (suc (suc zero)))) low high = refl
number_again (suc (suc (suc (suc (suc zero))))) low high = refl
number_again (suc (suc (suc (suc (suc (suc zero)))))) low high = refl
number_again (suc (suc (suc (suc (suc (suc (suc zero))))))) low high = refl
number_again (suc (suc (suc (suc (suc (suc (suc (suc zero)))))))) low high = refl
number_again (suc (suc (suc (suc (suc (suc (suc (suc (suc n))))))))) low high = absurd (omega (arith, high))

-- a number is that of a kind, or of none
record IsOfKind (n : ℕ) : Type 0 where
  kind : RecordKind
  number : kind_number kind ≡ n

has_kind : (n : ℕ) → IsOfKind n ⊎ (IsOfKind n → ⊥)
has_kind n = elim (cases_lt n 1) [
  | inl none ↦ inr (λ k. omega (arith, none, k.number, (kind_small k.kind).0))
  | inr some ↦ elim (cases_lt 8 n) [
    | inl none ↦ inr (λ k. omega (arith, none, k.number, (kind_small k.kind).1))
    | inr few ↦ inl (record { kind = get_or kinds_by_number n kinds.Mark; number = number_again n some few })
  ]
]

-- ---- an entry with another octet

-- a change is told of the octets of an entry
record Told (before octets : List ℕ) : Type 0 where
  sign : Alteration
  next : IsNext before octets (Changed sign)

-- the octets of a header as far as its count
abbrev front : RecordKind → ℕ → List ℕ
front kind moment = codes "OREC2" ++ (kind_number kind ∷ to_be_bytes w64 moment)

abbrev lack : ℕ → ℕ
lack count = 2 ^ 32 - 1 - count

module _ (before rest : List ℕ) (e : Noted) (is : IsEntry e) (at v : ℕ) (small : v < 256) (other : v ≢ get_or (entry_octets e before) at 0) where
  abbrev was : List ℕ
  was = entry_octets e before

  abbrev digest : List ℕ
  digest = entry_digest e before

  abbrev n : ℕ
  n = length e.content

  enough : HEADER_LEN ≤ length (set was at v ++ rest)
  enough = omega (arith, length-append (set was at v) rest, length-set was at v, octets_length e before)

  -- an entry with the digest of this one
  by_digest : (f : Noted) → IsEntry f → set was at v ≡ entry_body f ++ digest → EndsWithOtherDigest before (set was at v) → Told before (set was at v ++ rest)
  by_digest f it parts ends =
      let body = entry_body f in
      let long : length (set was at v) - DIGEST_LEN ≡ length body =
      omega (arith, ap (λ (z : List ℕ). length z) parts, length-append body digest, digest_length e before) in
      let last : drop (length (set was at v) - DIGEST_LEN) (set was at v) ≡ digest =
      ap (λ (k : ℕ). drop k (set was at v)) long ∙ ap (λ (z : List ℕ). drop (length body) z) parts ∙ drop_at body digest (length body) refl in
      let first : take (length (set was at v) - DIGEST_LEN) (set was at v) ≡ body =
      ap (λ (k : ℕ). take k (set was at v)) long ∙ ap (λ (z : List ℕ). take (length body) z) parts ∙ take_at body digest (length body) refl in
      record {
        sign = signs.Digest;
        next = record {
          entry = f;
          stored = digest;
          rest = rest;
          sound = it;
          parts = ap (λ (z : List ℕ). z ++ rest) parts ∙ append_assoc body digest rest;
          size = digest_length e before;
          other = λ same. ends (last ∙ same ∙ ap (λ (z : List ℕ). chained z before) (sym first));
        };
      }

  -- the word and the version
  in_word : at < KIND_AT → Told before (set was at v ++ rest)
  in_word low =
      let word : List ℕ = codes "OREC2" in
      record {
        sign = signs.Header;
        next = record {
          enough = enough;
          none = λ kind moment count more few same.
              other (sym (get_or-set_same was at v 0 (omega (arith, low, octets_length e before)))
              ∙ sym (get_or_append_left (set was at v) rest 0 at (omega (arith, low, octets_length e before, length-set was at v)))
              ∙ ap (λ (z : List ℕ). get_or z at 0) same
              ∙ get_or_append_left word (drop KIND_AT (entry_header kind moment count ++ more)) 0 at low
              ∙ sym (get_or_append_left word (drop KIND_AT was) 0 at low));
        };
      }

  in_kind : at ≡ KIND_AT → EndsWithOtherDigest before (set was at v) → Told before (set was at v ++ rest)
  in_kind here ends = elim (has_kind v) [
    | inl k ↦ by_digest (record e { kind = k.kind }) (record { moment = is.moment; content = is.content })
        (ap (λ (p : ℕ). set was p v) here ∙ ap (λ (w : ℕ). set was KIND_AT w) (sym k.number)) ends
    | inr none ↦ record {
      sign = signs.Header;
      next = record {
        enough = enough;
        none = λ kind moment count more few same. none (record {
          kind = kind;
          number = sym (ap (λ (z : List ℕ). get_or z KIND_AT 0) (ap (λ (p : ℕ). set was p v ++ rest) (sym here) ∙ same));
        });
      };
    }
  ]

  in_moment : MOMENT_AT ≤ at → at < COUNT_AT → EndsWithOtherDigest before (set was at v) → Told before (set was at v ++ rest)
  in_moment from below ends =
      let word : List ℕ = codes "OREC2" ++ (kind_number e.kind ∷ []) in
      let octets = to_be_bytes w64 e.moment in
      let behind = drop COUNT_AT was in
      let changed = set octets (at - MOMENT_AT) v in
      let each = small_set octets (at - MOMENT_AT) v small (small_octets e.moment) in
      let moment = from_be_bytes w64 changed in
      let again : to_be_bytes w64 moment ≡ changed = be_bytes_8 changed moment (length-set octets (at - MOMENT_AT) v) each refl in
      let parts : set was at v ≡ word ++ (changed ++ behind) = set_within word octets behind at v from below in
      by_digest (record e { moment = moment }) (record { moment = small_number changed each; content = is.content })
      (parts ∙ ap (λ (z : List ℕ). word ++ (z ++ behind)) (sym again)) ends

  -- the count, and what it lacks
  in_count : COUNT_AT ≤ at → at < LACK_AT → Told before (set was at v ++ rest)
  in_count from below =
      let octets = to_be_bytes w32 n in
      let behind = drop LACK_AT was in
      let changed = set octets (at - COUNT_AT) v in
      let parts : set was at v ≡ front e.kind e.moment ++ (changed ++ behind) = set_within (front e.kind e.moment) octets behind at v from below in
      record {
        sign = signs.Header;
        next = record {
          enough = enough;
          none = λ kind moment count more few same.
              let whole : front e.kind e.moment ++ (changed ++ (behind ++ rest)) ≡ front kind moment ++ (to_be_bytes w32 count ++ (to_be_bytes w32 (lack count) ++ more)) =
              sym (append_assoc (front e.kind e.moment) (changed ++ behind) rest ∙ ap (λ (z : List ℕ). front e.kind e.moment ++ z) (append_assoc changed behind rest))
              ∙ ap (λ (z : List ℕ). z ++ rest) (sym parts) ∙ same in
              let counts = same_front changed (to_be_bytes w32 count) (behind ++ rest) (to_be_bytes w32 (lack count) ++ more) (length-set octets (at - COUNT_AT) v)
              (same_front (front e.kind e.moment) (front kind moment) (changed ++ (behind ++ rest)) (to_be_bytes w32 count ++ (to_be_bytes w32 (lack count) ++ more)) refl whole).1 in
              let lacks : to_be_bytes w32 (lack n) ≡ to_be_bytes w32 (lack count) = ap (λ (z : List ℕ). take 4 z) counts.1 in
              let lacking : lack n ≡ lack count = same_short (lack n) (lack count) (omega arith) (omega arith) lacks in
              let numbers : n ≡ count = omega (arith, lacking, few, is.content) in
              part_differs (front e.kind e.moment) octets behind at v from below other (counts.0 ∙ ap (λ (c : ℕ). to_be_bytes w32 c) (sym numbers));
        };
      }

  in_lack : LACK_AT ≤ at → at < HEADER_LEN → Told before (set was at v ++ rest)
  in_lack from below =
      let word : List ℕ = front e.kind e.moment ++ to_be_bytes w32 n in
      let octets = to_be_bytes w32 (lack n) in
      let behind = e.content ++ digest in
      let changed = set octets (at - LACK_AT) v in
      let parts : set was at v ≡ word ++ (changed ++ behind) = set_within word octets behind at v from below in
      record {
        sign = signs.Header;
        next = record {
          enough = enough;
          none = λ kind moment count more few same.
              let heads : List ℕ = front kind moment ++ to_be_bytes w32 count in
              let whole : word ++ (changed ++ (behind ++ rest)) ≡ heads ++ (to_be_bytes w32 (lack count) ++ more) =
              sym (append_assoc word (changed ++ behind) rest ∙ ap (λ (z : List ℕ). word ++ z) (append_assoc changed behind rest))
              ∙ ap (λ (z : List ℕ). z ++ rest) (sym parts) ∙ same in
              let fronts = same_front word heads (changed ++ (behind ++ rest)) (to_be_bytes w32 (lack count) ++ more) refl whole in
              let counts : to_be_bytes w32 n ≡ to_be_bytes w32 count = ap (λ (z : List ℕ). drop COUNT_AT z) fronts.0 in
              let numbers : n ≡ count = same_short n count (omega (arith, is.content)) (omega (arith, few)) counts in
              let lacks = same_front changed (to_be_bytes w32 (lack count)) (behind ++ rest) more (length-set octets (at - LACK_AT) v) fronts.1 in
              part_differs word octets behind at v from below other (lacks.0 ∙ ap (λ (c : ℕ). to_be_bytes w32 (lack c)) (sym numbers));
        };
      }

  in_content : HEADER_LEN ≤ at → at < HEADER_LEN + n → EndsWithOtherDigest before (set was at v) → Told before (set was at v ++ rest)
  in_content from below ends =
      let header = entry_header e.kind e.moment n in
      let changed = set e.content (at - HEADER_LEN) v in
      let long = length-set e.content (at - HEADER_LEN) v in
      let parts : set was at v ≡ header ++ (changed ++ digest) =
      ap (λ (z : List ℕ). set z at v) (append_assoc header e.content digest) ∙ set_within header e.content digest at v from below in
      by_digest (record e { content = changed }) (record { moment = is.moment; content = omega (arith, long, is.content) })
      (parts ∙ sym (append_assoc header changed digest) ∙ ap (λ (c : ℕ). entry_header e.kind e.moment c ++ changed ++ digest) (sym long)) ends

  in_digest : HEADER_LEN + n ≤ at → at < entry_length e → Told before (set was at v ++ rest)
  in_digest from below =
      let body = entry_body e in
      let place = at - length body in
      let size = body_length e in
      let whole : length body ≤ at = omega (arith, size, from) in
      let within : place < length digest = omega (arith, size, from, below, digest_length e before) in
      let parts : set was at v ≡ body ++ set digest place v = set-append_right body digest (length body) at v refl whole in
      record {
        sign = signs.Digest;
        next = record {
          entry = e;
          stored = set digest place v;
          rest = rest;
          sound = is;
          parts = ap (λ (z : List ℕ). z ++ rest) parts ∙ append_assoc body (set digest place v) rest;
          size = length-set digest place v ∙ digest_length e before;
          other = differs digest place v within (λ same. other (same ∙ sym (get_or-append_right body digest (length body) at 0 refl whole)));
        };
      }

  -- wherever the octet stands
  told : at < entry_length e → (IsGuardedByDigest (entry_length e) at → EndsWithOtherDigest before (set was at v)) → Told before (set was at v ++ rest)
  told within guard = elim (cases_lt at KIND_AT) [
    | inl low ↦ in_word low
    | inr past_word ↦ elim (cases_lt at MOMENT_AT) [
      | inl here ↦ in_kind (omega (arith, past_word, here)) (guard (omega (arith, past_word), omega (arith, here), inl (omega (arith, here))))
      | inr past_kind ↦ elim (cases_lt at COUNT_AT) [
        | inl here ↦ in_moment past_kind here (guard (omega (arith, past_word), omega (arith, here), inl here))
        | inr past_moment ↦ elim (cases_lt at LACK_AT) [
          | inl here ↦ in_count past_moment here
          | inr past_count ↦ elim (cases_lt at HEADER_LEN) [
            | inl here ↦ in_lack past_count here
            | inr past_header ↦ elim (cases_lt at (HEADER_LEN + n)) [
              | inl here ↦ in_content past_header here (guard (omega (arith, past_word), omega (arith, here), inr past_header))
              | inr past ↦ in_digest past within
            ]
          ]
        ]
      ]
    ]
  ]

-- the entries before it are read, and then the change is told
pub octet_told : (before octets rest : List ℕ) (entries : List Noted) (e : Noted) → AllByRecursion IsEntry entries → IsEntry e
    → IsChangedBehind before entries e octets → TellsChange before (record_octets before entries ++ (octets ++ rest)) entries
octet_told before octets rest entries e each is behind =
    let last = last_digest before entries in
    let changed = behind.changed in
    let found = told last rest e is behind.at changed.octet changed.small changed.other (omega (arith, changed.within, octets_length e last))
    (λ place. subst (EndsWithOtherDigest last) changed.is (behind.told place)) in
    record {
      sign = found.sign;
      read = read_before before (octets ++ rest) entries (Changed found.sign) each
          (subst (λ (z : List ℕ). IsNext last (z ++ rest) (Changed found.sign)) (sym changed.is) found.next) tt;
    }

-- an entry that was written behind another digest
pub place_told : (before other rest : List ℕ) (e : Noted) → IsEntry e → (entry_digest e other ≡ entry_digest e before → ⊥)
    → IsNext before (entry_octets e other ++ rest) (Changed signs.Digest)
place_told before other rest e is differs = record {
  entry = e;
  stored = entry_digest e other;
  rest = rest;
  sound = is;
  parts = append_assoc (entry_body e) (entry_digest e other) rest;
  size = digest_length e other;
  other = differs;
}
