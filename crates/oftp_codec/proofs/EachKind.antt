-- The result of each kind's reader is what its table encodes.
use Rattle.std.proofs.Common.{◌≡◌, ℕ, ◌+◌, ◌-◌, ◌<◌, ◌≤◌, ◌^◌, List, [], ◌∷◌, length, refl, sym, ap, subst, arith, ◌∙◌}
use Rattle.std.specs.Prelude.{codes}
use Rattle.std.specs.Str.{IsUtf8}
use Rattle.std.specs.Prelude.{Option}
use Rattle.oftp_wire.specs.declared.fault.WireFault.{WireFault}
use Rattle.oftp_wire.specs.Octets.{part, number, decimal}
use Rattle.oftp_codec.specs.Form.{OneOf, Digits, Utf8, fault_of, end_fault}
use Rattle.oftp_codec.specs.Reading.{name_at, count_at, digits_at, text_at, last_text_at, skipped_at, ends_at, flag_at, mode_at, format_at, layout_at, rest_at}
use Rattle.oftp_codec.specs.Tables.{format_of, has_records}
use Rattle.oftp_codec.specs.Kinds.{esid_of, eerp_of, sfpa_of, cdt_of, ssid_of, sfid_of, nerp_of, ssrm_of, sfna_of, data_of, efid_of, efpa_of, efna_of, single_of}
use Rattle.oftp_codec.specs.Row.{Table, IsSpelled, or_else, fault_in}
use Rattle.oftp_codec.specs.Tables.{esid_table, eerp_table, sfpa_table, cdt_table, ssid_table, sfid_table, sfid_table_of, nerp_table, ssrm_table, sfna_table, data_table, efid_table, efpa_table, efna_table, single_table}
use Rattle.oftp_codec.proofs.Forms.{IsFine, found, length-part, name_ok, digits_ok, count_ok, length_ok, word_ok, return_ok, text_ok, flag_ok, mode_ok, format_ok, longest_ok, recorded_is}
use Rattle.oftp_codec.proofs.Exact.{Exact, step, finish, named, reads}
use Rattle.oftp_codec.proofs.Spelled.{ends_well}

-- the octets begin with a kind's letter
abbrev pub IsKind : List ℕ → List ℕ → Type 0
IsKind w o = IsFine (OneOf 1 (w ∷ [])) 0 o

-- the facts of fields, one after the other
infixr 5 ◌&◌
abbrev ◌&◌ : {A B : Type 0} → A → B → A × B
a & b = (a, b)

-- octets that encode a table encode one equal to it
pub table_is : {S : Type 0} {t u : Table S} {s : S} {o : List ℕ} → t ≡ u → IsSpelled u s o → IsSpelled t s o
table_is {S} {t} {u} {s} {o} e h = subst (λ (x : Table S). IsSpelled x s o) (sym e) h

-- ---- texts

-- a text with its length in a field before it
record IsText (count at : ℕ) (o : List ℕ) : Type 0 where
  len : length (part at (number (part count 3 o)) o) ≡ number (part count 3 o)
  short : number (part count 3 o) ≤ 999

-- a text without error, after a length without error
text_from : {count at : ℕ} {o : List ℕ} → IsFine (Digits 3) count o → IsFine (Utf8 (number (part count 3 o))) at o → IsText count at o
text_from {count} {at} {o} counted fine = record {
  len = length-part at (number (part count 3 o)) o (found fine).within;
  short = omega (arith, (count_ok counted).0);
}

-- a text that ends a command, after its length
record IsLastText (at : ℕ) (o text : List ℕ) : Type 0 where
  len : length text ≡ number (part at 3 o)
  counted : (length text < 10 ^ 3) × (part at 3 o ≡ decimal 3 (length text))
  says : ((length text ≡ number (part at 3 o)) × (number (part at 3 o) ≤ 999) × IsUtf8 text) × (part (at + 3) (number (part at 3 o)) o ≡ text)
  whole : length o ≡ at + 3 + number (part at 3 o)

-- the errors of such a text
abbrev last_text_fault : ℕ → List ℕ → Option WireFault
last_text_fault at o =
    let n = number (part at 3 o) in
    or_else (fault_of (Digits 3) at o) (or_else (fault_of (Utf8 n) (at + 3) o) (end_fault (at + 3 + n) o))

last_text_exact : (at : ℕ) (o : List ℕ) → Exact (last_text_at at o) (last_text_fault at o) (IsLastText at o)
unfolding last_text_at count_at text_at ends_at
last_text_exact at o =
    step _ (λ count. step _ (λ text. finish _ _ (λ e.
    let t = text_from count text in
    reads (record { len = t.len; counted = length_ok _ count (sym t.len); says = text_ok t.short text; whole = e }))))

-- ---- the kinds

pub ssrm_exact : (o : List ℕ) → IsKind (codes "I") o → Exact (ssrm_of o) (fault_in ssrm_table o) (λ s. IsSpelled ssrm_table s o)
unfolding ssrm_of skipped_at ends_at
ssrm_exact o kind = rw kind.fine (
    step _ (λ ready. step _ (λ cr. finish _ _ (λ e.
    reads (record { whole = e; fields = word_ok kind & word_ok ready & return_ok cr & tt })))))

pub ssid_exact : (o : List ℕ) → IsKind (codes "X") o → Exact (ssid_of o) (fault_in ssid_table o) (λ s. IsSpelled ssid_table s o)
unfolding ssid_of name_at count_at mode_at flag_at skipped_at ends_at
ssid_exact o kind = rw kind.fine (
    step _ (λ level. step _ (λ code. step _ (λ password. step _ (λ buffer. step _ (λ mode. step _ (λ compression. step _ (λ restart.
    step _ (λ special_logic. step _ (λ credit. step _ (λ authentication. step _ (λ spaces. step _ (λ user. step _ (λ cr. finish _ _ (λ e.
    reads (record {
      whole = e;
      fields =
          word_ok kind & count_ok level & name_ok code & name_ok password & count_ok buffer & mode_ok mode & flag_ok compression
          & flag_ok restart & flag_ok special_logic & count_ok credit & flag_ok authentication & (tt, tt) & name_ok user & return_ok cr
          & tt;
    }))))))))))))))))

pub sfid_exact : (o : List ℕ) → IsKind (codes "H") o
    → Exact (sfid_of o) (fault_in (sfid_table (has_records (format_of (part 106 1 o))) (number (part 162 3 o))) o)
    (λ s. IsSpelled (sfid_table_of s) s o)
unfolding sfid_of name_at digits_at count_at flag_at format_at layout_at skipped_at
sfid_exact o kind = rw kind.fine (
    step _ (λ dataset. step _ (λ spaces. step _ (λ date. step _ (λ time. step _ (λ user. step _ (λ destination. step _ (λ originator.
    step _ (λ letter. step _ (λ longest. step _ (λ size. step _ (λ original_size. step _ (λ restart. step _ (λ security. step _ (λ cipher.
    step _ (λ compression. step _ (λ enveloping. step _ (λ signed_response. named _ (last_text_exact 162 o) (λ text last.
    let format = format_of (part 106 1 o) in
    let m = number (part 107 5 o) in
    let l = longest_ok format longest in
    table_is (ap (λ b. sfid_table b (length text)) (recorded_is format m) ∙ ap (sfid_table (has_records format)) last.len) (record {
      whole = last.whole;
      fields =
          word_ok kind & name_ok dataset & (tt, tt) & digits_ok date & digits_ok time & name_ok user & name_ok destination
          & name_ok originator & format_ok m letter & ((l.small, l.zero_unless), l.says) & count_ok size & count_ok original_size
          & count_ok restart & count_ok security & count_ok cipher & count_ok compression & count_ok enveloping & flag_ok signed_response
          & last.counted & last.says & tt;
    }))))))))))))))))))))

pub sfpa_exact : (o : List ℕ) → IsKind (codes "2") o → Exact (sfpa_of o) (fault_in sfpa_table o) (λ s. IsSpelled sfpa_table s o)
unfolding sfpa_of count_at ends_at
sfpa_exact o kind = rw kind.fine (
    step _ (λ restart. finish _ _ (λ e.
    reads (record { whole = e; fields = word_ok kind & count_ok restart & tt }))))

pub sfna_exact : (o : List ℕ) → IsKind (codes "3") o
    → Exact (sfna_of o) (fault_in (sfna_table (number (part 4 3 o))) o) (λ s. IsSpelled (sfna_table (length s.text)) s o)
unfolding sfna_of count_at flag_at
sfna_exact o kind = rw kind.fine (
    step _ (λ reason. step _ (λ retry. named _ (last_text_exact 4 o) (λ text last.
    table_is (ap sfna_table last.len) (record {
      whole = last.whole;
      fields = word_ok kind & count_ok reason & flag_ok retry & last.counted & last.says & tt;
    })))))

pub data_exact : (o : List ℕ) → IsKind (codes "D") o
    → Exact (data_of o) (fault_in (data_table (length o - 1)) o) (λ s. IsSpelled (data_table (length s)) s o)
unfolding data_of rest_at
data_exact o kind = rw kind.fine (
    step _ (λ payload.
    let whole : length o ≡ 1 + (length o - 1) = omega (arith, (found kind).within) in
    let len : length (part 1 (length o - 1) o) ≡ length o - 1 = length-part 1 (length o - 1) o (found payload).within in
    let is = table_is (ap data_table len) (record { whole = whole; fields = word_ok kind & (len, refl) & tt }) in
    record { met = (ends_well (1 + (length o - 1)) o whole, is) }))

pub cdt_exact : (o : List ℕ) → IsKind (codes "C") o → Exact (cdt_of o) (fault_in cdt_table o) (λ s. IsSpelled cdt_table s o)
unfolding cdt_of skipped_at ends_at
cdt_exact o kind = rw kind.fine (
    step _ (λ spaces. finish _ _ (λ e.
    reads (record { whole = e; fields = word_ok kind & (tt, tt) & tt }))))

pub efid_exact : (o : List ℕ) → IsKind (codes "T") o → Exact (efid_of o) (fault_in efid_table o) (λ s. IsSpelled efid_table s o)
unfolding efid_of count_at ends_at
efid_exact o kind = rw kind.fine (
    step _ (λ records. step _ (λ units. finish _ _ (λ e.
    reads (record { whole = e; fields = word_ok kind & count_ok records & count_ok units & tt })))))

pub efpa_exact : (o : List ℕ) → IsKind (codes "4") o → Exact (efpa_of o) (fault_in efpa_table o) (λ s. IsSpelled efpa_table s o)
unfolding efpa_of flag_at ends_at
efpa_exact o kind = rw kind.fine (
    step _ (λ change. finish _ _ (λ e.
    reads (record { whole = e; fields = word_ok kind & flag_ok change & tt }))))

pub efna_exact : (o : List ℕ) → IsKind (codes "5") o
    → Exact (efna_of o) (fault_in (efna_table (number (part 3 3 o))) o) (λ s. IsSpelled (efna_table (length s.text)) s o)
unfolding efna_of count_at
efna_exact o kind = rw kind.fine (
    step _ (λ reason. named _ (last_text_exact 3 o) (λ text last.
    table_is (ap efna_table last.len) (record {
      whole = last.whole;
      fields = word_ok kind & count_ok reason & last.counted & last.says & tt;
    }))))

pub esid_exact : (o : List ℕ) → IsKind (codes "F") o
    → Exact (esid_of o) (fault_in (esid_table (number (part 3 3 o))) o) (λ s. IsSpelled (esid_table (length s.text)) s o)
unfolding esid_of count_at text_at skipped_at ends_at
esid_exact o kind = rw kind.fine (
    step _ (λ reason. step _ (λ count. step _ (λ text. step _ (λ cr. finish _ _ (λ e.
    let t = text_from count text in
    reads (table_is (ap esid_table t.len) (record {
      whole = e;
      fields = word_ok kind & count_ok reason & length_ok _ count (sym t.len) & text_ok t.short text & return_ok cr & tt;
    }))))))))

-- CD and RTR
pub single_exact : (c : ℕ) (o : List ℕ) → IsKind (c ∷ []) o
    → Exact (single_of o) (fault_in (single_table (c ∷ [])) o) (λ s. IsSpelled (single_table (c ∷ [])) s o)
unfolding single_of ends_at
single_exact c o kind = rw kind.fine (finish _ _ (λ e. reads (record { whole = e; fields = word_ok kind & tt })))

pub eerp_exact : (o : List ℕ) → IsKind (codes "E") o → Exact (eerp_of o) (fault_in eerp_table o) (λ s. IsSpelled eerp_table s o)
unfolding eerp_of name_at digits_at skipped_at ends_at
eerp_exact o kind = rw kind.fine (
    step _ (λ dataset. step _ (λ spaces. step _ (λ date. step _ (λ time. step _ (λ user. step _ (λ destination. step _ (λ originator.
    step _ (λ hash. step _ (λ signature. finish _ _ (λ e.
    reads (record {
      whole = e;
      fields =
          word_ok kind & name_ok dataset & (tt, tt) & digits_ok date & digits_ok time & name_ok user & name_ok destination
          & name_ok originator & word_ok hash & word_ok signature & tt;
    }))))))))))))

pub nerp_exact : (o : List ℕ) → IsKind (codes "N") o
    → Exact (nerp_of o) (fault_in (nerp_table (number (part 128 3 o))) o) (λ s. IsSpelled (nerp_table (length s.text)) s o)
unfolding nerp_of name_at digits_at count_at text_at skipped_at ends_at
nerp_exact o kind = rw kind.fine (
    step _ (λ dataset. step _ (λ spaces. step _ (λ date. step _ (λ time. step _ (λ destination. step _ (λ originator. step _ (λ creator.
    step _ (λ reason. step _ (λ count. step _ (λ text. step _ (λ hash. step _ (λ signature. finish _ _ (λ e.
    let t = text_from count text in
    reads (table_is (ap nerp_table t.len) (record {
      whole = e;
      fields =
          word_ok kind & name_ok dataset & (tt, tt) & digits_ok date & digits_ok time & name_ok destination & name_ok originator
          & name_ok creator & count_ok reason & length_ok _ count (sym t.len) & text_ok t.short text & word_ok hash & word_ok signature
          & tt;
    }))))))))))))))))
