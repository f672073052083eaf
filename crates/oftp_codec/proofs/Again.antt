-- The encoding of a command is read as that command, kind by kind. The fields of its table follow one another, no octets encode two values, and
-- an encoding has no error.
use Rattle.std.proofs.Common.{◌≡◌, ℕ, ◌-◌, ◌<◌, ◌^◌, Bool, true, false, List, [], ◌∷◌, length, Ok, refl, sym, ap, ◌∙◌, arith, rules}
use Rattle.std.specs.Prelude.{codes, Result}
use Rattle.std.specs.Str.{bytes_eq}
use Rattle.oftp_wire.specs.declared.command.Ssid.{Ssid}
use Rattle.oftp_wire.specs.declared.command.Sfid.{Sfid}
use Rattle.oftp_wire.specs.declared.command.Sfpa.{Sfpa}
use Rattle.oftp_wire.specs.declared.command.Sfna.{Sfna}
use Rattle.oftp_wire.specs.declared.command.Efid.{Efid}
use Rattle.oftp_wire.specs.declared.command.Efpa.{Efpa}
use Rattle.oftp_wire.specs.declared.command.Efna.{Efna}
use Rattle.oftp_wire.specs.declared.command.Esid.{Esid}
use Rattle.oftp_wire.specs.declared.command.Eerp.{Eerp}
use Rattle.oftp_wire.specs.declared.command.Nerp.{Nerp}
use Rattle.oftp_wire.specs.declared.command.Command.{Command}
use Rattle.oftp_wire.specs.declared.command.Command.TheVariants as commands
use Rattle.oftp_wire.specs.declared.command.Mode.{Mode}
use Rattle.oftp_wire.specs.declared.command.Mode.TheVariants as modes
use Rattle.oftp_wire.specs.declared.command.Layout.{Layout}
use Rattle.oftp_wire.specs.declared.command.Layout.TheVariants.{Fixed, Variable, Unstructured, Text}
use Rattle.oftp_wire.specs.declared.fault.WireFault.{WireFault}
use Rattle.oftp_wire.specs.Octets.{part, number, decimal}
use Rattle.oftp_codec.specs.Reading.{layout_from}
use Rattle.oftp_codec.specs.Row.{Table, IsSpelled, fault_in}
use Rattle.oftp_codec.specs.Spelling.{of_table}
use Rattle.oftp_codec.specs.Tables.{mode_of, format_of, has_records, is_recorded, longest_of, flag_octets, mode_octets, format_octets}
use Rattle.oftp_codec.specs.Tables.{ssrm_table, ssid_table, sfid_table, sfid_table_of, sfpa_table, sfna_table, data_table, cdt_table, efid_table, efpa_table, efna_table, esid_table, eerp_table, nerp_table, single_table}
use Rattle.oftp_codec.specs.Kinds.{ssrm_of, ssid_of, sfid_of, sfpa_of, sfna_of, data_of, cdt_of, efid_of, efpa_of, efna_of, esid_of, eerp_of, nerp_of, single_of}
use Rattle.oftp_wire.proofs.Decimals.{number-decimal}
use Rattle.oftp_codec.proofs.Exact.{Exact, only}
use Rattle.oftp_codec.proofs.EachKind.{IsKind, table_is, ssrm_exact, ssid_exact, sfid_exact, sfpa_exact, sfna_exact, data_exact, cdt_exact, efid_exact, efpa_exact, efna_exact, esid_exact, eerp_exact, nerp_exact, single_exact}
use Rattle.oftp_codec.proofs.Spelled.{Contiguous, no_fault, each_same, EachSame}

-- ---- letters encode one value

flag_back : (b : Bool) → bytes_eq (flag_octets b) (codes "Y") ≡ b
flag_back true = refl
flag_back false = refl

flag_one : (a b : Bool) → flag_octets a ≡ flag_octets b → a ≡ b
flag_one a b e = sym (flag_back a) ∙ ap (λ w. bytes_eq w (codes "Y")) e ∙ flag_back b

-- the value that a letter encodes, found again
mode_back : (m : Mode) → mode_of (mode_octets m) ≡ m
mode_back modes.Send = refl
mode_back modes.Receive = refl
mode_back modes.Both = refl

mode_one : (a b : Mode) → mode_octets a ≡ mode_octets b → a ≡ b
mode_one a b e = sym (mode_back a) ∙ ap mode_of e ∙ mode_back b

layout_back : (l : Layout) → layout_from (format_of (format_octets l)) (longest_of l) ≡ l
layout_back (Fixed n) = refl
layout_back (Variable n) = refl
layout_back Unstructured = refl
layout_back Text = refl

layout_one : (a b : Layout) → format_octets a ≡ format_octets b → longest_of a ≡ longest_of b → a ≡ b
layout_one a b e n =
    sym (layout_back a) ∙ ap (λ w. layout_from (format_of w) (longest_of a)) e
    ∙ ap (λ m. layout_from (format_of (format_octets b)) m) n ∙ layout_back b

recorded_back : (l : Layout) → has_records (format_of (format_octets l)) ≡ is_recorded l
recorded_back (Fixed n) = refl
recorded_back (Variable n) = refl
recorded_back Unstructured = refl
recorded_back Text = refl

-- a length is read as it was encoded
length_is : (n m : ℕ) (w : List ℕ) → (m < 10 ^ n) × (w ≡ decimal n m) → number w ≡ m
length_is n m w h = ap number h.1 ∙ number-decimal n m h.0

-- ---- every kind

-- A fact of each table whose fields follow one another is a fact of each command. It speaks of the command's table by `of_table` of the command:
-- once for facts, and once for octets.
pub by_table : (M : (((S : Type 0) → Table S → S → Type 0) → Type 0) → (((S : Type 0) → Table S → S → List ℕ) → List ℕ) → Type 0)
    → ((S : Type 0) (t : Table S) (s : S) → Contiguous 0 t.rows t.end → M (λ say. say S t s) (λ say. say S t s))
    → (c : Command) → M (of_table c) (of_table c)
by_table M each commands.Ssrm = each (Unit {0}) ssrm_table tt (search rules)
by_table M each (commands.Ssid s) = each Ssid ssid_table s (search rules)
by_table M each (commands.Sfid s) = each Sfid (sfid_table_of s) s (search rules)
by_table M each (commands.Sfpa s) = each Sfpa sfpa_table s (search rules)
by_table M each (commands.Sfna s) = each Sfna (sfna_table (length s.text)) s (search rules)
by_table M each (commands.Data s) = each (List ℕ) (data_table (length s)) s (search rules)
by_table M each commands.Cdt = each (Unit {0}) cdt_table tt (search rules)
by_table M each (commands.Efid s) = each Efid efid_table s (search rules)
by_table M each (commands.Efpa s) = each Efpa efpa_table s (search rules)
by_table M each (commands.Efna s) = each Efna (efna_table (length s.text)) s (search rules)
by_table M each (commands.Esid s) = each Esid (esid_table (length s.text)) s (search rules)
by_table M each commands.Cd = each (Unit {0}) (single_table (codes "R")) tt (search rules)
by_table M each (commands.Eerp s) = each Eerp eerp_table s (search rules)
by_table M each (commands.Nerp s) = each Nerp (nerp_table (length s.text)) s (search rules)
by_table M each commands.Rtr = each (Unit {0}) (single_table (codes "P")) tt (search rules)

-- so the fields of a command's table follow one another
contiguous_of : (c : Command) → of_table c (λ S t s. Contiguous 0 t.rows t.end)
contiguous_of = by_table (λ F G. F (λ S t s. Contiguous 0 t.rows t.end)) (λ S t s parts. parts)

-- A command is read if a table reads its octets exactly, and no two commands have the same fields of that table. The table is that of each
-- command that they encode.
again_in : {S : Type 0} {T : S → Table S} {t : Table S} {r : Result S WireFault} {o : List ℕ} → Exact r (fault_in t o) (λ s. IsSpelled (T s) s o)
    → ((s : S) → Contiguous 0 (T s).rows (T s).end) → ((s : S) → IsSpelled (T s) s o → t ≡ T s)
    → ((s u : S) → EachSame t.rows s u → s ≡ u) → (s : S) → IsSpelled (T s) s o → r ≡ Ok s
again_in {S} {T} {t} {r} {o} exact parts is same s h = only exact (ap (λ (x : Table S). fault_in x o) (is s h) ∙ no_fault (T s) s o (parts s) h) one s h
  where
    one : (s u : S) → IsSpelled (T s) s o → IsSpelled (T u) u o → s ≡ u
    one s u p q = same s u (each_same t.rows s u o (table_is (is s p) p).fields (table_is (is u q) q).fields)

-- the same for a kind that has one table
again_of : {S : Type 0} {table : Table S} {r : Result S WireFault} {o : List ℕ} → Exact r (fault_in table o) (λ s. IsSpelled table s o)
    → ((s : S) → Contiguous 0 table.rows table.end) → ((s u : S) → EachSame table.rows s u → s ≡ u)
    → (s : S) → IsSpelled table s o → r ≡ Ok s
again_of {S} {table} exact parts same s h = again_in {T = λ s. table} exact parts (λ s h. refl) same s h

-- the same for a kind with a text, whose length is a field of three digits at an offset
again_text : {S : Type 0} {r : Result S WireFault} {o : List ℕ} (table : ℕ → Table S) (text : S → List ℕ) (at : ℕ)
    → Exact r (fault_in (table (number (part at 3 o))) o) (λ s. IsSpelled (table (length (text s))) s o)
    → ((s : S) → Contiguous 0 (table (length (text s))).rows (table (length (text s))).end)
    → ((s : S) → IsSpelled (table (length (text s))) s o → (length (text s) < 10 ^ 3) × (part at 3 o ≡ decimal 3 (length (text s))))
    → ((n : ℕ) (s u : S) → EachSame (table n).rows s u → s ≡ u) → (s : S) → IsSpelled (table (length (text s))) s o → r ≡ Ok s
again_text {S} {r} {o} table text at exact parts counted same s h =
    again_in {T = λ s. table (length (text s))} exact parts (λ s h. ap table (length_is 3 (length (text s)) (part at 3 o) (counted s h)))
    (same (number (part at 3 o))) s h

-- ---- SSRM, CDT, CD and RTR, which have no fields

pub ssrm_again : (o : List ℕ) → IsKind (codes "I") o → (s : Unit {0}) → IsSpelled ssrm_table s o → ssrm_of o ≡ Ok s
ssrm_again o kind s h = again_of (ssrm_exact o kind) (λ s. contiguous_of commands.Ssrm) (λ s u e. refl) s h

pub cdt_again : (o : List ℕ) → IsKind (codes "C") o → (s : Unit {0}) → IsSpelled cdt_table s o → cdt_of o ≡ Ok s
cdt_again o kind s h = again_of (cdt_exact o kind) (λ s. contiguous_of commands.Cdt) (λ s u e. refl) s h

pub single_again : (c : ℕ) (o : List ℕ) → IsKind (c ∷ []) o → (s : Unit {0}) → IsSpelled (single_table (c ∷ [])) s o → single_of o ≡ Ok s
single_again c o kind s h = again_of (single_exact c o kind) (λ s. search rules) (λ s u e. refl) s h

-- ---- SSID

ssid_same : (s t : Ssid) → EachSame ssid_table.rows s t → s ≡ t
ssid_same s t (_, (level, (code, (password, (buffer, (mode, (compression, (restart, (special_logic, (credit, (authentication, (_, (user, (_, _)))))))))))))) = λ i. record {
  level = level i;
  code = code i;
  password = password i;
  buffer = buffer i;
  mode = mode_one s.mode t.mode mode i;
  compression = flag_one s.compression t.compression compression i;
  restart = flag_one s.restart t.restart restart i;
  special_logic = flag_one s.special_logic t.special_logic special_logic i;
  credit = credit i;
  authentication = flag_one s.authentication t.authentication authentication i;
  user = user i;
}

pub ssid_again : (o : List ℕ) → IsKind (codes "X") o → (s : Ssid) → IsSpelled ssid_table s o → ssid_of o ≡ Ok s
ssid_again o kind s h = again_of (ssid_exact o kind) (λ s. contiguous_of (commands.Ssid s)) ssid_same s h

-- ---- SFID

sfid_same : (b : Bool) (n : ℕ) (s t : Sfid) → EachSame (sfid_table b n).rows s t → s ≡ t
sfid_same recorded n s t (_, (a, (_, (b, (c, (d, (e, (f, (letter, (longest, (g, (h, (i, (j, (k, (l, (m, (response, (_, (text, _)))))))))))))))))))) = λ x. record {
  dataset = a x;
  date = b x;
  time = c x;
  user = d x;
  destination = e x;
  originator = f x;
  layout = layout_one s.layout t.layout letter longest x;
  size = g x;
  original_size = h x;
  restart = i x;
  security = j x;
  cipher = k x;
  compression = l x;
  enveloping = m x;
  signed_response = flag_one s.signed_response t.signed_response response x;
  description = text x;
}

-- the table of octets that encode an SFID, by the letter of the format and the length field
sfid_table_is : (s : Sfid) (o : List ℕ) → IsSpelled (sfid_table_of s) s o
    → sfid_table (has_records (format_of (part 106 1 o))) (number (part 162 3 o)) ≡ sfid_table_of s
sfid_table_is s o h =
    let (_, (_, (_, (_, (_, (_, (_, (_, (letter, (_, (_, (_, (_, (_, (_, (_, (_, (_, (count, _))))))))))))))))))) = h.fields in
    let recorded : has_records (format_of (part 106 1 o)) ≡ is_recorded s.layout = ap (λ w. has_records (format_of w)) letter.1 ∙ recorded_back s.layout in
    ap (λ b. sfid_table b (number (part 162 3 o))) recorded ∙ ap (sfid_table (is_recorded s.layout)) (length_is 3 (length s.description) (part 162 3 o) count)

pub sfid_again : (o : List ℕ) → IsKind (codes "H") o → (s : Sfid) → IsSpelled (sfid_table_of s) s o → sfid_of o ≡ Ok s
sfid_again o kind s h =
    again_in {T = sfid_table_of} (sfid_exact o kind) (λ s. contiguous_of (commands.Sfid s)) (λ s h. sfid_table_is s o h)
    (sfid_same (has_records (format_of (part 106 1 o))) (number (part 162 3 o))) s h

-- ---- SFPA

sfpa_same : (s t : Sfpa) → EachSame sfpa_table.rows s t → s ≡ t
sfpa_same s t (_, (restart, _)) = λ i. record { restart = restart i }

pub sfpa_again : (o : List ℕ) → IsKind (codes "2") o → (s : Sfpa) → IsSpelled sfpa_table s o → sfpa_of o ≡ Ok s
sfpa_again o kind s h = again_of (sfpa_exact o kind) (λ s. contiguous_of (commands.Sfpa s)) sfpa_same s h

-- ---- SFNA

sfna_same : (n : ℕ) (s t : Sfna) → EachSame (sfna_table n).rows s t → s ≡ t
sfna_same n s t (_, (reason, (retry, (_, (text, _))))) = λ i. record { reason = reason i; retry = flag_one s.retry t.retry retry i; text = text i }

pub sfna_again : (o : List ℕ) → IsKind (codes "3") o → (s : Sfna) → IsSpelled (sfna_table (length s.text)) s o → sfna_of o ≡ Ok s
sfna_again o kind s h =
    again_text sfna_table (λ s. s.text) 4 (sfna_exact o kind) (λ s. contiguous_of (commands.Sfna s)) (λ s h. h.fields.1.1.1.0) sfna_same s h

-- ---- DATA

data_same : (n : ℕ) (s t : List ℕ) → EachSame (data_table n).rows s t → s ≡ t
data_same n s t (_, (payload, _)) = payload

pub data_again : (o : List ℕ) → IsKind (codes "D") o → (s : List ℕ) → IsSpelled (data_table (length s)) s o → data_of o ≡ Ok s
data_again o kind s h =
    again_in {T = λ s. data_table (length s)} (data_exact o kind) (λ s. contiguous_of (commands.Data s))
    (λ s h. let whole : length o - 1 ≡ length s = omega (arith, h.whole) in ap data_table whole) (data_same (length o - 1)) s h

-- ---- EFID

efid_same : (s t : Efid) → EachSame efid_table.rows s t → s ≡ t
efid_same s t (_, (records, (units, _))) = λ i. record { records = records i; units = units i }

pub efid_again : (o : List ℕ) → IsKind (codes "T") o → (s : Efid) → IsSpelled efid_table s o → efid_of o ≡ Ok s
efid_again o kind s h = again_of (efid_exact o kind) (λ s. contiguous_of (commands.Efid s)) efid_same s h

-- ---- EFPA

efpa_same : (s t : Efpa) → EachSame efpa_table.rows s t → s ≡ t
efpa_same s t (_, (change_direction, _)) = λ i. record { change_direction = flag_one s.change_direction t.change_direction change_direction i }

pub efpa_again : (o : List ℕ) → IsKind (codes "4") o → (s : Efpa) → IsSpelled efpa_table s o → efpa_of o ≡ Ok s
efpa_again o kind s h = again_of (efpa_exact o kind) (λ s. contiguous_of (commands.Efpa s)) efpa_same s h

-- ---- EFNA

efna_same : (n : ℕ) (s t : Efna) → EachSame (efna_table n).rows s t → s ≡ t
efna_same n s t (_, (reason, (_, (text, _)))) = λ i. record { reason = reason i; text = text i }

pub efna_again : (o : List ℕ) → IsKind (codes "5") o → (s : Efna) → IsSpelled (efna_table (length s.text)) s o → efna_of o ≡ Ok s
efna_again o kind s h =
    again_text efna_table (λ s. s.text) 3 (efna_exact o kind) (λ s. contiguous_of (commands.Efna s)) (λ s h. h.fields.1.1.0) efna_same s h

-- ---- ESID

esid_same : (n : ℕ) (s t : Esid) → EachSame (esid_table n).rows s t → s ≡ t
esid_same n s t (_, (reason, (_, (text, (_, _))))) = λ i. record { reason = reason i; text = text i }

pub esid_again : (o : List ℕ) → IsKind (codes "F") o → (s : Esid) → IsSpelled (esid_table (length s.text)) s o → esid_of o ≡ Ok s
esid_again o kind s h =
    again_text esid_table (λ s. s.text) 3 (esid_exact o kind) (λ s. contiguous_of (commands.Esid s)) (λ s h. h.fields.1.1.0) esid_same s h

-- ---- EERP

eerp_same : (s t : Eerp) → EachSame eerp_table.rows s t → s ≡ t
eerp_same s t (_, (dataset, (_, (date, (time, (user, (destination, (originator, (_, (_, _)))))))))) =
    λ i. record { dataset = dataset i; date = date i; time = time i; user = user i; destination = destination i; originator = originator i }

pub eerp_again : (o : List ℕ) → IsKind (codes "E") o → (s : Eerp) → IsSpelled eerp_table s o → eerp_of o ≡ Ok s
eerp_again o kind s h = again_of (eerp_exact o kind) (λ s. contiguous_of (commands.Eerp s)) eerp_same s h

-- ---- NERP

nerp_same : (n : ℕ) (s t : Nerp) → EachSame (nerp_table n).rows s t → s ≡ t
nerp_same n s t (_, (dataset, (_, (date, (time, (destination, (originator, (creator, (reason, (_, (text, (_, (_, _))))))))))))) = λ i. record {
  dataset = dataset i;
  date = date i;
  time = time i;
  destination = destination i;
  originator = originator i;
  creator = creator i;
  reason = reason i;
  text = text i;
}

pub nerp_again : (o : List ℕ) → IsKind (codes "N") o → (s : Nerp) → IsSpelled (nerp_table (length s.text)) s o → nerp_of o ≡ Ok s
nerp_again o kind s h =
    again_text nerp_table (λ s. s.text) 128 (nerp_exact o kind) (λ s. contiguous_of (commands.Nerp s)) (λ s h. h.fields.1.1.1.1.1.1.1.1.1.0) nerp_same s h
