-- What RFC 5024 calls the fields (section 5.3). Their places and what they may have are those of oftp_codec's tables.
use Rattle.std.specs.Prelude.{ℕ, ◌-◌, List, [], ◌∷◌, length, codes}
use Rattle.oftp_wire.specs.Octets.{part, number}
use Rattle.oftp_codec.specs.Form.{Form}
use Rattle.oftp_codec.specs.Row.{Row, Table, at_of, form_of}
use Rattle.oftp_codec.specs.Tables.{ssrm_table, ssid_table, sfid_table, sfpa_table, sfna_table, data_table, cdt_table, efid_table, efpa_table, efna_table, esid_table, single_table, eerp_table, nerp_table, format_of, has_records}
use Rattle.oftp_telling.specs.declared.kind.CommandKind.{CommandKind}
use Rattle.oftp_telling.specs.declared.kind.CommandKind.TheVariants as kinds

-- a field: its name, its offset and its form
pub record Entry : Type 0 where
  pub name : List ℕ
  pub at : ℕ
  pub form : Form

-- the rows of a table with their names
abbrev pub named_rows : {S : Type 0} → List (List ℕ) → List (Row S) → List Entry
named_rows [] rs = []
named_rows (n ∷ ns) [] = []
named_rows (n ∷ ns) (r ∷ rs) = record { name = n; at = at_of r; form = form_of r } ∷ named_rows ns rs

-- the fields of a kind, and where their last one ends
pub record Sheet : Type 0 where
  pub entries : List Entry
  pub end : ℕ

-- a table with the names of its fields
abbrev pub named : {S : Type 0} → List (List ℕ) → Table S → Sheet
named names t = record { entries = named_rows names t.rows; end = t.end }

-- ---- the names

-- SSRM (RFC 5024, section 5.3.1)
abbrev pub ssrm_names : List (List ℕ)
ssrm_names = codes "SSRMCMD" ∷ codes "SSRMMSG" ∷ codes "SSRMCR" ∷ []

-- SSID (RFC 5024, section 5.3.2)
abbrev pub ssid_names : List (List ℕ)
ssid_names = codes "SSIDCMD" ∷ codes "SSIDLEV" ∷ codes "SSIDCODE" ∷ codes "SSIDPSWD" ∷ codes "SSIDSDEB" ∷ codes "SSIDSR" ∷ codes "SSIDCMPR"
    ∷ codes "SSIDREST" ∷ codes "SSIDSPEC" ∷ codes "SSIDCRED" ∷ codes "SSIDAUTH" ∷ codes "SSIDRSV1" ∷ codes "SSIDUSER" ∷ codes "SSIDCR" ∷ []

-- SFID (RFC 5024, section 5.3.3)
abbrev pub sfid_names : List (List ℕ)
sfid_names = codes "SFIDCMD" ∷ codes "SFIDDSN" ∷ codes "SFIDRSV1" ∷ codes "SFIDDATE" ∷ codes "SFIDTIME" ∷ codes "SFIDUSER" ∷ codes "SFIDDEST"
    ∷ codes "SFIDORIG" ∷ codes "SFIDFMT" ∷ codes "SFIDLRECL" ∷ codes "SFIDFSIZ" ∷ codes "SFIDOSIZ" ∷ codes "SFIDREST" ∷ codes "SFIDSEC"
    ∷ codes "SFIDCIPH" ∷ codes "SFIDCOMP" ∷ codes "SFIDENV" ∷ codes "SFIDSIGN" ∷ codes "SFIDDESCL" ∷ codes "SFIDDESC" ∷ []

-- SFPA (RFC 5024, section 5.3.4)
abbrev pub sfpa_names : List (List ℕ)
sfpa_names = codes "SFPACMD" ∷ codes "SFPAACNT" ∷ []

-- SFNA (RFC 5024, section 5.3.5)
abbrev pub sfna_names : List (List ℕ)
sfna_names = codes "SFNACMD" ∷ codes "SFNAREAS" ∷ codes "SFNARRTR" ∷ codes "SFNAREASL" ∷ codes "SFNAREAST" ∷ []

-- DATA (RFC 5024, section 5.3.6)
abbrev pub data_names : List (List ℕ)
data_names = codes "DATACMD" ∷ codes "DATABUF" ∷ []

-- CDT (RFC 5024, section 5.3.7)
abbrev pub cdt_names : List (List ℕ)
cdt_names = codes "CDTCMD" ∷ codes "CDTRSV1" ∷ []

-- EFID (RFC 5024, section 5.3.8)
abbrev pub efid_names : List (List ℕ)
efid_names = codes "EFIDCMD" ∷ codes "EFIDRCNT" ∷ codes "EFIDUCNT" ∷ []

-- EFPA (RFC 5024, section 5.3.9)
abbrev pub efpa_names : List (List ℕ)
efpa_names = codes "EFPACMD" ∷ codes "EFPACD" ∷ []

-- EFNA (RFC 5024, section 5.3.10)
abbrev pub efna_names : List (List ℕ)
efna_names = codes "EFNACMD" ∷ codes "EFNAREAS" ∷ codes "EFNAREASL" ∷ codes "EFNAREAST" ∷ []

-- ESID (RFC 5024, section 5.3.11)
abbrev pub esid_names : List (List ℕ)
esid_names = codes "ESIDCMD" ∷ codes "ESIDREAS" ∷ codes "ESIDREASL" ∷ codes "ESIDREAST" ∷ codes "ESIDCR" ∷ []

-- CD (RFC 5024, section 5.3.12)
abbrev pub cd_names : List (List ℕ)
cd_names = codes "CDCMD" ∷ []

-- EERP, whose hash and signature have no octets here (RFC 5024, section 5.3.13)
abbrev pub eerp_names : List (List ℕ)
eerp_names = codes "EERPCMD" ∷ codes "EERPDSN" ∷ codes "EERPRSV1" ∷ codes "EERPDATE" ∷ codes "EERPTIME" ∷ codes "EERPUSER" ∷ codes "EERPDEST"
    ∷ codes "EERPORIG" ∷ codes "EERPHSHL" ∷ codes "EERPSIGL" ∷ []

-- NERP, whose hash and signature have no octets here (RFC 5024, section 5.3.14)
abbrev pub nerp_names : List (List ℕ)
nerp_names = codes "NERPCMD" ∷ codes "NERPDSN" ∷ codes "NERPRSV1" ∷ codes "NERPDATE" ∷ codes "NERPTIME" ∷ codes "NERPDEST" ∷ codes "NERPORIG"
    ∷ codes "NERPCREA" ∷ codes "NERPREAS" ∷ codes "NERPREASL" ∷ codes "NERPREAST" ∷ codes "NERPHSHL" ∷ codes "NERPSIGL" ∷ []

-- RTR (RFC 5024, section 5.3.15)
abbrev pub rtr_names : List (List ℕ)
rtr_names = codes "RTRCMD" ∷ []

-- ---- the fields of octets

-- the fields of octets that begin as this kind does; a text has the length that the field before it says
unfoldable pub sheet_of : CommandKind → List ℕ → Sheet
sheet_of kinds.Ssrm o = named ssrm_names ssrm_table
sheet_of kinds.Ssid o = named ssid_names ssid_table
sheet_of kinds.Sfid o = named sfid_names (sfid_table (has_records (format_of (part 106 1 o))) (number (part 162 3 o)))
sheet_of kinds.Sfpa o = named sfpa_names sfpa_table
sheet_of kinds.Sfna o = named sfna_names (sfna_table (number (part 4 3 o)))
sheet_of kinds.Data o = named data_names (data_table (length o - 1))
sheet_of kinds.Cdt o = named cdt_names cdt_table
sheet_of kinds.Efid o = named efid_names efid_table
sheet_of kinds.Efpa o = named efpa_names efpa_table
sheet_of kinds.Efna o = named efna_names (efna_table (number (part 3 3 o)))
sheet_of kinds.Esid o = named esid_names (esid_table (number (part 3 3 o)))
sheet_of kinds.Cd o = named cd_names (single_table (codes "R"))
sheet_of kinds.Eerp o = named eerp_names eerp_table
sheet_of kinds.Nerp o = named nerp_names (nerp_table (number (part 128 3 o)))
sheet_of kinds.Rtr o = named rtr_names (single_table (codes "P"))
