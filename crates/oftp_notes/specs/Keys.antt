-- The keys of a partner book that something reads, table by table.
use Rattle.std.specs.Prelude.{ℕ, Bool, ◌||◌, List, [], ◌∷◌, codes}
use Rattle.std.specs.List.{list_any}
use Rattle.std.specs.Str.{bytes_eq}
use Rattle.oftp_notes.specs.declared.finding.Key.{Key}
use Rattle.oftp_notes.specs.declared.finding.Key.TheVariants as key
use Rattle.oftp_notes.specs.declared.keys.TableKind.{TableKind}
use Rattle.oftp_notes.specs.declared.keys.TableKind.TheVariants as table
use Rattle.oftp_notes.specs.Findings.{key_word}

-- the keys of a table that the station reads, in this order
abbrev pub table_keys : TableKind → List Key
table_keys table.Top = key.Station ∷ key.Partner ∷ []
table_keys table.Station = key.Code ∷ key.Buffer ∷ key.Credit ∷ key.Restart ∷ []
table_keys table.Partner = key.Code ∷ key.Expects ∷ key.Sends ∷ key.Mode ∷ key.Address ∷ []

-- the words of those that `health` alone reads
abbrev pub health_words : TableKind → List (List ℕ)
health_words table.Top = []
health_words table.Station = []
health_words table.Partner = codes "overdue" ∷ []

-- something reads the key of a table with this word: the station, or `health`
abbrev pub is_read : TableKind → List ℕ → Bool
is_read table word = list_any (λ key. bytes_eq (key_word key) word) (table_keys table) || list_any (λ other. bytes_eq other word) (health_words table)
