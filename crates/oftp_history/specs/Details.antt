-- The line of an event for people.
use Rattle.std.specs.Prelude.{ℕ, List, [], ◌∷◌, ◌++◌, Option, None, Some, codes, decimal, fold, map, option_map}
use Rattle.serde_json.specs.Data.{Data}
use Rattle.oftp_events.specs.Events.{direction_text}
use Rattle.oftp_events.specs.declared.direction.Direction.{Direction}
use Rattle.oftp_history.specs.Past.{Past, past_value}
use Rattle.oftp_history.specs.Proofs.{said_at}
use Rattle.oftp_history.specs.Values.{number_at, text_at}
use Rattle.oftp_history.specs.declared.detail.Detail.{Detail}
use Rattle.oftp_history.specs.declared.detail.Detail.TheVariants.{Text, Number}

-- a detail with what stands before it, if it is there
abbrev pub text_behind : List ℕ → Option (List ℕ) → List ℕ
text_behind before None = []
text_behind before (Some text) = before ++ text

-- the same of a number, with what stands behind it
abbrev pub number_behind : List ℕ → Option ℕ → List ℕ → List ℕ
number_behind before None behind = []
number_behind before (Some n) behind = before ++ (decimal n ++ behind)

-- the same of a detail of either kind
abbrev pub detail_text : Detail → List ℕ
detail_text (Text before text) = text_behind before.now (option_map (λ s. s.now) text)
detail_text (Number before n behind) = number_behind before.now n behind.now

-- a text with one more detail
abbrev pub with_detail : List ℕ → Detail → List ℕ
with_detail text d = text ++ detail_text d

-- what an event tells of its file, in this order
abbrev pub details : Data → List (List ℕ)
details d =
    text_behind (codes " ") (text_at (codes "dataset") d)
    ∷ text_behind (codes " ") (text_at (codes "date") d)
    ∷ text_behind (codes " ") (text_at (codes "time") d)
    ∷ text_behind (codes " with ") (text_at (codes "partner") d)
    ∷ number_behind (codes ", session ") (number_at (codes "session") d) (codes "")
    ∷ number_behind (codes ", ") (number_at (codes "rows") d) (codes " rows")
    ∷ number_behind (codes ", ") (number_at (codes "units") d) (codes " octets")
    ∷ text_behind (codes ", ") (text_at (codes "kind") d)
    ∷ text_behind (codes ", reason ") (text_at (codes "reason") d)
    ∷ text_behind (codes " ") (text_at (codes "words") d)
    ∷ text_behind (codes ", text ") (text_at (codes "text") d)
    ∷ []

-- the texts of details
abbrev pub detail_texts : List Detail → List (List ℕ)
detail_texts ds = map detail_text ds

-- texts one behind another
abbrev pub with_texts : List ℕ → List (List ℕ) → List ℕ
with_texts text pieces = fold (λ front piece. front ++ piece) text pieces

-- the line of an event, before each of its characters can be seen: the time, the file, what happened, and what is told of it
abbrev pub past_line : Direction → ℕ → List ℕ → Past → List ℕ
past_line way n time p = with_texts (time ++ (codes " " ++ (direction_text way ++ (codes " " ++ (decimal n
    ++ (codes " " ++ (said_at (codes "event") p ++ codes ":"))))))) (details (past_value p))
