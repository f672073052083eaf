-- Facts as lines: a name, and what it is.
use Rattle.std.specs.Prelude.{ℕ, List, [], ◌∷◌, ◌++◌, codes, decimal}
use Rattle.oftp_notes.specs.Seen.{seen_line}
use Rattle.oftp_evidence.specs.declared.facts.Fact.{Fact}
use Rattle.oftp_evidence.specs.declared.facts.Fact.TheVariants.{Line, Text, Number}

-- a text with its name
abbrev pub text_fact : List ℕ → List ℕ → List ℕ
text_fact name text = name ++ (codes ": " ++ text)

-- a number with its name
abbrev pub number_fact : List ℕ → ℕ → List ℕ
number_fact name n = name ++ (codes ": " ++ decimal n)

-- what a fact says
abbrev pub fact_text : Fact → List ℕ
fact_text (Line text) = text.now
fact_text (Text name text) = text_fact name.now text.now
fact_text (Number name n) = number_fact name.now n

-- what facts say
abbrev pub fact_texts : List Fact → List (List ℕ)
fact_texts [] = []
fact_texts (f ∷ fs) = fact_text f ∷ fact_texts fs

-- texts as lines of characters that can be seen
abbrev pub seen_lines : List (List ℕ) → List ℕ
seen_lines [] = []
seen_lines (t ∷ ts) = seen_line t ++ seen_lines ts
