-- DATA summed up, from one answer to the next.
use Rattle.std.specs.Prelude.{ℕ, ◌+◌, ◌-◌, ◌^◌, min, Bool, true, false, List, ◌++◌, codes, ◌==◌, if◌then◌else◌, Option, Some, None}
use Rattle.std.specs.Fmt.{decimal}
use Rattle.oftp_telling.specs.declared.counting.Sender.{Sender}
use Rattle.oftp_telling.specs.declared.counting.Sender.TheVariants.{Partner, Station}
use Rattle.oftp_telling.specs.declared.counting.DataCount.{DataCount}
use Rattle.oftp_telling.specs.declared.counting.Gathered.{Gathered}

-- how many DATA there were, where there were several
abbrev pub several_text : ℕ → List ℕ
several_text n = if n == 1 then codes "" else codes " in " ++ (decimal n ++ codes " commands")

-- DATA summed up
abbrev pub count_text : DataCount → List ℕ
count_text c = codes "DATA of " ++ (decimal c.octets ++ (codes " octets" ++ several_text c.commands))

-- whether two sides are the same
abbrev pub is_same : Sender → Sender → Bool
is_same Partner Partner = true
is_same Station Station = true
is_same Partner Station = false
is_same Station Partner = false

-- the first DATA of a side
abbrev pub first_count : Sender → ℕ → DataCount
first_count sender octets = record { sender = sender; commands = 1; octets = octets }

-- one more DATA of the same side
abbrev pub one_more : DataCount → ℕ → DataCount
one_more c octets = record c { commands = min (c.commands + 1) (2 ^ 64 - 1); octets = min (c.octets + octets) (2 ^ 64 - 1) }

-- one more DATA: it is added to those of its sender, and ends those of the other one
abbrev pub gathered : Option DataCount → Sender → ℕ → Gathered
gathered None sender octets = record { due = None; now = first_count sender octets }
gathered (Some c) sender octets =
    if is_same c.sender sender then record { due = None; now = one_more c octets } else record { due = Some c; now = first_count sender octets }
