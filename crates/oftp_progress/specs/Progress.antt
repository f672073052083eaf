-- What a command says of how far it came, and when.
use Rattle.std.specs.Prelude.{ℕ, ◌-◌, ◌*◌, ◌/◌, ◌==◌, Bool, nat_le, if◌then◌else◌, List, ◌++◌, min, Option, None, Some, codes, decimal}
use Rattle.oftp_notes.specs.Seen.{seen_line}
use Rattle.oftp_progress.specs.declared.beat.Beat.{Beat}
use Rattle.oftp_progress.specs.declared.beat.TheConstants.{PAUSE}
use Rattle.oftp_progress.specs.declared.extent.Extent.{Extent}
use Rattle.oftp_progress.specs.declared.extent.Extent.TheVariants.{Call, Backup, Offer, Collect, Replay}

-- how many of a hundred parts are done; all of nothing is
abbrev pub hundredths : ℕ → ℕ → ℕ
hundredths done all = if all == 0 then 100 else min (done * 100 / all) 100

-- a file of so many, by its place among them and its name
abbrev pub place_text : ℕ → ℕ → List ℕ → List ℕ
place_text place count name = decimal place ++ (codes " of " ++ (decimal count ++ (codes ": " ++ name)))

-- how many of a hundred parts of a file came or went in a call
abbrev pub call_text : List ℕ → ℕ → List ℕ
call_text dataset share = codes "progress: call: " ++ (dataset ++ (codes " " ++ (decimal share ++ codes " %")))

-- how far a command came
abbrev pub extent_text : Extent → List ℕ
extent_text (Call dataset share) = call_text dataset.now share
extent_text (Backup done all) = codes "progress: backup: " ++ (decimal (hundredths done all) ++ codes " %")
extent_text (Offer place count name) = codes "progress: offer: " ++ place_text place count name.now
extent_text (Collect place count dataset) = codes "progress: collect: " ++ place_text place count dataset.now
extent_text (Replay entries) = codes "progress: replay: " ++ (decimal entries ++ codes " entries")

-- a step that begins at a moment
abbrev pub from_moment : ℕ → Beat
from_moment moment = record { began = moment; said = moment }

-- a line is due once a pause has passed since the last one, or since the step began
abbrev pub is_due : Beat → ℕ → Bool
is_due beat moment = nat_le PAUSE (moment - beat.said)

-- the beat after it was asked for a line
abbrev pub asked_at : Beat → ℕ → Beat
asked_at beat moment = if is_due beat moment then record beat { said = moment } else beat

-- the line at a moment of a step that goes on, if one is due
abbrev pub line_at : Beat → ℕ → Extent → Option (List ℕ)
line_at beat moment extent = if is_due beat moment then Some (seen_line (extent_text extent)) else None

-- the last line of a step, if it took as long as a pause or longer
abbrev pub last_line : Beat → ℕ → Extent → Option (List ℕ)
last_line beat moment extent = if nat_le PAUSE (moment - beat.began) then Some (seen_line (extent_text extent)) else None
