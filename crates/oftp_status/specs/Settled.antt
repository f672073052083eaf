-- What is still open, a line each.
use Rattle.std.specs.Prelude.{ℕ, List, [], ◌∷◌, codes, decimal, if◌then◌else◌}
use Rattle.oftp_status.specs.Pieces.{with_texts}
use Rattle.oftp_status.specs.Subjects.{is_open, way_of, way_text}
use Rattle.oftp_status.specs.declared.settled.Held.{Held}
use Rattle.oftp_status.specs.declared.standing.Standing.{Standing}
use Rattle.oftp_status.specs.declared.standing.Standing.TheVariants.{Coming, Whole, Due, Answered, Waiting, Closing, Handed, Refused, Delivered, Returned}

-- why a file is open
abbrev pub why_open : Standing → List ℕ
why_open Coming = codes "it comes"
why_open Whole = codes "it is to be released or refused"
why_open Due = codes "its response is to be sent"
why_open Answered = []
why_open Waiting = codes "it is to be sent"
why_open Closing = codes "it is to be sent"
why_open Handed = codes "its response is to come"
why_open Refused = []
why_open Delivered = []
why_open Returned = []

-- a text with the line of a file, if it is open
abbrev pub with_open : List ℕ → Held → List ℕ
with_open text h =
    if is_open h.standing then with_texts text
    (way_text (way_of h.standing) ∷ codes " " ∷ decimal h.no ∷ codes " " ∷ h.dataset.now ∷ codes " " ∷ h.date.now ∷ codes " " ∷ h.time.now
    ∷ codes " " ∷ h.partner.now ∷ codes ": " ∷ why_open h.standing ∷ codes "\n" ∷ [])
    else text
