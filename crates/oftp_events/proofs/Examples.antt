-- Worked rows, which the definitions compute.
use Rattle.std.proofs.Common.{◌≡◌, ℕ, List, [], ◌∷◌, None, Some, codes, refl}
use Rattle.std.specs.Borrow.{Bor}
use Rattle.std.specs.Fmt.{digits}
use Rattle.serde_json.proofs.OnLiterals.{serde_json_on_literals}
use Rattle.oftp_register.specs.declared.change.Change.TheVariants as change
use Rattle.oftp_register.specs.declared.entry.ResponseKind.TheVariants.{EndResponse, NegativeEndResponse}
use Rattle.oftp_events.specs.Events.{event_of}
use Rattle.oftp_events.specs.Lines.{line_text, plain_line}
use Rattle.oftp_events.specs.declared.direction.Direction.TheVariants.{In}
use Rattle.oftp_events.specs.declared.event.Event.TheVariants.{Started, Came, GivenUp, Sent, NotLetIn, Released, RefusedHere, ResponseSent, Backup}

-- ---- changes

-- a release
released : event_of (change.Issue 7 EndResponse 0 []) ≡ Some Released
released = refl

-- a refusal, by reason 34
refused_here : event_of (change.Issue 7 NegativeEndResponse 34 (codes "no part 7")) ≡ Some RefusedHere
refused_here = refl

-- the last rows of a file
came : event_of (change.Close 7 ((65 ∷ 66 ∷ []) ∷ [])) ≡ Some Came
came = refl

-- rows before them
kept : event_of (change.Keep 7 ((65 ∷ 66 ∷ []) ∷ [])) ≡ None
kept = refl

-- CDT for rows that went out
marked : event_of (change.Mark 7 64) ≡ None
marked = refl

-- the rows of a broken transfer are deleted
given_up : event_of (change.GiveUp 7) ≡ Some GivenUp
given_up = refl

-- EFID goes out next
sent : event_of (change.BeginClosing 7) ≡ Some Sent
sent = refl

-- RTR for a response
response_sent : event_of (change.Send 7) ≡ Some ResponseSent
response_sent = refl

-- ---- lines

-- a text that somebody else keeps
abbrev lent : List ℕ → Bor (List ℕ)
lent text = record { ref_ptr = (0, 0); now = text }

-- the time of these events
abbrev morning : Bor (List ℕ)
morning = lent (codes "2026-11-29T07:26:46.000123Z")

-- only the time is told
started : line_text (plain_line morning Started) ≡ codes "{\"at\":\"2026-11-29T07:26:46.000123Z\",\"event\":\"started\"}\n"
unfolding digits serde_json_on_literals
started = refl

-- the keys between two others are left out, and 0 is a number like others
no_rows : line_text (record (plain_line morning Came) { session = Some 3; way = Some In; no = Some 12; rows = Some 0 })
    ≡ codes "{\"at\":\"2026-11-29T07:26:46.000123Z\",\"event\":\"came\",\"session\":3,\"way\":\"in\",\"no\":12,\"rows\":0}\n"
unfolding digits serde_json_on_literals
no_rows = refl

-- a text that would end the line and begin another event
forged : line_text (record (plain_line morning NotLetIn) { text = Some (lent (codes "no\n{\"event\":\"came\"}\\")) })
    ≡ codes "{\"at\":\"2026-11-29T07:26:46.000123Z\",\"event\":\"not let in\",\"text\":\"no\\n{\\\"event\\\":\\\"came\\\"}\\\\\"}\n"
unfolding digits serde_json_on_literals
forged = refl

-- an empty text is told
no_words : line_text (record (plain_line morning Backup) { words = Some (lent []) }) ≡ codes "{\"at\":\"2026-11-29T07:26:46.000123Z\",\"event\":\"backup\",\"words\":\"\"}\n"
unfolding digits serde_json_on_literals
no_words = refl
