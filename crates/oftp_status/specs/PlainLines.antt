-- The picture of a station for people, in lines.
use Rattle.std.specs.Prelude.{ℕ, ◌-◌, List, [], ◌∷◌, ◌++◌, Option, None, Some, codes, decimal, fold, if◌then◌else◌, string_bytes}
use Rattle.std.specs.Str.{bytes_eq}
use Rattle.oftp_status.specs.Ages.{age_text}
use Rattle.oftp_status.specs.Pictures.{partner_of}
use Rattle.oftp_status.specs.Pieces.{with_texts}
use Rattle.oftp_status.specs.Subjects.{end_words, standing_text, way_of, way_text}
use Rattle.oftp_status.specs.declared.ending.Ending.TheVariants.{Own}
use Rattle.oftp_status.specs.declared.picture.Going.{Going}
use Rattle.oftp_status.specs.declared.picture.Partner.{Partner}
use Rattle.oftp_status.specs.declared.picture.Picture.{Picture}
use Rattle.oftp_status.specs.declared.standing.Standing.{Standing}
use Rattle.oftp_status.specs.declared.standing.Standing.TheVariants.{Whole}
use Rattle.oftp_status.specs.declared.subject.Subject.{Subject}
use Rattle.oftp_status.specs.declared.subject.Subject.TheVariants.{Session, NotLetIn, NotReached, File, EventLost, Backup}
use Rattle.oftp_status.specs.declared.tally.Tally.{Tally}

-- how often something was counted, and how long ago last
abbrev pub with_count : ℕ → Tally → List ℕ → List ℕ
with_count now t text = with_texts text (codes ", " ∷ age_text (now - t.last) ∷ codes " ago, " ∷ decimal t.count ∷ codes " since the start\n" ∷ [])

-- how many files stand like this, and how old the oldest is
abbrev pub with_of : ℕ → Standing → Tally → List ℕ → List ℕ
with_of now s t text = with_texts text
    (codes "  " ∷ way_text (way_of s) ∷ codes " " ∷ standing_text s ∷ codes ": " ∷ decimal t.count ∷ codes ", the oldest of "
    ∷ age_text (now - t.first) ∷ codes " ago\n" ∷ [])

-- the line of a counter of a partner
abbrev pub own_line : ℕ → Tally → Subject → List ℕ → List ℕ
own_line now t (Session partner way end) text = with_count now t (with_texts text (codes "  session " ∷ way_text way ∷ codes ": " ∷ []) ++ end_words end)
own_line now t (NotReached partner) text = with_count now t (text ++ codes "  not reached")
own_line now t (File partner standing) text = with_of now standing t text
own_line now t _ text = text

abbrev pub with_own : ℕ → List ℕ → Tally → List ℕ
with_own now text t = own_line now t t.subject text

-- the same, if it is of the partner with this code
abbrev pub with_called : ℕ → List ℕ → List ℕ → Tally → List ℕ
with_called now code text t = if bytes_eq (partner_of t.subject) code then with_own now text t else text

-- when a partner is called next
abbrev pub with_next_call : ℕ → Option ℕ → List ℕ → List ℕ
with_next_call now None text = text
with_next_call now (Some time) text = with_texts text (codes ", next call in " ∷ age_text (time - now) ∷ [])

-- the lines of a partner
abbrev pub with_partner_lines : Picture → List ℕ → Partner → List ℕ
with_partner_lines p text partner =
    let title = with_next_call p.moment partner.next_call (text ++ partner.code.now) ++ codes "\n" in
    fold (with_called p.moment partner.code.now) (fold (with_called p.moment partner.code.now) title p.counters.now) p.files.now

-- the line of a counter that is of no partner
abbrev pub general_line : ℕ → Tally → Subject → List ℕ → List ℕ
general_line now t (NotLetIn reason) text = with_count now t ((text ++ codes "not let in: ") ++ end_words (Own reason))
general_line now t EventLost text = with_count now t (text ++ codes "an event couldn't be written")
general_line now t Backup text = with_count now t (text ++ codes "backup")
general_line now t _ text = text

abbrev pub with_general : ℕ → List ℕ → Tally → List ℕ
with_general now text t = general_line now t t.subject text

-- what is to be done here with files that stand like this
abbrev pub to_do_line : Tally → Subject → List ℕ → List ℕ
to_do_line t (File partner Whole) text = with_texts text (codes "to do: release or refuse " ∷ decimal t.count ∷ codes " from " ∷ string_bytes partner ∷ codes "\n" ∷ [])
to_do_line t _ text = text

abbrev pub with_to_do : List ℕ → Tally → List ℕ
with_to_do text t = to_do_line t t.subject text

-- how much of a file came or went, if its name is known
abbrev pub with_part : List ℕ → List ℕ → ℕ → List ℕ
with_part text [] share = text
with_part text (c ∷ dataset) share = with_texts text (codes ", " ∷ (c ∷ dataset) ∷ codes " " ∷ decimal share ∷ codes " %" ∷ [])

-- the session that is going on
abbrev pub with_going_line : List ℕ → Option Going → List ℕ
with_going_line text None = text ++ codes "no session\n"
with_going_line text (Some g) =
    with_part (with_texts text (codes "session " ∷ way_text g.way ∷ codes " with " ∷ g.partner.now ∷ [])) g.dataset.now g.share ++ codes "\n"

-- the version, the age and the database
abbrev pub with_title : List ℕ → Picture → List ℕ
with_title text p = with_texts text
    (codes "version " ∷ p.version.now ∷ codes ", up for " ∷ age_text (p.moment - p.since) ∷ codes "\ndatabase " ∷ p.database.now ∷ codes ", "
    ∷ decimal p.octets ∷ codes " octets\n" ∷ [])

-- the whole text
abbrev pub status_lines : Picture → List ℕ
status_lines p =
    let partners = fold (with_partner_lines p) (with_going_line (with_title [] p) p.going) p.partners.now in
    fold with_to_do (fold (with_general p.moment) partners p.counters.now) p.files.now
