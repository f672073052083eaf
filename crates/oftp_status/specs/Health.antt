-- The verdict on a station.
use Rattle.std.specs.Prelude.{ℕ, ◌+◌, ◌-◌, ◌^◌, ◌==◌, List, [], ◌∷◌, ◌++◌, Option, None, Some, codes, decimal, fold, if◌then◌else◌, max, min, nat_eq, nat_lt, string_bytes}
use Rattle.std.specs.List.{starts_with}
use Rattle.std.specs.Str.{bytes_eq}
use Rattle.oftp_status.specs.Ages.{age_text}
use Rattle.oftp_status.specs.Pictures.{last_good}
use Rattle.oftp_status.specs.Pieces.{with_texts}
use Rattle.oftp_status.specs.declared.health.Ages.{Ages}
use Rattle.oftp_status.specs.declared.health.Grade.{Grade}
use Rattle.oftp_status.specs.declared.health.Grade.TheVariants.{Fine, Warning, Critical, Unknown}
use Rattle.oftp_status.specs.declared.health.Limits.{Limits}
use Rattle.oftp_status.specs.declared.health.Measure.{Measure}
use Rattle.oftp_status.specs.declared.health.Measure.TheVariants as measure
use Rattle.oftp_status.specs.declared.health.Missing.{Missing}
use Rattle.oftp_status.specs.declared.health.Missing.TheVariants as missing
use Rattle.oftp_status.specs.declared.health.Overdue.{Overdue}
use Rattle.oftp_status.specs.declared.health.Terms.{Terms}
use Rattle.oftp_status.specs.declared.picture.Partner.{Partner}
use Rattle.oftp_status.specs.declared.picture.Picture.{Picture}
use Rattle.oftp_status.specs.declared.standing.Standing.{Standing}
use Rattle.oftp_status.specs.declared.standing.Standing.TheVariants.{Whole, Waiting, Closing, Handed}
use Rattle.oftp_status.specs.declared.subject.Subject.{Subject}
use Rattle.oftp_status.specs.declared.subject.Subject.TheVariants.{File, Backup}
use Rattle.oftp_status.specs.declared.tally.Tally.{Tally}
use Rattle.oftp_status.specs.declared.way.Way.TheVariants.{In, Out}

-- the exit status of a plugin
abbrev pub status_of : Grade → ℕ
status_of Fine = 0
status_of Warning = 1
status_of Critical = 2
status_of Unknown = 3

abbrev pub grade_text : Grade → List ℕ
grade_text Fine = codes "OK"
grade_text Warning = codes "WARNING"
grade_text Critical = codes "CRITICAL"
grade_text Unknown = codes "UNKNOWN"

-- the worse of both
abbrev pub worse : Grade → Grade → Grade
worse a b = if nat_lt (status_of a) (status_of b) then b else a

-- an age is well up to the first limit, and a warning up to the second
abbrev pub grade_at : Limits → ℕ → Grade
grade_at l age = if nat_lt l.critical age then Critical else (if nat_lt l.warn age then Warning else Fine)

-- The limits of a partner: its own first limit, and a second one as far from it as in general. The sum ends at the greatest number of 64 bits.
abbrev pub own_limits : Limits → ℕ → Limits
own_limits general seconds = record { warn = seconds; critical = min (seconds + (general.critical - general.warn)) (2 ^ 64 - 1) }

abbrev pub with_limits : Limits → List ℕ → Limits → Overdue → Limits
with_limits general code limits o = if bytes_eq o.code.now code then own_limits general o.seconds else limits

abbrev pub limits_for : Limits → List Overdue → List ℕ → Limits
limits_for general overdues code = fold (with_limits general code) general overdues

-- what is measured of a file that stands like this
abbrev pub measure_of : Standing → Option Measure
measure_of Whole = Some measure.Release
measure_of Waiting = Some measure.Send
measure_of Closing = Some measure.Send
measure_of Handed = Some measure.Confirm
measure_of _ = None

-- the words round an age
abbrev pub measure_front : Measure → List ℕ
measure_front measure.Release = codes ": a file waits "
measure_front measure.Send = codes ": a file waits "
measure_front measure.Confirm = codes ": a file waits "
measure_front measure.Session = codes ": no good session for "
measure_front measure.Backup = codes "no backup for "

abbrev pub measure_back : Measure → List ℕ
measure_back measure.Release = codes " to be released"
measure_back measure.Send = codes " to be sent"
measure_back measure.Confirm = codes " for its response"
measure_back measure.Session = []
measure_back measure.Backup = []

-- the greatest ages, with one more
abbrev pub raised : Ages → Measure → ℕ → Ages
raised a measure.Release age = record a { release = max a.release age }
raised a measure.Send age = record a { send = max a.send age }
raised a measure.Confirm age = record a { confirm = max a.confirm age }
raised a measure.Session age = record a { session = max a.session age }
raised a measure.Backup age = record a { backup = max a.backup age }

-- the grade, the reasons for it, and the greatest ages
pub record Finding : Type 0 where
  pub grade : Grade
  pub reasons : List ℕ
  pub ages : Ages

abbrev pub nothing_found : Finding
nothing_found = record { grade = Fine; reasons = []; ages = record { release = 0; send = 0; confirm = 0; session = 0; backup = 0 } }

-- one reason more
abbrev pub with_reason : Measure → List ℕ → ℕ → Finding → Finding
with_reason m code age f = record f { reasons = with_texts f.reasons (codes " - " ∷ code ∷ measure_front m ∷ age_text age ∷ measure_back m ∷ []) }

-- one age more: what isn't well is told with its reason
abbrev pub told_if : ℕ → Measure → List ℕ → ℕ → Finding → Finding
told_if status m code age f = if status == 0 then f else with_reason m code age f

abbrev pub weighed : Limits → Measure → List ℕ → ℕ → Finding → Finding
weighed l m code age f = told_if (status_of (grade_at l age)) m code age
    (record { grade = worse f.grade (grade_at l age); reasons = f.reasons; ages = raised f.ages m age })

-- the oldest file of a counter more
abbrev pub with_measured : Terms → ℕ → List ℕ → Option Measure → Finding → Finding
with_measured terms age code None f = f
with_measured terms age code (Some m) f = weighed (limits_for terms.limits terms.overdues.now code) m code age f

abbrev pub with_file : Terms → ℕ → Subject → Finding → Finding
with_file terms age (File partner standing) f = with_measured terms age (string_bytes partner) (measure_of standing) f
with_file terms age _ f = f

abbrev pub with_files : Terms → ℕ → Finding → Tally → Finding
with_files terms now f t = with_file terms (now - t.first) t.subject f

-- a partner more: since its last good session, or since the start if there was none
abbrev pub last_contact : Picture → List ℕ → ℕ
last_contact p code = max (max p.since (last_good p.counters.now code In)) (last_good p.counters.now code Out)

abbrev pub with_partner : Terms → Picture → Finding → Partner → Finding
with_partner terms p f partner =
    weighed (limits_for terms.limits terms.overdues.now partner.code.now) measure.Session partner.code.now (p.moment - last_contact p partner.code.now) f

-- the later of a time and that of the last backup of which this is a counter
abbrev pub later_of_backup : ℕ → Tally → Subject → ℕ
later_of_backup time t Backup = max time t.last
later_of_backup time t _ = time

abbrev pub later_backup : ℕ → Tally → ℕ
later_backup time t = later_of_backup time t t.subject

-- all of it: the files, the partners, and the last backup, or the start if there was none
abbrev pub found_in : Picture → Terms → Finding
found_in p terms =
    let files = fold (with_files terms p.moment) nothing_found p.files.now in
    let partners = fold (with_partner terms p) files p.partners.now in
    weighed terms.limits measure.Backup [] (p.moment - fold later_backup p.since p.counters.now) partners

-- an age as performance data, with the limits
abbrev pub with_datum : Limits → List ℕ → ℕ → List ℕ → List ℕ
with_datum l name age line = with_texts line (name ∷ decimal age ∷ codes "s;" ∷ decimal l.warn ∷ codes ";" ∷ decimal l.critical ∷ codes ";0" ∷ [])

abbrev pub with_data : Limits → Ages → List ℕ → List ℕ
with_data l a line =
    with_datum l (codes " backup=") a.backup
    (with_datum l (codes " session=") a.session
    (with_datum l (codes " confirm=") a.confirm
    (with_datum l (codes " send=") a.send
    (with_datum l (codes " | release=") a.release line))))

-- the line: the grade, its reasons, and the performance data
abbrev pub begun_line : Grade → List ℕ
begun_line grade =
    let front = with_texts [] (codes "OFTP " ∷ grade_text grade ∷ []) in
    if status_of grade == 0 then front ++ codes " - nothing is overdue" else front

abbrev pub line_of : Limits → Finding → List ℕ
line_of l f = with_data l f.ages (begun_line f.grade ++ f.reasons)

-- the grade that a line tells
abbrev pub grade_in : List ℕ → Grade
grade_in line =
    if starts_with nat_eq line (codes "OFTP OK ") then Fine
    else if starts_with nat_eq line (codes "OFTP WARNING ") then Warning
    else if starts_with nat_eq line (codes "OFTP CRITICAL ") then Critical
    else Unknown

-- a station that doesn't run is critical, and of one that gives no verdict nothing is known
abbrev pub grade_without : Missing → Grade
grade_without missing.Station = Critical
grade_without missing.Verdict = Unknown

abbrev pub line_without : Missing → List ℕ
line_without missing.Station = codes "OFTP CRITICAL - no station runs\n"
line_without missing.Verdict = codes "OFTP UNKNOWN - the station gives no verdict\n"
