-- The picture of a station in Prometheus' text form.
use Rattle.std.specs.Prelude.{ℕ, ◌-◌, ◌/◌, ◌%◌, ◌==◌, List, [], ◌∷◌, ◌++◌, codes, decimal, fold, if◌then◌else◌, is_some, string_bytes}
use Rattle.oftp_status.specs.Pictures.{last_good}
use Rattle.oftp_status.specs.Pieces.{with_texts}
use Rattle.oftp_status.specs.Subjects.{end_text, standing_text, way_of, way_text}
use Rattle.oftp_status.specs.declared.prometheus.Family.{Family}
use Rattle.oftp_status.specs.declared.prometheus.Family.TheVariants as family
use Rattle.oftp_status.specs.declared.picture.Partner.{Partner}
use Rattle.oftp_status.specs.declared.picture.Picture.{Picture}
use Rattle.oftp_status.specs.declared.ending.Ending.{Ending}
use Rattle.oftp_status.specs.declared.standing.Standing.{Standing}
use Rattle.oftp_status.specs.declared.subject.Subject.{Subject}
use Rattle.oftp_status.specs.declared.subject.Subject.TheVariants.{Session, NotLetIn, NotReached, File, EventLost, Backup}
use Rattle.oftp_status.specs.declared.tally.Tally.{Tally}
use Rattle.oftp_status.specs.declared.way.Way.{Way}
use Rattle.oftp_status.specs.declared.way.Way.TheVariants.{In, Out}

-- the lines HELP and TYPE of a family
abbrev pub help_texts : Family → List ℕ
help_texts family.Files = codes "# HELP oftp_files Files by way, state and partner.\n# TYPE oftp_files gauge\n"
help_texts family.Oldest = codes "# HELP oftp_oldest_seconds Age of the oldest file by its stamp.\n# TYPE oftp_oldest_seconds gauge\n"
help_texts family.Sessions = codes "# HELP oftp_sessions_total Sessions since the start.\n# TYPE oftp_sessions_total counter\n"
help_texts family.NotLetIn = codes "# HELP oftp_not_let_in_total Callers that weren't let in since the start, by reason of ESID.\n# TYPE oftp_not_let_in_total counter\n"
help_texts family.NotReached = codes "# HELP oftp_not_reached_total Calls that didn't connect since the start.\n# TYPE oftp_not_reached_total counter\n"
help_texts family.EventsLost = codes "# HELP oftp_events_lost_total Events that couldn't be written since the start.\n# TYPE oftp_events_lost_total counter\n"
help_texts family.Backups = codes "# HELP oftp_backups_total Backups since the start.\n# TYPE oftp_backups_total counter\n"
help_texts family.LastBackup = codes "# HELP oftp_last_backup_timestamp_seconds When the last backup since the start was made.\n# TYPE oftp_last_backup_timestamp_seconds gauge\n"

-- the line of files, as texts
abbrev pub file_texts : List ℕ → List ℕ → Standing → ℕ → List (List ℕ)
file_texts front partner standing value =
    front ∷ codes "{way=\"" ∷ way_text (way_of standing) ∷ codes "\",state=\"" ∷ standing_text standing ∷ codes "\",partner=\"" ∷ partner
    ∷ codes "\"} " ∷ decimal value ∷ codes "\n" ∷ []

-- that of sessions
abbrev pub session_texts : List ℕ → Way → Ending → ℕ → List (List ℕ)
session_texts partner way end value =
    codes "oftp_sessions_total{partner=\"" ∷ partner ∷ codes "\",way=\"" ∷ way_text way ∷ codes "\",end=\"" ∷ end_text end ∷ codes "\"} "
    ∷ decimal value ∷ codes "\n" ∷ []

-- that of callers that weren't let in, with both digits of the reason
abbrev pub reason_texts : ℕ → ℕ → List (List ℕ)
reason_texts reason value =
    codes "oftp_not_let_in_total{reason=\"" ∷ decimal (reason / 10) ∷ decimal (reason % 10) ∷ codes "\"} " ∷ decimal value ∷ codes "\n" ∷ []

-- that of calls that didn't connect
abbrev pub not_reached_texts : List ℕ → ℕ → List (List ℕ)
not_reached_texts partner value = codes "oftp_not_reached_total{partner=\"" ∷ partner ∷ codes "\"} " ∷ decimal value ∷ codes "\n" ∷ []

-- a line without labels
abbrev pub plain_texts : List ℕ → ℕ → List (List ℕ)
plain_texts front value = front ∷ decimal value ∷ codes "\n" ∷ []

-- the line of a counter without labels in a family; none if it is of another kind
abbrev pub single_texts : Family → Tally → Subject → List (List ℕ)
single_texts family.EventsLost t EventLost = plain_texts (codes "oftp_events_lost_total ") t.count
single_texts family.Backups t Backup = plain_texts (codes "oftp_backups_total ") t.count
single_texts family.LastBackup t Backup = plain_texts (codes "oftp_last_backup_timestamp_seconds ") t.last
single_texts _ _ _ = []

-- the line of any counter in a family
abbrev pub sample_texts : Family → ℕ → Tally → Subject → List (List ℕ)
sample_texts family.Files now t (File partner standing) = file_texts (codes "oftp_files") (string_bytes partner) standing t.count
sample_texts family.Oldest now t (File partner standing) = file_texts (codes "oftp_oldest_seconds") (string_bytes partner) standing (now - t.first)
sample_texts family.Sessions now t (Session partner way end) = session_texts (string_bytes partner) way end t.count
sample_texts family.NotLetIn now t (NotLetIn reason) = reason_texts reason t.count
sample_texts family.NotReached now t (NotReached partner) = not_reached_texts (string_bytes partner) t.count
sample_texts f now t subject = single_texts f t subject

-- a text with the line of a counter
abbrev pub with_sample : Family → ℕ → List ℕ → Tally → List ℕ
with_sample family now text t = with_texts text (sample_texts family now t t.subject)

-- a text with a family
abbrev pub with_family : ℕ → List Tally → List ℕ → Family → List ℕ
with_family now tallies text family = fold (with_sample family now) (text ++ help_texts family) tallies

-- a text with the last good session of a partner that was called for a way, if there was one
abbrev pub last_good_line : List Tally → List ℕ → Way → List ℕ → List ℕ
last_good_line counters code way text =
    if last_good counters code way == 0 then text
    else with_texts text (codes "oftp_last_good_session_timestamp_seconds{partner=\"" ∷ code ∷ codes "\",way=\"" ∷ way_text way ∷ codes "\"} "
    ∷ decimal (last_good counters code way) ∷ codes "\n" ∷ [])

-- a text with both of a partner
abbrev pub with_good : List Tally → List ℕ → Partner → List ℕ
with_good counters text partner = last_good_line counters partner.code.now Out (last_good_line counters partner.code.now In text)

-- what has one value, with the lines HELP and TYPE of the last good sessions behind it
abbrev pub scalars : Picture → List (List ℕ)
scalars p =
    codes "# HELP oftp_up Whether the station runs.\n# TYPE oftp_up gauge\noftp_up 1\n"
    ∷ codes "# HELP oftp_build_info The program's version.\n# TYPE oftp_build_info gauge\noftp_build_info{version=\""
    ∷ p.version.now
    ∷ codes "\"} 1\n# HELP oftp_start_time_seconds When the station began.\n# TYPE oftp_start_time_seconds gauge\noftp_start_time_seconds "
    ∷ decimal p.since
    ∷ codes "\n# HELP oftp_database_bytes Size of the database's file.\n# TYPE oftp_database_bytes gauge\noftp_database_bytes "
    ∷ decimal p.octets
    ∷ codes "\n# HELP oftp_sessions_running Sessions that are going on.\n# TYPE oftp_sessions_running gauge\noftp_sessions_running "
    ∷ decimal (if is_some p.going then 1 else 0)
    ∷ codes "\n# HELP oftp_last_good_session_timestamp_seconds When the last session with ESID 00 ended.\n# TYPE oftp_last_good_session_timestamp_seconds gauge\n"
    ∷ []

-- the families of the counters that have one line
abbrev pub single_families : List Family
single_families = family.EventsLost ∷ family.Backups ∷ family.LastBackup ∷ []

-- the families of the counters
abbrev pub counted_families : List Family
counted_families = family.Sessions ∷ family.NotLetIn ∷ family.NotReached ∷ single_families

-- the whole text
abbrev pub metrics_text : Picture → List ℕ
metrics_text p =
    let values = fold (with_good p.counters.now) (with_texts [] (scalars p)) p.partners.now in
    let files = with_family p.moment p.files.now (with_family p.moment p.files.now values family.Files) family.Oldest in
    fold (with_family p.moment p.counters.now) files counted_families
