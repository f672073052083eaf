-- The picture of a station as JSON.
use Rattle.std.specs.Prelude.{ℕ, List, [], ◌∷◌, ◌++◌, Option, None, Some, codes, decimal, fold, string_bytes}
use Rattle.oftp_status.specs.Pieces.{quoted, with_texts}
use Rattle.oftp_status.specs.Subjects.{end_text, end_words, standing_text, way_of, way_text}
use Rattle.oftp_status.specs.declared.picture.Going.{Going}
use Rattle.oftp_status.specs.declared.picture.Partner.{Partner}
use Rattle.oftp_status.specs.declared.picture.Picture.{Picture}
use Rattle.oftp_status.specs.declared.ending.Ending.{Ending}
use Rattle.oftp_status.specs.declared.standing.Standing.{Standing}
use Rattle.oftp_status.specs.declared.way.Way.{Way}
use Rattle.oftp_status.specs.declared.subject.Subject.{Subject}
use Rattle.oftp_status.specs.declared.subject.Subject.TheVariants.{Session, NotLetIn, NotReached, File, EventLost, Backup}
use Rattle.oftp_status.specs.declared.tally.Tally.{Tally}

-- how sessions ended
abbrev pub ends_begun : Ending → List (List ℕ)
ends_begun end = codes "\",\"end\":\"" ∷ end_text end ∷ codes "\",\"words\":\"" ∷ end_words end ∷ []

-- a text with the beginning of the object of sessions
abbrev pub with_session : List ℕ → List ℕ → Way → Ending → List ℕ
with_session text partner way end =
    with_texts (with_texts text (codes "{\"kind\":\"session\",\"partner\":" ∷ quoted partner ∷ codes ",\"way\":\"" ∷ way_text way ∷ [])) (ends_begun end)
    ++ codes "\""

-- the beginning of the object of files
abbrev pub file_begun : List ℕ → Standing → List (List ℕ)
file_begun partner standing =
    codes "{\"kind\":\"file\",\"partner\":" ∷ quoted partner ∷ codes ",\"way\":\"" ∷ way_text (way_of standing) ∷ codes "\",\"state\":\""
    ∷ standing_text standing ∷ codes "\"" ∷ []

-- that of callers that weren't let in
abbrev pub reason_begun : ℕ → List (List ℕ)
reason_begun reason = codes "{\"kind\":\"not let in\",\"reason\":" ∷ decimal reason ∷ []

-- a text with the beginning of a counter's object: what it counts
abbrev pub with_subject : List ℕ → Subject → List ℕ
with_subject text (Session partner way end) = with_session text (string_bytes partner) way end
with_subject text (NotLetIn reason) = with_texts text (reason_begun reason)
with_subject text (NotReached partner) = with_texts text (codes "{\"kind\":\"not reached\",\"partner\":" ∷ quoted (string_bytes partner) ∷ [])
with_subject text (File partner standing) = with_texts text (file_begun (string_bytes partner) standing)
with_subject text EventLost = text ++ codes "{\"kind\":\"event lost\""
with_subject text Backup = text ++ codes "{\"kind\":\"backup\""

-- a text with the object of a counter
abbrev pub with_counter : List ℕ → Tally → List ℕ
with_counter text t = with_texts (with_subject text t.subject)
    (codes ",\"count\":" ∷ decimal t.count ∷ codes ",\"first\":" ∷ decimal t.first ∷ codes ",\"last\":" ∷ decimal t.last ∷ codes "}" ∷ [])

abbrev pub with_later_counter : List ℕ → Tally → List ℕ
with_later_counter text t = with_counter (text ++ codes ",") t

-- a text with counters, with commas between them
abbrev pub with_counters : List ℕ → List Tally → List ℕ
with_counters text [] = text
with_counters text (t ∷ ts) = fold with_later_counter (with_counter text t) ts

-- a text with the time of a call, if there is one
abbrev pub with_next : List ℕ → Option ℕ → List ℕ
with_next text None = text
with_next text (Some time) = with_texts text (codes ",\"next_call\":" ∷ decimal time ∷ [])

-- a text with the object of a partner
abbrev pub with_partner : List ℕ → Partner → List ℕ
with_partner text p = with_next (with_texts text (codes "{\"code\":" ∷ quoted p.code.now ∷ [])) p.next_call ++ codes "}"

abbrev pub with_later_partner : List ℕ → Partner → List ℕ
with_later_partner text p = with_partner (text ++ codes ",") p

-- a text with partners, with commas between them
abbrev pub with_partners : List ℕ → List Partner → List ℕ
with_partners text [] = text
with_partners text (p ∷ ps) = fold with_later_partner (with_partner text p) ps

-- a text with the session that is going on
abbrev pub with_going : List ℕ → Option Going → List ℕ
with_going text None = text ++ codes "null"
with_going text (Some g) = with_texts text
    (codes "{\"partner\":" ∷ quoted g.partner.now ∷ codes ",\"way\":\"" ∷ way_text g.way ∷ codes "\",\"dataset\":" ∷ quoted g.dataset.now
    ∷ codes ",\"share\":" ∷ decimal g.share ∷ codes "}" ∷ [])

-- a text with what has one value
abbrev pub with_head : List ℕ → Picture → List ℕ
with_head text p = with_texts text
    (codes "{\"version\":" ∷ quoted p.version.now ∷ codes ",\"now\":" ∷ decimal p.moment ∷ codes ",\"since\":" ∷ decimal p.since
    ∷ codes ",\"database\":" ∷ quoted p.database.now ∷ codes ",\"octets\":" ∷ decimal p.octets ∷ [])

-- a text with the lists
abbrev pub with_lists : List ℕ → Picture → List ℕ
with_lists text p =
    let partners = with_partners (text ++ codes ",\"partners\":[") p.partners.now in
    let counters = with_counters (partners ++ codes "],\"counters\":[") p.counters.now in
    with_counters (counters ++ codes "],\"files\":[") p.files.now ++ codes "]}\n"

-- the whole text
abbrev pub status_json : Picture → List ℕ
status_json p = with_lists (with_going (with_head [] p ++ codes ",\"session\":") p.going) p
