-- What a picture of a station says of a partner.
use Rattle.std.specs.Prelude.{ℕ, Bool, false, ◌&&◌, List, [], fold, if◌then◌else◌, max, string_bytes}
use Rattle.std.specs.Str.{bytes_eq}
use Rattle.oftp_status.specs.Subjects.{is_good, same_way}
use Rattle.oftp_status.specs.declared.subject.Subject.{Subject}
use Rattle.oftp_status.specs.declared.subject.Subject.TheVariants.{Session, NotLetIn, NotReached, File, EventLost, Backup}
use Rattle.oftp_status.specs.declared.tally.Tally.{Tally}
use Rattle.oftp_status.specs.declared.way.Way.{Way}

-- the code of the partner that a subject concerns, empty if it concerns none
abbrev pub partner_of : Subject → List ℕ
partner_of (Session partner way end) = string_bytes partner
partner_of (NotLetIn reason) = []
partner_of (NotReached partner) = string_bytes partner
partner_of (File partner standing) = string_bytes partner
partner_of EventLost = []
partner_of Backup = []

-- the subject is a good session with a partner, called for this way
abbrev pub is_good_with : List ℕ → Way → Subject → Bool
is_good_with code way (Session partner other end) = bytes_eq (string_bytes partner) code && (same_way way other && is_good end)
is_good_with code way _ = false

-- the later of a time and that of the last good session of which this is a counter
abbrev pub unless_later : List ℕ → Way → ℕ → Tally → ℕ
unless_later code way time t = if is_good_with code way t.subject then max time t.last else time

-- when the last good session with a partner ended that was called for this way, 0 if there was none
abbrev pub last_good : List Tally → List ℕ → Way → ℕ
last_good counters code way = fold (unless_later code way) 0 counters
