-- The promise of two stations.
use Rattle.std.specs.Prelude.{◌≡◌, ◌≤◌, Bool, true, false, List, None, []}
use Rattle.std.specs.List.{AllByRecursion}
use Rattle.oftp_partners.specs.Book.{BookData}
use Rattle.oftp_partners.specs.declared.partner.Partner.{Partner}
use Rattle.oftp_vfile.specs.declared.limits.Limits.{Limits}
use Rattle.oftp_register.specs.declared.fit.TheConstants.{MOST_FILES, MOST_OCTETS}
use Rattle.oftp_register.specs.declared.entry.Identity.{Identity}
use Rattle.oftp_register.specs.Register.{empty}
use Rattle.oftp_engine.specs.declared.limits.TheConstants.{SMALLEST_BUFFER}
use Rattle.oftp_engine.specs.World.{Station, World, Event, Happening, Deals, after_events, register_of}
use Rattle.oftp_engine.specs.TwoStations.{ContentArrives, ContentArrivesOf, GoesBetween, ResponsesAreIssued, ResponsesAreIssuedOf}

-- a station before its first session
abbrev pub new_station : BookData → Partner → Limits → Station
new_station book partner limits = record { book = book; partner = partner; start = empty limits; session = None; coming = [] }

-- the ranges of a book and its limits, as `read` and the program give them
pub record IsLawful (book : BookData) (limits : Limits) : Type 0 where
  pub buffer : SMALLEST_BUFFER ≤ book.station.buffer
  pub files : limits.files ≤ MOST_FILES
  pub octets : limits.octets ≤ MOST_OCTETS

-- after every list of events, in both directions
abbrev pub ContentIsKept : World → Type 0
ContentIsKept w = ContentArrives (register_of w.one) (register_of w.other) × ContentArrives (register_of w.other) (register_of w.one)

abbrev pub ResponsesAreKept : World → Type 0
ResponsesAreKept w = ResponsesAreIssued (register_of w.one) (register_of w.other) × ResponsesAreIssued (register_of w.other) (register_of w.one)

abbrev pub world_of : BookData → BookData → Partner → Partner → Limits → Limits → World
world_of book book' partner partner' limits limits' = record { one = new_station book partner limits; other = new_station book' partner' limits' }

-- the same of the files There, which go from the first to the second, and of those Back, in the words of their identities
abbrev pub PromiseIsKept : (Identity → Type 0) → (Identity → Type 0) → World → Type 0
PromiseIsKept There Back w = (ContentArrivesOf There (register_of w.one) (register_of w.other) × ContentArrivesOf Back (register_of w.other) (register_of w.one))
    × (ResponsesAreIssuedOf There (register_of w.one) (register_of w.other) × ResponsesAreIssuedOf Back (register_of w.other) (register_of w.one))

-- Two stations among any others keep the promise of the files that go from either of them to the other. Whose they are is said by the two
-- codes.
abbrev pub TwoStations : Type 0
TwoStations = (book book' : BookData) (partner partner' : Partner) (limits limits' : Limits) (events : List Event) → IsLawful book limits → IsLawful book' limits'
    → PromiseIsKept (GoesBetween book.station.code book'.station.code) (GoesBetween book'.station.code book.station.code) (after_events (world_of book book' partner partner' limits limits') events)

-- no third partner has a part in it
abbrev pub is_of_two : Happening → Bool
is_of_two (Deals dealings) = false
is_of_two _ = true

-- Two stations alone: the promise is kept of all files
abbrev pub TwoStationsAlone : Type 0
TwoStationsAlone = (book book' : BookData) (partner partner' : Partner) (limits limits' : Limits) (events : List Event) → IsLawful book limits → IsLawful book' limits'
    → AllByRecursion (λ (e : Event). is_of_two e.happening ≡ true) events
    → ContentIsKept (after_events (world_of book book' partner partner' limits limits') events)
    × ResponsesAreKept (after_events (world_of book book' partner partner' limits limits') events)

-- Among others the promise isn't kept of all files. Whatever the books and partners, there are events after which a file is whole at one
-- station, and the other has none with its identity. It came from a third partner. So the codes in `TwoStations` are needed.
abbrev pub CodesAreNeeded : Type 0
CodesAreNeeded = (book book' : BookData) (partner partner' : Partner) (limits limits' : Limits) → 1 ≤ limits.files
    → (events : List Event) × (ContentIsKept (after_events (world_of book book' partner partner' limits limits') events) → ⊥)
