-- The promise follows from the invariant, and the invariant holds at first.
use Rattle.std.specs.List.{AllByRecursion}
use Rattle.std.proofs.Common.{◌≡◌, List, [], ◌∷◌, Option, None, Some, refl, sym, ◌∙◌, subst}
use Rattle.std.proofs.lemmas.Bool.{false≢true}
use Rattle.oftp_partners.specs.Book.{BookData}
use Rattle.oftp_partners.specs.declared.partner.Partner.{Partner}
use Rattle.oftp_vfile.specs.declared.limits.Limits.{Limits}
use Rattle.oftp_register.specs.declared.entry.IncomingState.TheVariants.{Whole}
use Rattle.oftp_register.specs.declared.entry.Identity.{Identity}
use Rattle.oftp_register.specs.Register.{Register, Incoming, Outgoing, empty}
use Rattle.oftp_register.specs.Soundness.{IsSound}
use Rattle.oftp_register.proofs.EmptyLemmas.{sound_empty}
use Rattle.oftp_engine.specs.Runs.{Course}
use Rattle.oftp_engine.specs.World.{Station, World, Event, register_in, register_of, after_event, after_events}
use Rattle.oftp_register.specs.ByIdentity.{out_at, in_at}
use Rattle.oftp_engine.specs.TwoStations.{IfAny, IsContent, IsAnswered, IsWholeOf, ContentArrivesOf, ResponsesAreIssuedOf}
use Rattle.oftp_engine.proofs.Standing.{FileFits, AllFit, IsPartOf, WorldStands, IsInSession, IsSoundStation, StationLeaves, LeftBy}
use Rattle.oftp_engine.proofs.Keeping.{GoesOnAmong, StandsAmong, MayHappenTo, keeps_among}
use Rattle.oftp_engine.proofs.Knowing.{Knows}
use Rattle.oftp_engine.specs.Promise.{PromiseIsKept, IsLawful, world_of, new_station}
use Rattle.oftp_engine.proofs.Fitting.{not_handed}

is_whole_of : (f : Outgoing) (e : Incoming) → IsPartOf f e → e.state ≡ Whole → IsWholeOf f e
is_whole_of f e fit w = record { whole = w; format = fit.format; longest = fit.longest; rows = fit.whole w }

-- content
pub fits_content : (out : Option Outgoing) (there : Option Incoming) → FileFits out there → IsContent out there
fits_content None None fit = record { handed = tt; whole = tt }
fits_content None (Some e) fit = absurd fit
fits_content (Some f) None fit = record { handed = λ k. absurd (false≢true (sym fit ∙ k)); whole = tt }
fits_content (Some f) (Some e) fit = record { handed = λ k. is_whole_of f e fit (fit.handed k); whole = λ w. is_whole_of f e fit w }

-- responses
pub fits_answered : (out : Option Outgoing) (there : Option Incoming) → FileFits out there → IsAnswered out there
fits_answered None there fit = record { delivered = tt; returned = tt }
fits_answered (Some f) None fit = record { delivered = λ k. absurd ((not_handed f.state fit).0 k); returned = λ k. absurd ((not_handed f.state fit).1 k) }
fits_answered (Some f) (Some e) fit = record { delivered = λ k. fit.delivered k; returned = λ k. fit.returned k }

pub fit_content : (Is : Identity → Type 0) (r s : Register) → AllFit Is r s → ContentArrivesOf Is r s
fit_content Is r s fit i p = fits_content (out_at r i) (in_at s i) (fit i p)

pub fit_answered : (Is : Identity → Type 0) (r s : Register) → AllFit Is r s → ResponsesAreIssuedOf Is r s
fit_answered Is r s fit i p = fits_answered (out_at r i) (in_at s i) (fit i p)

-- the register of a station is one that a crash may leave
leaves_now : (start : Register) (session : Option Course) → IfAny session (IsInSession start) → LeftBy start session (register_in start session)
leaves_now s None h = refl
leaves_now s (Some c) h = h.now

pub stands_promise : (There Back : Identity → Type 0) (w : World) → WorldStands There Back w → PromiseIsKept There Back w
stands_promise There Back w h =
    let r = register_of w.one in
    let s = register_of w.other in
    let one : StationLeaves w.one r = leaves_now w.one.start w.one.session h.one.session in
    let other : StationLeaves w.other s = leaves_now w.other.start w.other.session h.other.session in
    let to_other = h.to_other r s one other in
    let to_one = h.to_one r s one other in
    ((fit_content There r s to_other, fit_content Back s r to_one), (fit_answered There r s to_other, fit_answered Back s r to_one))

-- at first
new_sound : (book : BookData) (partner : Partner) (limits : Limits) (other : Station) → IsLawful book limits → IsSoundStation (new_station book partner limits) other
new_sound book partner limits other lawful = record {
  registers = λ r e. subst IsSound (sym e) (sound_empty limits lawful.files lawful.octets);
  room = lawful.buffer;
  session = tt;
  coming = refl;
}

empty_fit : (Is : Identity → Type 0) (r s : Register) (limits limits' : Limits) → r ≡ empty limits → s ≡ empty limits' → AllFit Is r s
empty_fit Is r s limits limits' e d = subst (λ x. AllFit Is x s) (sym e) (subst (λ y. AllFit Is (empty limits) y) (sym d) (λ i p. tt))

pub stands_first : (There Back : Identity → Type 0) (book book' : BookData) (partner partner' : Partner) (limits limits' : Limits) → IsLawful book limits → IsLawful book' limits'
    → WorldStands There Back (world_of book book' partner partner' limits limits')
stands_first There Back book book' partner partner' limits limits' lawful lawful' = record {
  one = new_sound book partner limits (new_station book' partner' limits') lawful;
  other = new_sound book' partner' limits' (new_station book partner limits) lawful';
  to_other = λ r s e d. empty_fit There r s limits limits' e d;
  to_one = λ r s e d. empty_fit Back s r limits' limits d e;
  meet = tt;
}

-- The promise after every list of events, of files with such identities. Those between the two are among them, and no dealings with others
-- change a file among them.
pub kept_among : (There Back : Identity → Type 0) (book book' : BookData) (partner partner' : Partner) (limits limits' : Limits) (events : List Event) → IsLawful book limits → IsLawful book' limits'
    → GoesOnAmong There Back book.station.code book'.station.code → AllByRecursion (MayHappenTo There Back book.station.code book'.station.code) events
    → PromiseIsKept There Back (after_events (world_of book book' partner partner' limits limits') events)
kept_among There Back book book' partner partner' limits limits' events lawful lawful' on may =
    stands_promise There Back (after_events first events)
    (after first events may (record { stands = stands_first There Back book book' partner partner' limits limits' lawful lawful'; knows = knows })).stands
  where
    first : World
    first = world_of book book' partner partner' limits limits'

    knows : Knows book.station.code book'.station.code (world_of book book' partner partner' limits limits')
    knows = record { at_one = record { code = refl; session = tt; coming = tt }; at_other = record { code = refl; session = tt; coming = tt } }

    after : (w : World) (events : List Event) → AllByRecursion (MayHappenTo There Back book.station.code book'.station.code) events
        → StandsAmong There Back book.station.code book'.station.code w → StandsAmong There Back book.station.code book'.station.code (after_events w events)
    after w [] may h = h
    after w (e ∷ es) may h = after (after_event w e) es may.1 (keeps_among There Back book.station.code book'.station.code on w e may.0 h)
