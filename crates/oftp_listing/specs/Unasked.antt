-- The replies for which no register is asked: they are the same for each.
use Rattle.std.specs.Prelude.{◌≡◌, ℕ, Bool, not, if◌then◌else◌, codes, Option, Some, None, Result, IfOk, is_some, ⊤}
use Rattle.std.specs.Str.{bytes_eq}
use Rattle.oftp_register.specs.Offices.{View}
use Rattle.oftp_register.specs.Register.{Register}
use Rattle.oftp_listing.specs.declared.fault.ListFault.{ListFault}
use Rattle.oftp_listing.specs.declared.route.Route.{Route}
use Rattle.oftp_listing.specs.declared.route.Route.TheVariants.{Incoming, IncomingFile, Outgoing, OutgoingFile, Responses}
use Rattle.oftp_listing.specs.declared.state.OfficeState.TheVariants.{Working}
use Rattle.oftp_listing.specs.Heads.{Heard, Unfinished, Refused, Whole}
use Rattle.oftp_listing.specs.Replies.{Says, Sent, error_text}
use Rattle.oftp_listing.specs.Routes.{route_at}
use Rattle.oftp_listing.specs.Texts.{is_asked, text_of}

-- the status that another method than GET has for a list
abbrev pub unless_get : (is_get : Bool) → Option ℕ
unless_get is_get = if is_get then None else Some 405

-- the status that a request for a route has whatever is registered: there is no such route, or the method isn't allowed for a list
abbrev pub status_at : (is_get : Bool) → Option Route → Option ℕ
status_at is_get None = Some 404
status_at is_get (Some Incoming) = unless_get is_get
status_at is_get (Some (IncomingFile n)) = None
status_at is_get (Some Outgoing) = unless_get is_get
status_at is_get (Some (OutgoingFile n)) = None
status_at is_get (Some Responses) = unless_get is_get

-- the status that the octets of a request have whatever is registered, if there is one
abbrev pub status_of_any : Heard → Option ℕ
status_of_any Unfinished = None
status_of_any Refused = Some 400
status_of_any (Whole method target) = status_at (bytes_eq method (codes "GET")) (route_at target)

-- the reply with this status was made, or none where there is no status
abbrev pub IsOfStatus : Option ℕ → Option Sent → Type 0
IsOfStatus None made = made ≡ None
IsOfStatus (Some status) None = ⊥
IsOfStatus (Some status) (Some sent) = Says (error_text status) Working sent

-- The answer is the reply with this status, if the office was open and its store reads what was written. Nothing is said if there is none.
abbrev pub IsSame : Option ℕ → (old new : View) → Result Sent ListFault → Type 0
IsSame None old new result = ⊤
IsSame (Some status) old new result = new.clean → old.stands → IfOk result (λ sent. sent.octets ≡ error_text status)

-- whatever is registered, the reply to such a request is the one with that status
abbrev pub SameForEach : Type 0
SameForEach = (is_get : Bool) (route : Option Route) (status : ℕ) → status_at is_get route ≡ Some status → (r : Register) → text_of is_get route r ≡ error_text status

-- these are the requests for which an office isn't asked
abbrev pub NobodyAsked : Type 0
NobodyAsked = (is_get : Bool) (route : Option Route) → is_some (status_at is_get route) ≡ not (is_asked is_get route)
