-- What a request asks for, as it was read, and the reply to that.
use Rattle.std.specs.Prelude.{◌≡◌, ℕ, Bool, true, false, List, codes, Option, Some, None, Result, Ok, Err}
use Rattle.std.specs.Str.{bytes_eq}
use Rattle.std.specs.declared.net.ip_addr.IpAddr.{IpAddr}
use Rattle.oftp_register.specs.Offices.{View}
use Rattle.oftp_listing.specs.declared.fault.ListFault.{ListFault}
use Rattle.oftp_listing.specs.declared.fault.ListFault.TheVariants.{Memory}
use Rattle.oftp_listing.specs.declared.query.Method.{Method}
use Rattle.oftp_listing.specs.declared.query.Method.TheVariants.{Get, Other}
use Rattle.oftp_listing.specs.declared.query.Query.{Query}
use Rattle.oftp_listing.specs.declared.query.Query.TheVariants as query
use Rattle.oftp_listing.specs.declared.route.Route.{Route}
use Rattle.oftp_listing.specs.declared.site.Goal.{Goal}
use Rattle.oftp_listing.specs.declared.site.Goal.TheVariants as goal
use Rattle.oftp_listing.specs.declared.site.Site.{Site}
use Rattle.oftp_listing.specs.Heads.{Heard, Hears, Unfinished, Refused, Whole}
use Rattle.oftp_listing.specs.Replies.{Sent}
use Rattle.oftp_listing.specs.Routes.{route_at}
use Rattle.oftp_listing.specs.Sites.{IsGoalAt, ShowsPage}
use Rattle.oftp_listing.specs.Texts.{Refuses, Serves}
use Rattle.oftp_listing.specs.Unasked.{status_at}

abbrev pub is_get : Method → Bool
is_get Get = true
is_get Other = false

-- a request with this method for this route, or for none, is one of the register
abbrev pub IsOfRegister : (method : List ℕ) → Option Route → Option Query → Type 0
IsOfRegister method route None = ⊥
IsOfRegister method route (Some query.Invalid) = ⊥
IsOfRegister method route (Some query.Page) = ⊥
IsOfRegister method route (Some (query.Register m r)) = (is_get m ≡ bytes_eq method (codes "GET")) × (r ≡ route)

-- What a request asks for of the register, by what its octets are. It is nothing yet, nothing at all or a route, unless memory ran out for that.
abbrev pub AsksFor : Heard → Result (Option Query) ListFault → Type 0
AsksFor Unfinished result = result ≡ Ok None
AsksFor Refused result = result ≡ Ok (Some query.Invalid)
AsksFor (Whole method target) (Ok asked) = IsOfRegister method (route_at target) asked
AsksFor (Whole method target) (Err fault) = fault ≡ Memory

-- what a request asks for, by its goal
abbrev pub IsQueryFor : Goal → (request : List ℕ) → Result (Option Query) ListFault → Type 0
IsQueryFor goal.OtherHost request result = result ≡ Ok (Some query.Invalid)
IsQueryFor goal.Page request result = result ≡ Ok (Some query.Page)
IsQueryFor goal.Register request result = (heard : Heard) → Hears request heard → AsksFor heard result

-- what a request asks for that was sent to this address of a site
pub record IsReadAt (site : Site) (address : Option IpAddr) (request : List ℕ) (result : Result (Option Query) ListFault) : Type 0 where
  pub sought : Goal
  pub is : IsGoalAt site address request sought
  pub query : IsQueryFor sought request result

-- the status that what is asked for has whatever is registered, if there is one
abbrev pub status_of : Query → Option ℕ
status_of query.Invalid = Some 400
status_of query.Page = None
status_of (query.Register method route) = status_at (is_get method) route

-- the reply to what is asked for
abbrev pub IsReplyTo : Query → (page : List ℕ) → (old new : View) → Result Sent ListFault → Type 0
IsReplyTo query.Invalid page old new result = (new.told ≡ old.told) × Refuses result
IsReplyTo query.Page page old new result = (new.told ≡ old.told) × ShowsPage page result
IsReplyTo (query.Register method route) page old new result = Serves (is_get method) route old new result
