-- What a request over HTTP gets at a site: the register, the page, or an error since it is for another host.
use Rattle.std.specs.Prelude.{◌≡◌, ◌<◌, ◌≤◌, ℕ, List, map, length, codes, All, Option, Result, Ok, Err}
use Rattle.std.specs.declared.net.ip_addr.IpAddr.{IpAddr}
use Rattle.httparse.specs.Grammar.{RequestHead, ReadsRequest}
use Rattle.httparse.specs.Spans.{name_and_value}
use Rattle.oftp_register.specs.Offices.{View}
use Rattle.oftp_listing.specs.declared.fault.ListFault.{ListFault}
use Rattle.oftp_listing.specs.declared.fault.ListFault.TheVariants.{Memory}
use Rattle.oftp_listing.specs.declared.head.TheConstants.{MOST_FIELDS}
use Rattle.oftp_listing.specs.declared.hosts.Hosts.{Hosts}
use Rattle.oftp_listing.specs.declared.site.Goal.{Goal}
use Rattle.oftp_listing.specs.declared.site.Goal.TheVariants as goal
use Rattle.oftp_listing.specs.declared.site.Site.{Site}
use Rattle.oftp_listing.specs.declared.site.Site.TheVariants.{Page, Register}
use Rattle.oftp_listing.specs.declared.state.OfficeState.TheVariants.{Working}
use Rattle.oftp_listing.specs.Heads.{Heard, Hears}
use Rattle.oftp_listing.specs.Hosts.{NamesHost}
use Rattle.oftp_listing.specs.Replies.{Says, Sent, page_text}
use Rattle.oftp_listing.specs.Texts.{Answers, Refuses}

-- each field Host of these names and values names this host
abbrev pub IsForHost : Hosts → List (List ℕ × List ℕ) → Type 0
IsForHost hosts fields = All (NamesHost hosts) fields

-- it is GET for the page
abbrev pub IsForPage : (method target : List ℕ) → Type 0
IsForPage method target = (method ≡ codes "GET") × (target ≡ codes "/")

-- this is what a head asks for with this method, this target and these fields
abbrev pub IsSought : Hosts → (method target : List ℕ) → (fields : List (List ℕ × List ℕ)) → Goal → Type 0
IsSought hosts method target fields goal.OtherHost = ¬ (IsForHost hosts fields)
IsSought hosts method target fields goal.Page = IsForHost hosts fields × IsForPage method target
IsSought hosts method target fields goal.Register = IsForHost hosts fields × ¬ (IsForPage method target)

-- this is what a head asks for
abbrev pub IsGoal : Hosts → RequestHead → Goal → Type 0
IsGoal hosts head sought = IsSought hosts head.method head.target (map name_and_value head.fields) sought

-- This is what the octets of a request ask for. Octets that don't begin with a head of so few fields ask for the register, which has no
-- reply for them but an error.
pub record IsGoalOf (hosts : Hosts) (request : List ℕ) (sought : Goal) : Type 0 where
  pub whole : (head : RequestHead) (rest : List ℕ) → ReadsRequest request head rest → length head.fields ≤ MOST_FIELDS → IsGoal hosts head sought
  pub none : ((head : RequestHead) (rest : List ℕ) → ReadsRequest request head rest → MOST_FIELDS < length head.fields) → sought ≡ goal.Register

-- this is what a request asks for that was sent to this address of the site
abbrev pub IsGoalAt : Site → Option IpAddr → List ℕ → Goal → Type 0
IsGoalAt Register address request sought = sought ≡ goal.Register
IsGoalAt (Page name) address request sought = IsGoalOf (record { address = address; name = name }) request sought

-- the page is shown, or memory ran out
abbrev pub ShowsPage : (page : List ℕ) → Result Sent ListFault → Type 0
ShowsPage page (Ok sent) = Says (page_text page) Working sent
ShowsPage page (Err fault) = fault ≡ Memory

-- the reply to a request that asks for this
abbrev pub Meets : Goal → (page request : List ℕ) → (old new : View) → Result Sent ListFault → Type 0
Meets goal.OtherHost page request old new result = (new.told ≡ old.told) × Refuses result
Meets goal.Page page request old new result = (new.told ≡ old.told) × ShowsPage page result
Meets goal.Register page request old new result = (heard : Heard) → Hears request heard → Answers heard old new result

-- the reply to a request at a site: it meets what the request asks for
pub record IsRepliedAt (site : Site) (page : List ℕ) (address : Option IpAddr) (request : List ℕ) (old new : View) (result : Result Sent ListFault) : Type 0 where
  pub sought : Goal
  pub is : IsGoalAt site address request sought
  pub reply : Meets sought page request old new result
