-- What was read, and the reply to it, are the reply to the request.
use Rattle.std.proofs.Common.{◌≡◌, ℕ, Bool, List, Option, Some, None, Result, Ok, Err, codes, refl, subst}
use Rattle.std.specs.Str.{bytes_eq}
use Rattle.std.specs.declared.net.ip_addr.IpAddr.{IpAddr}
use Rattle.oftp_register.specs.Offices.{View}
use Rattle.oftp_listing.specs.declared.fault.ListFault.{ListFault}
use Rattle.oftp_listing.specs.declared.fault.ListFault.TheVariants.{Incomplete}
use Rattle.oftp_listing.specs.declared.query.Query.{Query}
use Rattle.oftp_listing.specs.declared.query.Query.TheVariants as query
use Rattle.oftp_listing.specs.declared.route.Route.{Route}
use Rattle.oftp_listing.specs.declared.site.Goal.{Goal}
use Rattle.oftp_listing.specs.declared.site.Goal.TheVariants as goal
use Rattle.oftp_listing.specs.declared.site.Site.{Site}
use Rattle.oftp_listing.specs.declared.site.Site.TheVariants.{Register}
use Rattle.oftp_listing.specs.Heads.{Heard, Hears, Unfinished, Refused, Whole}
use Rattle.oftp_listing.specs.Queries.{AsksFor, IsQueryFor, IsReadAt, IsReplyTo, is_get}
use Rattle.oftp_listing.specs.Replies.{Sent}
use Rattle.oftp_listing.specs.Routes.{route_at}
use Rattle.oftp_listing.specs.Sites.{IsRepliedAt, Meets}
use Rattle.oftp_listing.specs.Texts.{Answers, Serves}

-- ---- something is asked for

replied : (asked : Query) (is : Query) (page : List ℕ) (old new : View) (result : Result Sent ListFault) → ◌≡◌ {A = Result (Option Query) ListFault} (Ok (Some asked)) (Ok (Some is))
    → IsReplyTo asked page old new result → IsReplyTo is page old new result
replied asked is page old new result e reply =
    let same : asked ≡ is = cc in
    subst (λ (q : Query). IsReplyTo q page old new result) same reply

answered : (heard : Heard) (page : List ℕ) (old new : View) (asked : Query) (result : Result Sent ListFault) → AsksFor heard (Ok (Some asked))
    → IsReplyTo asked page old new result → Answers heard old new result
answered Unfinished page old new asked result is reply = absurd (cc is)
answered Refused page old new asked result is reply = replied asked query.Invalid page old new result is reply
answered (Whole method target) page old new query.Invalid result is reply = absurd is
answered (Whole method target) page old new query.Page result is reply = absurd is
answered (Whole method target) page old new (query.Register m r) result is reply =
    subst (λ (b : Bool). Serves b (route_at target) old new result) is.0 (subst (λ (r : Option Route). Serves (is_get m) r old new result) is.1 reply)

meets : (sought : Goal) (page request : List ℕ) (old new : View) (asked : Query) (result : Result Sent ListFault) → IsQueryFor sought request (Ok (Some asked))
    → IsReplyTo asked page old new result → Meets sought page request old new result
meets goal.OtherHost page request old new asked result is reply = replied asked query.Invalid page old new result is reply
meets goal.Page page request old new asked result is reply = replied asked query.Page page old new result is reply
meets goal.Register page request old new asked result is reply = λ heard hears. answered heard page old new asked result (is heard hears) reply

pub replied_at : (site : Site) (page : List ℕ) (address : Option IpAddr) (request : List ℕ) (old new : View) (asked : Query) (result : Result Sent ListFault)
    → IsReadAt site address request (Ok (Some asked)) → IsReplyTo asked page old new result → IsRepliedAt site page address request old new result
replied_at site page address request old new asked result read reply =
    record { sought = read.sought; is = read.is; reply = meets read.sought page request old new asked result read.query reply }

-- ---- nothing yet

unanswered : (heard : Heard) (old new : View) → AsksFor heard (Ok None) → new.told ≡ old.told → Answers heard old new (Err Incomplete)
unanswered Unfinished old new is untold = (untold, refl)
unanswered Refused old new is untold = absurd (cc is)
unanswered (Whole method target) old new is untold = absurd is

unmet : (sought : Goal) (page request : List ℕ) (old new : View) → IsQueryFor sought request (Ok None) → new.told ≡ old.told → Meets sought page request old new (Err Incomplete)
unmet goal.OtherHost page request old new is untold = absurd (cc is)
unmet goal.Page page request old new is untold = absurd (cc is)
unmet goal.Register page request old new is untold = λ heard hears. unanswered heard old new (is heard hears) untold

pub unreplied_at : (site : Site) (page : List ℕ) (address : Option IpAddr) (request : List ℕ) (old new : View) → IsReadAt site address request (Ok None) → new.told ≡ old.told
    → IsRepliedAt site page address request old new (Err Incomplete)
unreplied_at site page address request old new read untold = record { sought = read.sought; is = read.is; reply = unmet read.sought page request old new read.query untold }

-- ---- at a site of the register

pub answered_at : (page : List ℕ) (address : Option IpAddr) (request : List ℕ) (old new : View) (result : Result Sent ListFault)
    → IsRepliedAt Register page address request old new result → (heard : Heard) → Hears request heard → Answers heard old new result
answered_at page address request old new result at = subst (λ (sought : Goal). Meets sought page request old new result) at.is at.reply
