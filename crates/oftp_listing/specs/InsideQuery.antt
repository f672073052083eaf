-- Inside: what the parts of reading a request return.
use Rattle.std.specs.Prelude.{◌≡◌, ◌<◌, ◌≤◌, ℕ, List, length, IsUtf8, Option}
use Rattle.std.specs.declared.net.ip_addr.IpAddr.{IpAddr}
use Rattle.oftp_listing.specs.declared.head.TheConstants.{LONGEST_HEAD}
use Rattle.oftp_listing.specs.declared.head.Head.{Head}
use Rattle.oftp_listing.specs.declared.head.Head.TheVariants as head
use Rattle.oftp_listing.specs.declared.site.Goal.{Goal}
use Rattle.oftp_listing.specs.declared.site.Goal.TheVariants as goal
use Rattle.oftp_listing.specs.declared.site.Site.{Site}
use Rattle.oftp_listing.specs.declared.site.Site.TheVariants.{Page, Register}
use Rattle.oftp_listing.specs.Heads.{Reads, Whole}
use Rattle.oftp_listing.specs.Sites.{IsSought}

-- the head with this method and this target, refused if the request has too many octets
pub record IsHeadOf (request method target : List ℕ) (found : Head) : Type 0 where
  pub short : length request ≤ LONGEST_HEAD → IsUtf8 target → Reads (Whole method target) found
  pub long : LONGEST_HEAD < length request → found ≡ head.Refused

-- the head of which the request is the beginning, refused if that has too many octets
pub record IsBegun (request : List ℕ) (found : Head) : Type 0 where
  pub short : length request ≤ LONGEST_HEAD → found ≡ head.Unfinished
  pub long : LONGEST_HEAD < length request → found ≡ head.Refused

-- this is what a head asks for with this method, this target and these fields, that was sent to this address of the site
abbrev pub IsSoughtAt : Site → Option IpAddr → (method target : List ℕ) → (fields : List (List ℕ × List ℕ)) → Goal → Type 0
IsSoughtAt Register address method target fields sought = sought ≡ goal.Register
IsSoughtAt (Page name) address method target fields sought = IsSought (record { address = address; name = name }) method target fields sought
