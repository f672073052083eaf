-- What the spans of a head say of what is asked for.
use Rattle.std.proofs.Common.{◌≡◌, ◌≤◌, ◌<◌, ℕ, List, length, take, map, Option, refl, subst, arith}
use Rattle.std.specs.declared.net.ip_addr.IpAddr.{IpAddr}
use Rattle.httparse.specs.declared.spans.HeaderSpan.{HeaderSpan}
use Rattle.httparse.specs.declared.spans.RequestSpans.{RequestSpans}
use Rattle.httparse.specs.Grammar.{RequestHead, ReadsRequest}
use Rattle.httparse.specs.Spans.{IsRequestAt, IsRequestOf, header_bytes, span_bytes}
use Rattle.oftp_listing.specs.declared.head.TheConstants.{MOST_FIELDS}
use Rattle.oftp_listing.specs.declared.hosts.Hosts.{Hosts}
use Rattle.oftp_listing.specs.declared.site.Goal.{Goal}
use Rattle.oftp_listing.specs.declared.site.Goal.TheVariants as goal
use Rattle.oftp_listing.specs.declared.site.Site.{Site}
use Rattle.oftp_listing.specs.declared.site.Site.TheVariants.{Page, Register}
use Rattle.oftp_listing.specs.InsideQuery.{IsSoughtAt}
use Rattle.oftp_listing.specs.Sites.{IsGoal, IsGoalAt, IsSought}
use Rattle.oftp_listing.proofs.HeadLemmas.{fields_fit}

-- the names and values that the first spans cover
abbrev pub fields_at : List ℕ → List HeaderSpan → ℕ → List (List ℕ × List ℕ)
fields_at buf spans count = map (header_bytes buf) (take count spans)

-- the parts that the spans cover are those of the head
of_head : (hosts : Hosts) (buf : List ℕ) (spans : List HeaderSpan) (r : RequestSpans) (h : RequestHead) (sought : Goal) → IsRequestAt buf spans r h
    → IsSought hosts (span_bytes buf r.method) (span_bytes buf r.path) (fields_at buf spans r.headers) sought → IsGoal hosts h sought
of_head hosts buf spans r h sought at is =
    subst (λ (fs : List (List ℕ × List ℕ)). IsSought hosts h.method h.target fs sought) at.fields
    (subst (λ (t : List ℕ). IsSought hosts h.method t (fields_at buf spans r.headers) sought) at.path
    (subst (λ (m : List ℕ). IsSought hosts m (span_bytes buf r.path) (fields_at buf spans r.headers) sought) at.method is))

-- what is asked for, where the parser found a head
pub goal_found : (site : Site) (address : Option IpAddr) (buf : List ℕ) (spans : List HeaderSpan) (r : RequestSpans) (m t : List ℕ) (sought : Goal) → length spans ≡ MOST_FIELDS
    → ((h : RequestHead) (rest : List ℕ) → ReadsRequest buf h rest → length h.fields ≤ MOST_FIELDS → IsRequestAt buf spans r h) → IsRequestOf buf spans r
    → m ≡ span_bytes buf r.method → t ≡ span_bytes buf r.path → IsSoughtAt site address m t (fields_at buf spans r.headers) sought → IsGoalAt site address buf sought
goal_found Register address buf spans r m t sought room finds is em et asks = asks
goal_found (Page name) address buf spans r m t sought room finds is em et asks =
    let hosts : Hosts = record { address = address; name = name } in
    let asked : IsSought hosts (span_bytes buf r.method) (span_bytes buf r.path) (fields_at buf spans r.headers) sought =
    subst (λ (t : List ℕ). IsSought hosts (span_bytes buf r.method) t (fields_at buf spans r.headers) sought) et
    (subst (λ (m : List ℕ). IsSought hosts m t (fields_at buf spans r.headers) sought) em asks) in
    record {
      whole = λ h rest reads few. of_head hosts buf spans r h sought (finds h rest reads few) asked;
      none = λ many. absurd (omega (arith, room, fields_fit buf spans r.headers is.0.fields is.1.fields, many is.0 _ is.1.reads));
    }

-- the register is asked for, where it found none
pub no_goal : (site : Site) (address : Option IpAddr) (buf : List ℕ) → ((h : RequestHead) (rest : List ℕ) → ReadsRequest buf h rest → MOST_FIELDS < length h.fields)
    → IsGoalAt site address buf goal.Register
no_goal Register address buf many = refl
no_goal (Page name) address buf many = record { whole = λ h rest reads few. absurd (omega (arith, few, many h rest reads)); none = λ all. refl }
