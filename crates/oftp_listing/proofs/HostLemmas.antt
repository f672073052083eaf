-- The host in a value, a host that is an address, and the fields that name one.
use Rattle.std.proofs.Common.{◌≡◌, ◌↔◌, ◌==◌, ◌<◌, ◌≤◌, ◌+◌, ℕ, nat_lt, Bool, true, false, IsTrue, List, [], ◌∷◌, length, take, get_or, map, All, Option, Some, None, inl, inr, ap, sym, subst, refl, ◌∙◌, arith, below_more}
use Rattle.std.proofs.lemmas.Bool.{cases_Bool}
use Rattle.std.proofs.lemmas.Bool.Decides.{nat_tests}
use Rattle.std.proofs.lemmas.List.{get_or-map, get_or_default, length-map}
use Rattle.std.proofs.lemmas.List.Elements.{All-map}
use Rattle.std.proofs.Math.Seq.{take-length}
use Rattle.std.proofs.NetLemmas.Theorems.{IsIpText_unique}
use Rattle.std.specs.List.{before_first, position_or_len}
use Rattle.std.specs.Net.Grammar.{IsIpText}
use Rattle.std.specs.declared.net.ip_addr.IpAddr.{IpAddr}
use Rattle.httparse.specs.declared.spans.HeaderSpan.{HeaderSpan}
use Rattle.httparse.specs.Spans.{header_bytes}
use Rattle.oftp_listing.specs.declared.hosts.Hosts.{Hosts}
use Rattle.oftp_listing.specs.Hosts.{IsAddress, NamesHost, bracketed, host_in, segments_in}

less : (m n : ℕ) → m < n → nat_lt m n ≡ true
less m n h = grind (arith, nat_tests)

not_less : (m n : ℕ) → m ≡ n → nat_lt m n ≡ false
not_less m n h = grind (arith, nat_tests)

-- ---- the host in a value

pub bracket_closes : (value behind host : List ℕ) → host ≡ before_first (λ c. c == 93) behind → position_or_len (λ c. c == 93) behind < length behind → host ≡ bracketed value behind
bracket_closes value behind host e there =
    let closes : nat_lt (position_or_len (λ c. c == 93) behind) (length behind) ≡ true = less _ _ there in
    rw closes e

pub bracket_open : (value behind : List ℕ) → position_or_len (λ c. c == 93) behind ≡ length behind → value ≡ bracketed value behind
bracket_open value behind none =
    let opens : nat_lt (position_or_len (λ c. c == 93) behind) (length behind) ≡ false = not_less _ _ none in
    rw opens refl

pub no_colon : (value : List ℕ) → position_or_len (λ c. c == 58) value ≡ length value → value ≡ before_first (λ c. c == 58) value
no_colon value none = sym (ap (λ n. take n value) none ∙ take-length value)

pub host_bracketed : (value behind : List ℕ) → value ≡ 91 ∷ behind → host_in value ≡ bracketed value behind
unfolding host_in
host_bracketed value behind e = rw e refl

pub host_plain : (value : List ℕ) → ((rest : List ℕ) → value ≡ 91 ∷ rest → ⊥) → host_in value ≡ before_first (λ c. c == 58) value
unfolding host_in
host_plain [] other = refl
host_plain (c ∷ rest) other = elim (cases_Bool (c == 91)) [
  | inl h ↦ let same : c ≡ 91 = grind (arith, nat_tests) in absurd (other rest (ap (λ (x : ℕ). x ∷ rest) same))
  | inr h ↦ rw h refl
]

-- ---- a host that is an address

pub address_spelled : (host : List ℕ) (asked address : IpAddr) (r : Bool) → IsIpText host asked → (IsTrue r ↔ (segments_in asked ≡ segments_in address))
    → IsTrue r ↔ IsAddress (Some address) host
address_spelled host asked address r text same = (
  λ holds. (asked, text, same.0 holds),
  λ is. same.1 (ap segments_in (IsIpText_unique host asked is.0 text is.1) ∙ is.2),
)

pub no_address : (host : List ℕ) (address : Option IpAddr) → ((asked : IpAddr) → IsIpText host asked → ⊥) → IsAddress address host → ⊥
no_address host None none is = is
no_address host (Some address) none is = none is.0 is.1

-- ---- the fields that name a host

-- the field at a place names the host
abbrev pub NamesAt : Hosts → List ℕ → List HeaderSpan → ℕ → HeaderSpan → Type 0
NamesAt hosts request fields i d = NamesHost hosts (header_bytes request (get_or fields i d))

-- one field doesn't
pub other_named_at : (hosts : Hosts) (request : List ℕ) (fields : List HeaderSpan) (i : ℕ) (e : HeaderSpan) (r : Bool) → (IsTrue r ↔ NamesAt hosts request fields i e) → r ≡ false
    → i < length fields → IsTrue false ↔ All (NamesHost hosts) (map (header_bytes request) fields)
other_named_at hosts request fields i e r names fails h =
    let at = get_or-map (header_bytes request) fields i e (header_bytes request e) h in (
      λ holds. absurd cc,
      λ all.
          let holds : r ≡ true = names.1 (subst (NamesHost hosts) at (all i (header_bytes request e) (omega (arith, h, length-map fields (header_bytes request))))) in
          absurd cc,
    )

-- one more does
pub named_on : (hosts : Hosts) (request : List ℕ) (fields : List HeaderSpan) (i : ℕ) (e : HeaderSpan) (r : Bool) → (IsTrue r ↔ NamesAt hosts request fields i e) → r ≡ true
    → i < length fields → ((k : ℕ) (d : HeaderSpan) → k < i → NamesAt hosts request fields k d) → (k : ℕ) (d : HeaderSpan) → k < i + 1 → NamesAt hosts request fields k d
named_on hosts request fields i e r names holds h before =
    let here = λ (d : HeaderSpan). subst (λ (field : HeaderSpan). NamesHost hosts (header_bytes request field)) (get_or_default fields i e d h) (names.0 holds) in
    λ k d more. below_more (λ (k : ℕ). (d : HeaderSpan) → NamesAt hosts request fields k d) i (λ k less d. before k d less) here k more d

-- all do
pub all_named : (hosts : Hosts) (request : List ℕ) (fields : List HeaderSpan) (i : ℕ) → length fields ≤ i → ((k : ℕ) (d : HeaderSpan) → k < i → NamesAt hosts request fields k d)
    → IsTrue true ↔ All (NamesHost hosts) (map (header_bytes request) fields)
all_named hosts request fields i end before = (
  λ holds. All-map (NamesHost hosts) (header_bytes request) fields (λ k d h. before k d (omega (arith, h, end))),
  λ all. refl,
)
