-- Which host a request names, and which hosts are this one.
use Rattle.std.specs.Prelude.{◌≡◌, ◌⊎◌, ◌==◌, ℕ, nat_lt, if◌then◌else◌, List, [], ◌∷◌, map, length, codes, IsUtf8, Option, Some, None}
use Rattle.std.specs.Char.{to_ascii_lowercase}
use Rattle.std.specs.List.{before_first, position_or_len}
use Rattle.std.specs.Option.{option_map}
use Rattle.std.specs.Net.Addr.{embedded_segments, ipv6_segments}
use Rattle.std.specs.Net.Grammar.{IsIpText}
use Rattle.std.specs.declared.net.ip_addr.IpAddr.{IpAddr}
use Rattle.std.specs.declared.net.ip_addr.IpAddr.TheVariants.{V4, V6}
use Rattle.oftp_listing.specs.declared.hosts.Hosts.{Hosts}

-- what stands before the bracket that closes, or the whole value if none does
abbrev pub bracketed : (value behind : List ℕ) → List ℕ
bracketed value behind = if nat_lt (position_or_len (λ c. c == 93) behind) (length behind) then before_first (λ c. c == 93) behind else value

-- The host in a value of the field Host (RFC 9110, section 7.2). It is what brackets enclose, or what stands before the first
-- colon, which the port follows.
unfoldable pub host_in : List ℕ → List ℕ
host_in [] = []
host_in (c ∷ rest) = if c == 91 then bracketed (c ∷ rest) rest else before_first (λ x. x == 58) (c ∷ rest)

-- they are the same text, except for the case of letters
abbrev pub IsSpelled : List ℕ → List ℕ → Type 0
IsSpelled text word = map to_ascii_lowercase text ≡ map to_ascii_lowercase word

-- the segments of an address as one of IPv6: an IPv4 address is what a socket of IPv6 sees it as
abbrev pub segments_in : IpAddr → List ℕ
segments_in (V4 address) = embedded_segments 0xffff address
segments_in (V6 address) = ipv6_segments address

-- the host is this name, if there is one
abbrev pub IsName : Option (List ℕ) → List ℕ → Type 0
IsName None host = ⊥
IsName (Some name) host = IsSpelled host name

-- the host is this address, in any spelling
abbrev pub IsAddress : Option IpAddr → List ℕ → Type 0
IsAddress None host = ⊥
IsAddress (Some address) host = (asked : IpAddr) × IsIpText host asked × (segments_in asked ≡ segments_in address)

-- the host is this one
abbrev pub IsHost : Hosts → List ℕ → Type 0
IsHost hosts host = IsSpelled host (codes "localhost") ⊎ (IsName (option_map (λ name. name.now) hosts.name) host ⊎ IsAddress hosts.address host)

-- a header field names this host, if it is the field Host at all
abbrev pub NamesHost : Hosts → List ℕ × List ℕ → Type 0
NamesHost hosts field = IsSpelled field.0 (codes "host") → IsUtf8 field.1 × IsHost hosts (host_in field.1)
