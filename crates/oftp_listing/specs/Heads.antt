-- How the octets of a request are read, by the grammar of its head.
use Rattle.std.specs.Prelude.{◌≡◌, ℕ, ◌<◌, ◌≤◌, ◌⊎◌, ◌++◌, List, [], length}
use Rattle.httparse.specs.Grammar.{RequestHead, ReadsRequest, HasNoRequest, NeverHasRequest, EndsInTarget}
use Rattle.oftp_listing.specs.declared.head.TheConstants.{LONGEST_HEAD, MOST_FIELDS}
use Rattle.oftp_listing.specs.declared.head.Head.{Head}
use Rattle.oftp_listing.specs.declared.head.Head.TheVariants as head

-- the result of reading
pub data Heard : Type 0 where
  Unfinished : Heard
  Refused : Heard
  Whole : (method target : List ℕ) → Heard

-- they begin with a head of no more fields than are allowed
pub record IsWhole (request m t : List ℕ) : Type 0 where
  pub short : length request ≤ LONGEST_HEAD
  pub head : RequestHead
  pub rest : List ℕ
  pub reads : ReadsRequest request head rest
  pub few : length head.fields ≤ MOST_FIELDS
  pub method : head.method ≡ m
  pub target : head.target ≡ t

-- they don't begin with a head, but could be completed to one of no more fields than are allowed
pub record IsUnfinished (request : List ℕ) : Type 0 where
  pub short : length request ≤ LONGEST_HEAD
  pub not_yet : HasNoRequest request
  pub more : List ℕ
  pub head : RequestHead
  pub reads : ReadsRequest (request ++ more) head []
  pub few : length head.fields ≤ MOST_FIELDS

-- they begin with a head of more fields
pub record IsCrowded (request : List ℕ) : Type 0 where
  pub head : RequestHead
  pub rest : List ℕ
  pub reads : ReadsRequest request head rest
  pub many : MOST_FIELDS < length head.fields

-- there are too many octets, or no continuation makes them begin with a head, or the head has too many fields
abbrev pub IsRefused : List ℕ → Type 0
IsRefused request = (LONGEST_HEAD < length request) ⊎ ((NeverHasRequest request × ¬ (EndsInTarget request)) ⊎ IsCrowded request)

-- The result for the octets of a request. Nothing is said where they end within the target, or where an incomplete head has more
-- fields already than are allowed.
abbrev pub Hears : List ℕ → Heard → Type 0
Hears request Unfinished = IsUnfinished request
Hears request Refused = IsRefused request
Hears request (Whole method target) = IsWhole request method target

-- the code read this result
abbrev pub Reads : Heard → Head → Type 0
Reads Unfinished h = h ≡ head.Unfinished
Reads Refused h = h ≡ head.Refused
Reads (Whole method target) (head.Whole m t) = (m.now ≡ method) × (t.now ≡ target)
Reads (Whole method target) head.Unfinished = ⊥
Reads (Whole method target) head.Refused = ⊥
