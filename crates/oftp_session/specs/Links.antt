-- What two stations agree when their session opens.
use Rattle.std.specs.Prelude.{ℕ, Bool}

-- The Data Exchange Buffer size in octets, the Credit, and whether broken transfers are continued. Also whether the station sends and
-- receives files (RFC 5024, section 5.3.2).
pub record LinkData : Type 0 where
  pub buffer : ℕ
  pub credit : ℕ
  pub restart : Bool
  pub sends : Bool
  pub receives : Bool
