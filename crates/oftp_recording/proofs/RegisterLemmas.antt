-- The office of a register that is digested.
use Rattle.std.proofs.Common.{◌≡◌}
use Rattle.oftp_listing.specs.Texts.{Asks}
use Rattle.oftp_register.specs.Offices.{View}

-- look-ups that found no error so far
pub record HasAsked (old new : View) : Type 0 where
  pub asks : Asks old new
  pub untold : new.told ≡ old.told
