-- The passwords of a session: those of the partner, and how far its octets were followed to them.
use Rattle.std.specs.Prelude.{ℕ, List, [], Option, None, Some, codes}
use Rattle.std.specs.Global.{Vec}
use Rattle.oftp_contents.specs.Passwords.{heard_order, unfollowed}
use Rattle.oftp_contents.specs.declared.codes.RecordSide.{RecordSide}
use Rattle.oftp_contents.specs.declared.passwords.PasswordFinder.{PasswordFinder}
use Rattle.oftp_contents.specs.declared.passwords.SsidOrder.TheVariants.{First}
use Rattle.oftp_partners.specs.declared.partner.Partner.{Partner}

-- what the partner is expected to send, what the station sends, and how far what was heard and said was followed
pub record Guarded : Type 0 where
  pub expected : List ℕ
  pub sent : List ℕ
  pub heard : PasswordFinder
  pub said : PasswordFinder

-- those of a session that has heard and said nothing
abbrev pub unheard : RecordSide → List ℕ → List ℕ → Guarded
unheard side expected sent = record { expected = expected; sent = sent; heard = unfollowed (heard_order side); said = unfollowed First }

-- what the partner sends by the book; nothing if it isn't known
abbrev pub expected_of : Option Partner → List ℕ
expected_of None = []
expected_of (Some partner) = partner.expects

-- what the station sends by the book
abbrev pub sent_of : Option Partner → List ℕ
sent_of None = []
sent_of (Some partner) = partner.sends

-- what stands for a password that nobody knows
abbrev pub stand_in : List ℕ
stand_in = codes "XXXXXXXX"

-- the octets that take the place of others, if there are any
abbrev pub instead : Option (Vec ℕ) → List ℕ → List ℕ
instead None octets = octets
instead (Some other) octets = other.items
