-- The password of an SSID in what a session hears or says: hidden where that is recorded, and put back where it is played.
use Rattle.std.specs.Prelude.{◌≡◌, ℕ, ◌+◌, ◌-◌, ◌==◌, ◌&&◌, false, List, [], ◌∷◌, ◌++◌, Option, None, Some, fold, get_or, nat_le, nat_lt, if◌then◌else◌}
use Rattle.oftp_wire.specs.Octets.{is_allowed}
use Rattle.oftp_contents.specs.declared.codes.RecordSide.{RecordSide}
use Rattle.oftp_contents.specs.declared.codes.RecordSide.TheVariants as sides
use Rattle.oftp_contents.specs.declared.passwords.PasswordFinder.{PasswordFinder}
use Rattle.oftp_contents.specs.declared.passwords.SsidOrder.{SsidOrder}
use Rattle.oftp_contents.specs.declared.passwords.SsidOrder.TheVariants.{BehindSsrm, First}

-- What comes before the SSID in what the partner says: SSRM, if it was called [5.3.1]. That of the station isn't recorded.
abbrev pub heard_order : RecordSide → SsidOrder
heard_order sides.Initiator = BehindSsrm
heard_order sides.Responder = First

-- how many octets that are: an exchange buffer with SSRM has a header of 4 octets and a command of 19 [5.3.1, 8]
abbrev pub octets_before : SsidOrder → ℕ
octets_before First = 0
octets_before BehindSsrm = 4 + 19

-- where the command's letter is, behind the header, and where the password begins and ends [5.3.2]
abbrev pub letter_at : SsidOrder → ℕ
letter_at order = octets_before order + 4

abbrev pub password_at : SsidOrder → ℕ
password_at order = octets_before order + 4 + 27

abbrev pub password_end : SsidOrder → ℕ
password_end order = octets_before order + 4 + 27 + 8

-- the octet of the password that belongs where the next octet is: behind its characters there are spaces; `None` where no password is
unfoldable pub own_octet : List ℕ → PasswordFinder → Option ℕ
own_octet password f = if f.is_ssid && (nat_le (password_at f.order) f.passed && nat_lt f.passed (password_end f.order))
    then Some (get_or password (f.passed - password_at f.order) 32) else None

-- one octet more: X is the letter of SSID
unfoldable pub passed_by : PasswordFinder → ℕ → PasswordFinder
passed_by f octet = record {
  order = f.order;
  passed = if nat_lt f.passed (password_end f.order) then f.passed + 1 else f.passed;
  is_ssid = if f.passed == letter_at f.order then octet == 88 else f.is_ssid;
}

-- An octet as it is recorded. Of a password a space is itself, the right character an asterisk (42), another one that is allowed a question mark (63),
-- any other octet an exclamation mark (33)
unfoldable pub hidden_octet : Option ℕ → ℕ → ℕ
hidden_octet None octet = octet
hidden_octet (Some own) octet = if octet == 32 then 32 else if octet == own then 42 else if is_allowed octet then 63 else 33

-- An octet as it is played. For an asterisk it is the right character, for a question mark another one that is allowed
unfoldable pub shown_octet : Option ℕ → ℕ → ℕ
shown_octet None octet = octet
shown_octet (Some own) octet = if octet == 42 then own else if octet == 63 then (if own == 65 then 66 else 65) else octet

-- what was made of the octets so far, and how far they were followed
pub record Followed : Type 0 where
  pub finder : PasswordFinder
  pub octets : List ℕ

abbrev pub next_followed : (Option ℕ → ℕ → ℕ) → List ℕ → Followed → ℕ → Followed
next_followed change password f octet = record {
  finder = passed_by f.finder octet;
  octets = f.octets ++ (change (own_octet password f.finder) octet ∷ []);
}

-- octets behind these, each of them changed so
abbrev pub followed : (Option ℕ → ℕ → ℕ) → List ℕ → PasswordFinder → List ℕ → List ℕ → Followed
followed change password finder before octets = fold (next_followed change password) (record { finder = finder; octets = before }) octets

-- octets behind which nothing is changed so any more: each stays
abbrev pub LeavesOctets : (Option ℕ → ℕ → ℕ) → PasswordFinder → Type 0
LeavesOctets change finder = (password before octets : List ℕ) → followed change password finder before octets ≡ record { finder = finder; octets = before ++ octets }

-- a side of which nothing was followed
abbrev pub unfollowed : SsidOrder → PasswordFinder
unfollowed order = record { order = order; passed = 0; is_ssid = false }

-- An octet is played as another one that a session takes in the same way: both are the right one or neither is, both are a space or neither is, and both
-- are allowed in a field or neither is
pub record IsTakenAlike (own octet played : ℕ) : Type 0 where
  pub same : octet ≡ own → played ≡ own
  pub other : ¬ (octet ≡ own) → ¬ (played ≡ own)
  pub space : (played == 32) ≡ (octet == 32)
  pub allowed : is_allowed played ≡ is_allowed octet
