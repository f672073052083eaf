-- How large numbers of octets are that are remembered.
use Rattle.std.specs.Prelude.{◌≡◌, ◌≤◌, ℕ, Some}
use Rattle.std.specs.Ordering.{nat_cmp}
use Rattle.std.specs.BTreeMap.{BTreeMap, get}
use Rattle.oftp_register.specs.declared.fit.TheConstants.{MOST_UNITS}

-- no number of octets exceeds what a file may have
abbrev pub AreFew : BTreeMap ℕ ℕ → Type 0
AreFew counts = (n units : ℕ) → get nat_cmp counts n ≡ Some units → units ≤ MOST_UNITS
