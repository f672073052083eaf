use Rattle.std.proofs.Common.{◌≡◌, ◌<◌, ◌^◌, true, take}
use Rattle.std.specs.List.{list_all}
use Rattle.oftp_wire.specs.Octets.{is_digit, number}
use Rattle.oftp_listing.proofs.route.number.Given as goal

-- the octets so far are digits, and the sum is their number
abbrev pub invariant-loop-digit : goal.invariant-loop-digit
invariant-loop-digit l = record {
  value : l.sum ≡ number (take l.digit-index l.text);
  digits : list_all is_digit (take l.digit-index l.text) ≡ true;
  below : l.sum < 10 ^ l.digit-index;
}
