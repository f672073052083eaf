use Rattle.std.proofs.Common.{◌≡◌, ◌<◌, ◌^◌, true, take}
use Rattle.std.specs.Char.{is_ascii_digit}
use Rattle.std.specs.List.{list_all}
use Rattle.std.specs.Str.Parse.{digits_value}
use Rattle.oftp_contents.proofs.places.entry_number.Given as goal

-- the octets so far are digits, and this is their number
abbrev pub invariant-loop-digit : goal.invariant-loop-digit
invariant-loop-digit l = record {
  value : l.number ≡ digits_value 10 (take l.digit-index l.text);
  digits : list_all is_ascii_digit (take l.digit-index l.text) ≡ true;
  below : l.number < 2 ^ 64;
}
