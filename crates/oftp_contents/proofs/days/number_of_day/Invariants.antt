use Rattle.std.proofs.Common.{◌≡◌, ◌+◌, ◌-◌, ◌*◌, ◌<◌, ◌^◌, true, take, fold}
use Rattle.std.specs.Char.{is_ascii_digit}
use Rattle.std.specs.List.{list_all}
use Rattle.oftp_contents.proofs.days.number_of_day.Given as goal

-- the octets so far are digits, and this is their number
abbrev pub invariant-loop-digit : goal.invariant-loop-digit
invariant-loop-digit l = record {
  value : l.number ≡ fold (λ n c. n * 10 + (c - 48)) 0 (take l.digit-index l.text);
  digits : list_all is_ascii_digit (take l.digit-index l.text) ≡ true;
  below : l.number < 10 ^ l.digit-index;
}
