-- What is too short is no day.
use Rattle.std.proofs.Common.{◌≡◌, ◌==◌, ◌<◌, ℕ, false, List, ◌++◌, length, take, drop, None, refl, arith}
use Rattle.std.proofs.lemmas.Bool.Decides.{nat_tests}
use Rattle.std.proofs.lemmas.List.{length-append, length-drop, length-take}
use Rattle.oftp_contents.specs.Days.{day_at, number_of_day}

-- a text with fewer octets than a day has
no_day : (text : List ℕ) → length text < 8 → number_of_day text ≡ None
unfolding number_of_day
no_day text short = let other : (length text == 8) ≡ false = grind (arith, nat_tests) in rw other refl

-- and a time with fewer than its date has
pub no_date : (time : List ℕ) → length time < 10 → day_at time ≡ None
no_date time short =
    let last = take 2 (drop 8 time) in
    let middle = take 2 (drop 5 time) in
    no_day (take 4 time ++ (middle ++ last)) (omega (
      arith,
      short,
      length-append (take 4 time) (middle ++ last),
      length-append middle last,
      length-take 4 time,
      length-take 2 (drop 5 time),
      length-take 2 (drop 8 time),
      length-drop 8 time,
    ))
