-- The values of arguments that always have one.
use Rattle.std.proofs.Common.{◌≡◌, List, true}
use Rattle.std.specs.Prelude.{IsSome}
use Rattle.clap.specs.Words.{App, Row, Text, first_of}
use Rattle.oftp_command_line.specs.Arguments.{HasValues, always_has, is_certain}

pub has_text : (a : App) (rows : List Row) (id : Text) → HasValues a rows → always_has is_certain a id ≡ true → IsSome (first_of id rows)
has_text a rows id has certain = has.texts id certain
