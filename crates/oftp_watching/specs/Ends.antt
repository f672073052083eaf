-- Whose a command is: the number in the path of its end of a connection, and the owner of the file with that name.
use Rattle.std.specs.Prelude.{ℕ, ◌+◌, ◌-◌, ◌*◌, ◌^◌, ◌==◌, ◌&&◌, List, [], ◌∷◌, take, drop, length, fold, nat_le, nat_lt, if◌then◌else◌, Option, Some, None, option_and_then}
use Rattle.std.specs.Char.{is_ascii_digit}
use Rattle.std.specs.List.{list_all}
use Rattle.std.specs.Option.{option_or}
use Rattle.std.specs.Str.{bytes_eq}
use Rattle.oftp_watching.specs.declared.ends.EndFile.{EndFile}
use Rattle.oftp_watching.specs.declared.ends.EndFile.TheVariants.{Other, Socket}
use Rattle.oftp_watching.specs.declared.ends.TheConstants.{COMMAND_END, MOST_DIGITS}

-- the number of a process that these digits are
unfoldable pub process_number : List ℕ → Option ℕ
process_number text =
    let number = fold (λ n c. n * 10 + (c - 48)) 0 text in
    if nat_lt 0 (length text) && (nat_le (length text) MOST_DIGITS && (list_all is_ascii_digit text && nat_lt number (2 ^ 32))) then Some number else None

-- what is behind the last slash of a path
abbrev pub name_in : List ℕ → Option (List ℕ)
name_in [] = None
name_in (octet ∷ path) = option_or (name_in path) (if octet == 47 then Some path else None)

-- the number in the name of a command's end
abbrev pub number_in : List ℕ → Option ℕ
number_in name = if bytes_eq (take (length COMMAND_END.now) name) COMMAND_END.now then process_number (drop (length COMMAND_END.now) name) else None

-- the number in the path of a command's end, whatever its folder is
abbrev pub number_of_end : List ℕ → Option ℕ
number_of_end path = option_and_then number_in (name_in path)

-- the user whose command it is: the owner of the socket with that name
abbrev pub user_of_end : EndFile → Option ℕ
user_of_end (Socket owner) = Some owner
user_of_end Other = None
