-- The arguments of commands, as they are declared to the parser, and what a parse of the words gives.
use Rattle.std.specs.Prelude.{ℕ, Bool, List, [], ◌∷◌, Option, None, Some, IsSome, codes, false, fold, if◌then◌else◌, is_some, not, option_map, true, unwrap_or, ◌&&◌, ◌||◌, ◌==◌, ◌≡◌, ◌≤◌, ◌<◌, ◌^◌}
use Rattle.std.specs.List.{list_all, list_any}
use Rattle.std.specs.Str.{bytes_eq}
use Rattle.std.specs.Str.Parse.{IsNumeral, digits_value, without_leading_plus}
use Rattle.clap.specs.Words.{App, Kinds, Row, Rule, Text, fault_of, first_of, found_of, matches_of, new_app, new_rule, one_of, rows_of, with_rule}
use Rattle.clap.specs.Walk.{is_empty}
use Rattle.clap.specs.declared.builder.ArgAction.{ArgAction}
use Rattle.clap.specs.declared.builder.ArgAction.TheVariants.{Set, SetTrue}
use Rattle.clap.specs.declared.builder.value_parser.ValueParser.{ValueParser}
use Rattle.clap.specs.declared.builder.value_parser.ValueParser.TheVariants.{Unsigned}
use Rattle.clap.specs.declared.parser.matches.ArgMatches.{ArgMatches}
use Rattle.oftp_command_line.specs.declared.line.arguments.TheConstants.{MOST_ADMISSION, MOST_CALLERS, MOST_DURATION, MOST_INTERVAL, MOST_JOBS, MOST_NO, MOST_PATIENCE, MOST_PORT, MOST_SESSION}

-- ---- the kinds of argument

-- a required word
abbrev pub word : Text → Rule
word id = record (new_rule id) { action = Some Set; required = true; value_names = 1 }

-- an optional word
abbrev pub last_word : Text → Rule
last_word id = record (new_rule id) { action = Some Set; value_names = 1 }

-- a required option with one value
abbrev pub needed : Text → Rule
needed id = record (word id) { long = Some id }

-- an optional option with one value
abbrev pub optional : Text → Rule
optional id = record (new_rule id) { long = Some id; action = Some Set; value_names = 1 }

-- an optional option without a value
abbrev pub flag : Text → Rule
flag id = record (optional id) { action = Some SetTrue }

-- an option with a default
abbrev pub defaulted : Text → Text → Rule
defaulted id value = record (optional id) { defaults = value ∷ [] }

-- the argument, restricted to numbers from low to high
abbrev pub numbered : ℕ → ℕ → Rule → Rule
numbered low high r = record r { parser = Some (Unsigned low high) }

-- the required option for the database
abbrev pub own_database : Rule
own_database = needed (codes "db")

-- the required option for the book
abbrev pub own_book : Rule
own_book = needed (codes "book")

-- the word for the number of an incoming file
abbrev pub file_number : Rule
file_number = numbered 1 MOST_NO (word (codes "no"))

-- the option for the port to listen on, with this default
abbrev pub own_port : Text → Rule
own_port port = numbered 1 MOST_PORT (defaulted (codes "port") port)

-- the option for the address to listen on
abbrev pub own_address : Rule
own_address = defaulted (codes "address") (codes "127.0.0.1")

-- the option for how many callers are served
abbrev pub callers : Text → Rule
callers id = numbered 1 MOST_CALLERS (defaulted id (codes "1"))

-- the option for the HTTP port; 0 is none
abbrev pub own_http_port : Rule
own_http_port = numbered 0 MOST_PORT (defaulted (codes "http-port") (codes "0"))

-- the option for another host name that HTTP requests may use
abbrev pub own_host : Rule
own_host = optional (codes "host")

-- the option for the interval in seconds between the calls of a partner that something waits for; 0 is never
abbrev pub own_interval : Rule
own_interval = numbered 0 MOST_INTERVAL (defaulted (codes "call-every") (codes "0"))

-- the option for the number of jobs after which a station ends; 0 is never
abbrev pub own_jobs : Rule
own_jobs = numbered 0 MOST_JOBS (defaulted (codes "jobs") (codes "0"))

-- the option for how many seconds a partner may be idle; 0 is no limit
abbrev pub own_patience : Rule
own_patience = numbered 0 MOST_PATIENCE (defaulted (codes "patience") (codes "300"))

-- the option for how many seconds a caller has to be admitted
abbrev pub own_admission : Rule
own_admission = numbered 1 MOST_ADMISSION (defaulted (codes "admission") (codes "30"))

-- the option for how many seconds a session may take
abbrev pub own_duration : Rule
own_duration = numbered 1 MOST_DURATION (defaulted (codes "longest") (codes "86400"))

-- the option for the file to which a session's commands are appended as text
abbrev pub own_trace : Rule
own_trace = optional (codes "trace")

-- the option for the file to which what happens is appended
abbrev pub own_events : Rule
own_events = optional (codes "events")

-- the option for the folder of a station's record
abbrev pub own_record : Rule
own_record = optional (codes "record")

-- the option for whether that is synced
abbrev pub own_record_sync : Rule
own_record_sync = defaulted (codes "record-sync") (codes "yes")

-- the option for the number of the session of a record
abbrev pub own_session : Rule
own_session = numbered 0 MOST_SESSION (optional (codes "session"))

-- the command with this name and these arguments
abbrev pub app_with : Text → List Rule → App
app_with name rules = fold with_rule (new_app name) rules

-- ---- what a parse of the words gives

-- the values that the parser found, each with its argument
abbrev pub values_in : ArgMatches → List Row
values_in matches = rows_of (found_of matches)

-- the rows, unless there is a fault
abbrev pub unless_any : Kinds → List Row → Option (List Row)
unless_any [] rows = Some rows
unless_any (kind ∷ kinds) rows = None

-- the values of a command's options and words, if the command accepts the words
unfoldable pub taken : App → List Text → Option (List Row)
taken a words = unless_any (fault_of a words) (matches_of a words)

-- the value of an argument that always has one; `HasValues` says that it is among the rows
abbrev pub given : Text → List Row → Text
given id rows = unwrap_or (first_of id rows) []

-- the value as a decimal number, which may begin with a plus
abbrev pub number : Text → List Row → ℕ
number id rows = digits_value 10 (without_leading_plus (given id rows))

-- the value, where there is one, as a decimal number, which may begin with a plus
abbrev pub optional_number : Text → List Row → Option ℕ
optional_number id rows = option_map (λ text. digits_value 10 (without_leading_plus text)) (first_of id rows)

-- whether an option without a value was given
abbrev pub has_flag : Text → List Row → Bool
has_flag id rows = bytes_eq (given id rows) (codes "true")

-- the value with this name
abbrev pub named : {X : Type 0} → List (Text × X) → Text → Option X
named [] text = None
named ((name, x) ∷ rest) text = if bytes_eq text name then Some x else named rest text

-- ---- the arguments that always have a value, and those that take numbers

-- the argument takes one value
abbrev pub is_set : Option ArgAction → Bool
is_set (Some Set) = true
is_set other = false

-- the argument takes one value, and is required or has a default
abbrev pub is_certain : Rule → Bool
is_certain r =
    (r.required || not (is_empty r.defaults)) && (is_set r.action && not (is_some r.range))

-- the parser takes numbers from low to high
abbrev pub is_range : ℕ → ℕ → Option ValueParser → Bool
is_range low high (Some (Unsigned least most)) = (least == low) && (most == high)
is_range low high other = false

-- the argument takes numbers from low to high
abbrev pub is_number : ℕ → ℕ → Rule → Bool
is_number low high r = is_range low high r.parser

-- the argument takes one number from low to high, and is required or has a default
abbrev pub is_certain_number : ℕ → ℕ → Rule → Bool
is_certain_number low high r = is_certain r && is_number low high r

-- exactly one argument has this id, and it has the property
abbrev pub has_alone : (Rule → Bool) → Text → List Rule → Bool
has_alone is_such id [] = false
has_alone is_such id (r ∷ rules) =
    if bytes_eq r.id id then is_such r && not (list_any (λ other. bytes_eq other.id id) rules)
    else has_alone is_such id rules

-- the parser doesn't use the id itself
abbrev pub is_own : Text → Bool
is_own id = not (is_empty id)
    && (not (bytes_eq id (codes "help")) && not (bytes_eq id (codes "version")))

-- an argument of the command with this id has the property, and no argument affects another
abbrev pub always_has : (Rule → Bool) → App → Text → Bool
always_has is_such a id = a.top.is_plain && (not a.top.subcommand_negates_reqs
    && (list_all (λ r. r.is_simple && r.is_free) a.top.rules
    && (is_own id && has_alone is_such id a.top.rules)))

-- the value of an argument is a number from low to high, and is read as it is written
pub record IsNumber (low high : ℕ) (id : Text) (rows : List Row) : Type 0 where
  pub text : one_of id rows ≡ Some (given id rows)
  pub digits : IsNumeral 10 (without_leading_plus (given id rows))
  pub fits : number id rows < 2 ^ 64
  pub least : low ≤ number id rows
  pub most : number id rows ≤ high

-- each argument that always has a value has one among the rows; if an argument takes numbers, a value that it has is one in its range
pub record HasValues (a : App) (rows : List Row) : Type 0 where
  pub texts : (id : Text) → always_has is_certain a id ≡ true → IsSome (first_of id rows)
  pub numbers : (low high : ℕ) (id : Text) → always_has (is_certain_number low high) a id ≡ true
      → IsNumber low high id rows
  pub optional : (low high : ℕ) (id : Text) → always_has (is_number low high) a id ≡ true → IsSome (first_of id rows) → IsNumber low high id rows
