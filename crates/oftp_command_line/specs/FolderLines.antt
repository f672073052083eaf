-- The command lines of `collect` and `offer`, which work on a folder of files.
use Rattle.std.specs.Prelude.{ℕ, Bool, List, [], ◌∷◌, Option, codes, option_map}
use Rattle.clap.specs.Words.{App, Row, Text, first_of}
use Rattle.oftp_vfile.specs.declared.format.Format.{Format}
use Rattle.oftp_command_line.specs.Arguments.{app_with, defaulted, flag, given, has_flag, needed, number, numbered, optional, own_book, own_database, own_events, own_record}
use Rattle.oftp_command_line.specs.Files.{FilesSaid, files_said, files_with}
use Rattle.oftp_command_line.specs.OperatorLines.{format_of}
use Rattle.oftp_command_line.specs.declared.line.commands.folders.Collect.{Collect}
use Rattle.oftp_command_line.specs.declared.line.commands.folders.Offer.{Offer}
use Rattle.oftp_command_line.specs.declared.line.arguments.TheConstants.{MOST_LONGEST}

-- the options of `collect`
pub record CollectSaid : Type 0 where
  pub files : FilesSaid
  pub folder : Text
  pub from : Option Text
  pub dataset : Option Text
  pub releases : Bool

-- those of the command that was read
abbrev pub collect_said : Collect → CollectSaid
collect_said c = record {
  files = files_said c.files;
  folder = c.folder.now;
  from = option_map (λ s. s.now) c.from;
  dataset = option_map (λ s. s.now) c.dataset;
  releases = c.releases;
}

-- the declaration of `collect` to the parser
unfoldable pub collect_app : App
collect_app = app_with (codes "collect") (own_database ∷ own_book ∷ own_events ∷ own_record ∷ needed (codes "to") ∷ optional (codes "from")
    ∷ optional (codes "dataset") ∷ flag (codes "release") ∷ [])

-- the command `collect` with these values
abbrev pub collect_with : List Row → CollectSaid
collect_with rows = record {
  files = files_with rows;
  folder = given (codes "to") rows;
  from = first_of (codes "from") rows;
  dataset = first_of (codes "dataset") rows;
  releases = has_flag (codes "release") rows;
}

-- the options of `offer`
pub record OfferSaid : Type 0 where
  pub files : FilesSaid
  pub to : Text
  pub folder : Text
  pub dataset : Option Text
  pub description : Text
  pub describes : Bool
  pub format : Format
  pub longest : ℕ

-- those of the command that was read
abbrev pub offer_said : Offer → OfferSaid
offer_said o = record {
  files = files_said o.files;
  to = o.to.now;
  folder = o.folder.now;
  dataset = option_map (λ s. s.now) o.dataset;
  description = o.description.now;
  describes = o.describes;
  format = o.format;
  longest = o.longest;
}

-- the declaration of `offer` to the parser
unfoldable pub offer_app : App
offer_app = app_with (codes "offer") (own_database ∷ own_book ∷ own_events ∷ own_record ∷ needed (codes "to") ∷ needed (codes "from")
    ∷ optional (codes "dataset") ∷ defaulted (codes "description") [] ∷ flag (codes "describe")
    ∷ defaulted (codes "format") (codes "U") ∷ numbered 0 MOST_LONGEST (defaulted (codes "longest") (codes "0")) ∷ [])

-- the command `offer` with these values, in a format
abbrev pub offer_with : Format → List Row → OfferSaid
offer_with format rows = record {
  files = files_with rows;
  to = given (codes "to") rows;
  folder = given (codes "from") rows;
  dataset = first_of (codes "dataset") rows;
  description = given (codes "description") rows;
  describes = has_flag (codes "describe") rows;
  format = format;
  longest = number (codes "longest") rows;
}

-- the command `offer` with these values; `None` if they name no format
abbrev pub offer_in : List Row → Option OfferSaid
offer_in rows = option_map (λ format. offer_with format rows) (format_of (given (codes "format") rows))
