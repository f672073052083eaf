-- The command lines of `submit`, `resend`, `release` and `refuse`, which are operator's calls.
use Rattle.std.specs.Prelude.{ℕ, List, [], ◌∷◌, Option, codes, option_map}
use Rattle.clap.specs.Words.{App, Row, Text, first_of}
use Rattle.oftp_vfile.specs.declared.format.Format.{Format}
use Rattle.oftp_vfile.specs.declared.format.Format.TheVariants as format
use Rattle.oftp_command_line.specs.Arguments.{app_with, defaulted, file_number, given, named, needed, number, numbered, optional, own_book, own_database, own_events, own_record, word}
use Rattle.oftp_command_line.specs.Files.{FilesSaid, files_said, files_with}
use Rattle.oftp_command_line.specs.declared.line.commands.operators.Refuse.{Refuse}
use Rattle.oftp_command_line.specs.declared.line.commands.operators.Release.{Release}
use Rattle.oftp_command_line.specs.declared.line.commands.operators.Resend.{Resend}
use Rattle.oftp_command_line.specs.declared.line.commands.operators.Submit.{Submit}
use Rattle.oftp_command_line.specs.declared.line.arguments.TheConstants.{MOST_LONGEST, MOST_REASON}

-- the options and words of `submit`
pub record SubmitSaid : Type 0 where
  pub files : FilesSaid
  pub dataset : Text
  pub date : Option Text
  pub time : Option Text
  pub to : Text
  pub format : Format
  pub longest : ℕ
  pub description : Text
  pub file : Text

-- those of the command that was read
abbrev pub submit_said : Submit → SubmitSaid
submit_said s = record {
  files = files_said s.files;
  dataset = s.dataset.now;
  date = option_map (λ d. d.now) s.date;
  time = option_map (λ t. t.now) s.time;
  to = s.to.now;
  format = s.format;
  longest = s.longest;
  description = s.description.now;
  file = s.file.now;
}

-- the declaration of `submit` to the parser
unfoldable pub submit_app : App
submit_app = app_with (codes "submit") (own_database ∷ own_book ∷ own_events ∷ own_record ∷ needed (codes "dataset") ∷ optional (codes "date")
    ∷ optional (codes "time") ∷ needed (codes "to") ∷ needed (codes "format")
    ∷ numbered 0 MOST_LONGEST (defaulted (codes "longest") (codes "0"))
    ∷ defaulted (codes "description") [] ∷ word (codes "file") ∷ [])

-- the format with this letter
abbrev pub format_of : Text → Option Format
format_of = named ((codes "F", format.Fixed) ∷ (codes "V", format.Variable)
    ∷ (codes "U", format.Unstructured) ∷ (codes "T", format.Text) ∷ [])

-- the command `submit` with these values, in a format
abbrev pub submit_with : Format → List Row → SubmitSaid
submit_with format rows = record {
  files = files_with rows;
  dataset = given (codes "dataset") rows;
  date = first_of (codes "date") rows;
  time = first_of (codes "time") rows;
  to = given (codes "to") rows;
  format = format;
  longest = number (codes "longest") rows;
  description = given (codes "description") rows;
  file = given (codes "file") rows;
}

-- the command `submit` with these values; `None` if they name no format
abbrev pub submit_in : List Row → Option SubmitSaid
submit_in rows = option_map (λ format. submit_with format rows) (format_of (given (codes "format") rows))

-- the options and words of `resend`
pub record ResendSaid : Type 0 where
  pub files : FilesSaid
  pub date : Option Text
  pub time : Option Text
  pub no : ℕ

-- those of the command that was read
abbrev pub resend_said : Resend → ResendSaid
resend_said r = record {
  files = files_said r.files;
  date = option_map (λ d. d.now) r.date;
  time = option_map (λ t. t.now) r.time;
  no = r.no;
}

-- the declaration of `resend` to the parser
unfoldable pub resend_app : App
resend_app = app_with (codes "resend") (own_database ∷ own_book ∷ own_events ∷ own_record ∷ optional (codes "date") ∷ optional (codes "time") ∷ file_number ∷ [])

-- the command `resend` with these values
abbrev pub resend_with : List Row → ResendSaid
resend_with rows = record {
  files = files_with rows;
  date = first_of (codes "date") rows;
  time = first_of (codes "time") rows;
  no = number (codes "no") rows;
}

-- the options and words of `release`
pub record ReleaseSaid : Type 0 where
  pub files : FilesSaid
  pub no : ℕ

-- those of the command that was read
abbrev pub release_said : Release → ReleaseSaid
release_said r = record { files = files_said r.files; no = r.no }

-- the declaration of `release` to the parser
unfoldable pub release_app : App
release_app = app_with (codes "release") (own_database ∷ own_book ∷ own_events ∷ own_record ∷ file_number ∷ [])

-- the command `release` with these values
abbrev pub release_with : List Row → ReleaseSaid
release_with rows = record { files = files_with rows; no = number (codes "no") rows }

-- the options and words of `refuse`
pub record RefuseSaid : Type 0 where
  pub files : FilesSaid
  pub no : ℕ
  pub reason : ℕ
  pub text : Text

-- those of the command that was read
abbrev pub refuse_said : Refuse → RefuseSaid
refuse_said r = record {
  files = files_said r.files;
  no = r.no;
  reason = r.reason;
  text = r.text.now;
}

-- the declaration of `refuse` to the parser
unfoldable pub refuse_app : App
refuse_app = app_with (codes "refuse") (own_database ∷ own_book ∷ own_events ∷ own_record ∷ file_number
    ∷ numbered 0 MOST_REASON (word (codes "reason")) ∷ word (codes "text") ∷ [])

-- the command `refuse` with these values
abbrev pub refuse_with : List Row → RefuseSaid
refuse_with rows = record {
  files = files_with rows;
  no = number (codes "no") rows;
  reason = number (codes "reason") rows;
  text = given (codes "text") rows;
}
