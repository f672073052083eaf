-- How the details of an entry are shown. Only private functions cite this.
use Rattle.std.specs.Prelude.{ℕ, List, codes, decimal, fold, if◌then◌else◌}
use Rattle.std.specs.Borrow.{Bor}
use Rattle.serde_json.specs.Data.{Data, Members, boolean, no_members, put, string}
use Rattle.oftp_listing.specs.Objects.{count}
use Rattle.oftp_listing.specs.declared.detail.Detail.{Detail}
use Rattle.oftp_listing.specs.declared.detail.Detail.TheVariants.{Text, Count, Flag}

-- the value in an object
abbrev pub data_of : Detail → Data
data_of (Text text) = string text.now
data_of (Count n) = count n
data_of (Flag flag) = boolean flag

-- the text in a line
abbrev pub text_of : Detail → List ℕ
text_of (Text text) = text.now
text_of (Count n) = decimal n
text_of (Flag flag) = if flag then codes "yes" else codes "no"

-- the members with one more
abbrev pub with_one : Members → Bor (List ℕ) × Detail → Members
with_one members one = put one.0.now (data_of one.1) members

-- the members of an object with these details at these keys
abbrev pub gathered : List (Bor (List ℕ) × Detail) → Members
gathered details = fold with_one no_members details
