-- Inside: which rows are a piece of a file, for the functions of src/content.rt.
use Rattle.std.specs.Prelude.{◌≡◌, ℕ, ◌+◌, ◌<◌, List, length}
use Rattle.oftp_register.specs.Soundness.{AreFullRows, IsFile}
use Rattle.oftp_register.specs.declared.entries.IncomingEntry.{IncomingEntry}

-- some rows of the file from one on; of a file only the last row may be short
pub record IsPiece (e : IncomingEntry) (from most : ℕ) (rows : List (List ℕ)) : Type 0 where
  pub count : length rows ≡ most
  pub file : IsFile e.format e.longest rows
  pub full : from + most < e.rows → AreFullRows e.format e.longest rows
