-- What a life has done, the last first.
use Rattle.std.specs.Prelude.{ℕ, List}
use Rattle.oftp_partners.specs.Book.{BookData}
use Rattle.oftp_session.specs.Settings.{Setting}
use Rattle.oftp_engine.specs.declared.operating.Operator.{Operator}

-- a session of this setting, with the octets that it heard and those that it said; or an operator's call, by this book
pub data Act : Type 0 where
  Conversed : (setting : Setting) (heard said : List ℕ) → Act
  Ordered : (book : BookData) (call : Operator) → Act
