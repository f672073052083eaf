-- What an SQL text means, by one reading of it.
use Rattle.std.proofs.Common.{◌≡◌, ℕ, List, [], None, Result, Ok, Err}
use Rattle.sqlite.specs.Command.{Command}
use Rattle.sqlite.specs.State.{text_of}
use Rattle.sqlite.proofs.Callers.{IsPlain, command_of, statement_of}
use Rattle.sqlite_resolve.specs.declared.compiled.Compiled.{Compiled}
use Rattle.sqlite_resolve.specs.declared.error.CompileError.{CompileError}

-- the text is this command as a whole, and plain
pub record IsRead (sql : List ℕ) (command : Command) (r : Result Compiled CompileError) : Type 0 where
  pub command_is : command_of r ≡ command
  pub plain : IsPlain r
  pub whole : statement_of sql r ≡ sql

-- the same of what was read, so that one reading shows it
abbrev pub Reads : List ℕ → Command → Result Compiled CompileError → Type 0
Reads sql command (Ok c) = (c.command ≡ command) × (c.returning ≡ None) × (c.formats ≡ []) × (text_of sql c ≡ sql)
Reads sql command (Err e) = ⊥

pub is_read : (sql : List ℕ) (command : Command) (r : Result Compiled CompileError) → Reads sql command r → IsRead sql command r
is_read sql command (Ok c) h = record { command_is = h.0; plain = (h.1, h.2); whole = h.3 }
is_read sql command (Err e) h = absurd h
