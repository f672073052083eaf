-- An office over a database, in the words of its users.
use Rattle.std.specs.Prelude.{ℕ}
use Rattle.sqlite.specs.Held.{state}
use Rattle.sqlite.specs.State.{State}
use Rattle.sqlite_trees.specs.declared.store.Store.{Ghosts}
use Rattle.oftp_vfile.specs.declared.limits.Limits.{Limits}
use Rattle.oftp_register.specs.Offices.{View}
use Rattle.oftp_store.specs.declared.office.SqlOffice.{SqlOffice}
use Rattle.oftp_store.specs.Views.{view_of}

-- the database in which it keeps its register
abbrev pub database_of : {S : Type 0} (g : Ghosts S) → SqlOffice S g → State
database_of g office = state g office.conn

-- its limits
abbrev pub limits_of : {S : Type 0} {g : Ghosts S} → SqlOffice S g → Limits
limits_of office = office.limits

-- the number of errors it returned, modulo 2^64
abbrev pub faults_of : {S : Type 0} {g : Ghosts S} → SqlOffice S g → ℕ
faults_of office = office.faults

-- its view
abbrev pub shown : {S : Type 0} (g : Ghosts S) → SqlOffice S g → View
shown g office = view_of office.limits office.faults (database_of g office)
