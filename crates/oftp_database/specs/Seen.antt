-- The office over a database that remembers numbers of octets, in the words of its users.
use Rattle.sqlite_trees.specs.declared.store.Store.{Ghosts}
use Rattle.oftp_register.specs.Offices.{View}
use Rattle.oftp_store.specs.Shown.{shown}
use Rattle.oftp_store.specs.declared.office.SqlOffice.{SqlOffice}
use Rattle.oftp_listing.specs.Remembering.{remembering}
use Rattle.oftp_listing.specs.declared.remembering.RememberingOffice.{RememberingOffice}

-- such an office, over any store
abbrev pub OfficeOver : {S : Type 0} → Ghosts S → Type 0
OfficeOver {S} g = RememberingOffice (SqlOffice S g)

-- its view: that of the office over the database, with what it remembers
abbrev pub seen_over : {S : Type 0} (g : Ghosts S) → OfficeOver g → View
seen_over g office = remembering office.counts (shown g office.office)
