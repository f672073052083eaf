-- Which databases an attempt to open one takes.
use Rattle.sqlite.specs.Effect.{Database}
use Rattle.oftp_store.specs.Opens.{Demand, IsMigratable, IsOpenable, to_migrate, to_open}
use Rattle.oftp_database.specs.declared.opening.Opening.{Opening}
use Rattle.oftp_database.specs.declared.opening.Opening.TheVariants.{Migrate, Open}

-- Where it is opened, one without a table or with the office's, never one of schema 1. Where it is migrated, one of schema 1 or 2.
abbrev pub Takes : Opening → Database → Type 0
Takes Open = IsOpenable
Takes Migrate = IsMigratable

-- what is demanded of it, and so what a refusal leaves
abbrev pub demanded : Opening → Demand
demanded Open = to_open
demanded Migrate = to_migrate
