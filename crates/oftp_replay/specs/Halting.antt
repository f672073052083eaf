-- An office that stops at a register.
use Rattle.std.specs.Prelude.{◌≡◌, ◌⊎◌, ℕ, List, Option, None, Some}
use Rattle.oftp_register.specs.Offices.{View}
use Rattle.oftp_replay.specs.declared.halting.Way.{Way}
use Rattle.oftp_replay.specs.declared.halting.Way.TheVariants.{Closed, Open, UpTo}

-- how far changes are made from now on, up to a register if there is one: once one was refused, none
abbrev pub up_to : Option (List ℕ) → Way → Way
up_to None way = way
up_to (Some register) Open = UpTo register
up_to (Some register) (UpTo before) = UpTo register
up_to (Some register) Closed = Closed

-- how far they are made once one is wanted at the register `now`: it is refused if that is the one up to which they are made
abbrev pub IsBehind : (now : List ℕ) → Way → Way → Type 0
IsBehind now Open after = after ≡ Open
IsBehind now (UpTo register) after = ((register ≡ now) × (after ≡ Closed)) ⊎ (¬ (register ≡ now) × (after ≡ UpTo register))
IsBehind now Closed after = after ≡ Closed

-- the office that it uses, as contracts see it, but with a count of errors of its own
abbrev pub counted : View → ℕ → View
counted v told = record {
  register = v.register;
  told = told;
  clean = v.clean;
  is_open = v.is_open;
  stands = v.stands;
  opens = v.opens;
  Content = v.Content;
  may_leave = v.may_leave;
  holds = v.holds;
}
