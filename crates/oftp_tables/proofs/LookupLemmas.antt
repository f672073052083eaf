-- What look-ups do to a connection over the office's tables.
use Rattle.std.proofs.Common.{Result, Ok, Err, IfErr}
use Rattle.sqlite.specs.State.{State}
use Rattle.oftp_register.specs.declared.office.OfficeFault.{OfficeFault}
use Rattle.oftp_register.specs.Offices.{IsFailure}
use Rattle.oftp_tables.specs.Schema.{office_schema}
use Rattle.oftp_tables.specs.Transactions.{IsQuery}
use Rattle.oftp_tables.proofs.ConnectionLemmas.{on_err, on_ok}
use Rattle.std.proofs.Common.{inl}
use Rattle.oftp_tables.specs.Statements.{Looks}

-- a query of the office's tables is a look-up
pub looks_of : {T : Type 0} (old new : State) (result : Result T OfficeFault) → IsQuery office_schema old new result → IfErr result IsFailure → Looks old new result
looks_of old new result query unrefused = record { clean = query.clean; mode = query.mode; same = query.same; failed = query.failed; left = query.left; unrefused = unrefused }

-- what is made of the rows that a query returned
pub looks_then : {A B : Type 0} (old new : State) (rows : A) (result : Result B OfficeFault) → Looks old new (Ok rows) → IfErr result IsFailure → Looks old new result
looks_then old new rows result looks unrefused = record {
  clean = looks.clean;
  mode = looks.mode;
  same = λ k has. on_ok result _ (looks.same k has);
  failed = λ k has. on_err result _ (inl (looks.same k has));
  left = looks.left;
  unrefused = unrefused;
}

pub looks_as : {A B : Type 0} (old new : State) (fault : OfficeFault) → Looks {T = A} old new (Err fault) → Looks {T = B} old new (Err fault)
looks_as old new fault looks = record { clean = looks.clean; mode = looks.mode; same = λ k has. tt; failed = looks.failed; left = looks.left; unrefused = looks.unrefused }
