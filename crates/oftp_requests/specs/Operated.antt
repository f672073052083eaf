-- An operator's call that was carried out for a command.
use Rattle.std.specs.Prelude.{◌≡◌}
use Rattle.oftp_partners.specs.Book.{BookData}
use Rattle.oftp_register.specs.Offices.{View}
use Rattle.oftp_session.specs.Calls.{Makes}
use Rattle.oftp_engine.specs.Operating.{Deed, IsDeed}
use Rattle.oftp_engine.specs.declared.operating.Operator.{Operator}
use Rattle.oftp_outcomes.specs.Printed.{outcome_of}
use Rattle.oftp_outcomes.specs.declared.outcome.Outcome.{Outcome}
use Rattle.oftp_requests.specs.Verbs.{verb_of}

-- the call's deed is done: its change is made if it makes one, and the command ends as the deed was told
pub record IsCarriedOut (book : BookData) (call : Operator) (old new : View) (outcome : Outcome) : Type 0 where
  pub deed : Deed
  pub done : IsDeed book old.register call deed
  pub made : Makes deed.change old.register new.register
  pub told : outcome ≡ outcome_of (verb_of call) deed.told
