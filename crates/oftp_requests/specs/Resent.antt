-- Which outgoing file can be submitted again, and as what.
use Rattle.std.specs.Prelude.{◌≡◌, List, ℕ, Option, Some, None, Result, Ok, Err}
use Rattle.oftp_engine.specs.declared.operating.Refusal.{Refusal}
use Rattle.oftp_engine.specs.declared.operating.Refusal.TheVariants.{State, Unknown}
use Rattle.oftp_engine.specs.declared.submitting.Submission.{Submission}
use Rattle.oftp_register.specs.declared.entries.OutgoingEntry.{OutgoingEntry}
use Rattle.oftp_register.specs.declared.entry.OutgoingState.{OutgoingState}
use Rattle.oftp_register.specs.declared.entry.OutgoingState.TheVariants.{Waiting, Closing, Handed, Refused, Delivered, Returned}

-- a file in this state, unless it is still to go to its partner
abbrev pub if_gone : OutgoingState → OutgoingEntry → Result OutgoingEntry Refusal
if_gone Waiting entry = Err State
if_gone Closing entry = Err State
if_gone Handed entry = Ok entry
if_gone (Refused reason) entry = Ok entry
if_gone Delivered entry = Ok entry
if_gone Returned entry = Ok entry

-- what is submitted again of what is found under a number, or the refusal
abbrev pub sent_again : Option OutgoingEntry → Result OutgoingEntry Refusal
sent_again None = Err Unknown
sent_again (Some entry) = if_gone entry.state entry

-- a submission has all of a file but its date and time, which are these, and its content, which is this one
pub record IsAgain (entry : OutgoingEntry) (day hour octets : List ℕ) (submission : Submission) : Type 0 where
  pub dataset : submission.dataset.now ≡ entry.identity.dataset
  pub date : submission.date.now ≡ day
  pub time : submission.time.now ≡ hour
  pub to : submission.to.now ≡ entry.identity.destination
  pub format : submission.format ≡ entry.format
  pub longest : submission.longest ≡ entry.longest
  pub description : submission.description.now ≡ entry.description
  pub content : submission.content.now ≡ octets
