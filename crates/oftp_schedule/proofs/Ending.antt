-- Once the station was told to end nothing new begins, and the end comes.
use Rattle.std.proofs.Common.{◌^◌, ◌≡◌, [], ◌∙◌, if◌then◌else◌, true, false, nat_lt, Option, Some, None, refl, ap, sym, cond}
use Rattle.oftp_schedule.specs.declared.connection.Choice.{Choice}
use Rattle.oftp_schedule.specs.declared.connection.Choice.TheVariants.{Nothing, Finish, Settle, Admit, Inspect, Start, Perform, Lend, Seek, Depart}
use Rattle.oftp_schedule.specs.declared.connection.Connection.{Connection}
use Rattle.oftp_schedule.specs.Rules.{connection_at}
use Rattle.oftp_schedule.specs.Machine.{State, is_ending, replied_at, or_else, finish, choice, welcomed, chosen, Move, step, Tell, Ask}
use Rattle.oftp_schedule.specs.Ends.{begins_anew, BeginsNothing, IsOver, Departs}
use Rattle.oftp_schedule.proofs.Still.{Rest}
use Rattle.oftp_schedule.proofs.Choices.{May, whoever, of_choice}
use Rattle.oftp_schedule.proofs.Events.{received_steady}

-- what begins anew is chosen only where the station goes on
may_anew : (s : State) (c : Choice) → is_ending s.course ≡ true → May s c → begins_anew c ≡ false
may_anew s (Admit d) h m = sym h ∙ m.0
may_anew s Inspect h m = sym h ∙ m.goes_on
may_anew s (Start id x) h m = sym h ∙ m.0.goes_on
may_anew s (Perform id) h m = sym h ∙ m.1.free.goes_on
may_anew s (Lend id) h m = sym h ∙ m.1.free.goes_on
may_anew s (Seek id k) h m = sym h ∙ m.0.goes_on
may_anew s c h m = refl

pub choice_anew : (s : State) → BeginsNothing s (choice s)
choice_anew s h = of_choice (λ c. begins_anew c ≡ false) s (whoever (λ c. begins_anew c ≡ false) s (λ id r. refl)) (λ c m. may_anew s c h m)

pub choice_over : (s : State) → IsOver s
choice_over s h = ap (λ b. cond b Nothing (or_else (finish s s.course) (Rest s))) h

-- the course never goes back
chosen_ending : (s : State) (c : Choice) → is_ending s.course ≡ true → is_ending (chosen s c).0.course ≡ true
chosen_ending s (Finish st) h = refl
chosen_ending s (Settle id r) h = by (connection_at id s.connections)
  where
    by : (at : Option Connection) → is_ending (replied_at s at (λ c. r)).0.course ≡ true
    by None = h
    by (Some c) = h
chosen_ending s (Admit d) h = elim (nat_lt s.next (2 ^ 63)) as (λ b. is_ending (if b then welcomed s d else (s, [])).0.course ≡ true) [ true ↦ h | false ↦ h ]
chosen_ending s (Depart st) h = refl
chosen_ending s c h = h

pub step_ending : (s : State) (m : Move) → is_ending s.course ≡ true → is_ending (step s m).0.course ≡ true
step_ending s (Tell e) h = (received_steady s e).ends h
step_ending s Ask h = chosen_ending s (choice s) h

-- everybody is gone, so the program ends
pub choice_departs : (s : State) → Departs s
choice_departs s = λ st hc hn hr. rw (hc, hn, hr) refl
