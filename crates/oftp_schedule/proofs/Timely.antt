-- Nobody is closed, declined or made again for its time before that is over, and a call may hang up once less each time.
use Rattle.std.proofs.Common.{inl, inr, nat_lt, ◌≡◌, ℕ, Bool, true, false, if◌then◌else◌, Some, ap, refl, arith, ◌∙◌}
use Rattle.std.proofs.lemmas.Bool.Decides.{nat_tests}
use Rattle.oftp_schedule.specs.declared.connection.Door.{Door}
use Rattle.oftp_schedule.specs.declared.connection.Way.TheVariants.{Unanswered}
use Rattle.oftp_schedule.specs.declared.connection.Phase.{Phase}
use Rattle.oftp_schedule.specs.declared.connection.Phase.TheVariants.{Between, Copying, Wanted, Dialing, Connected}
use Rattle.oftp_schedule.specs.declared.connection.Reason.TheVariants.{TimedOut}
use Rattle.oftp_schedule.specs.declared.connection.Reply.TheVariants.{Redial, Yield, Leave, Break}
use Rattle.oftp_schedule.specs.declared.connection.Choice.TheVariants.{Settle}
use Rattle.oftp_schedule.specs.declared.connection.Call.{Call}
use Rattle.oftp_schedule.specs.declared.connection.Session.{Session}
use Rattle.oftp_schedule.specs.declared.connection.Limits.{Limits}
use Rattle.oftp_schedule.specs.declared.connection.Connection.{Connection}
use Rattle.oftp_schedule.specs.declared.connection.Choice.{Choice}
use Rattle.oftp_schedule.specs.Rules.{is_late, once_less, late, is_between_phase, in_phase, call_of, call_in, call_at, connection_at, phase_at}
use Rattle.oftp_schedule.specs.Machine.{State, limits_now, choice}
use Rattle.oftp_schedule.specs.Deadlines.{IsOfTime, IsOnceLess}
use Rattle.oftp_schedule.proofs.Places.{found_at, found}
use Rattle.oftp_schedule.proofs.Fitting.{IsDistinct}
use Rattle.oftp_schedule.proofs.Numbers.{passes}
use Rattle.oftp_schedule.proofs.Choices.{May, Settling, dismissal_holds, of_choice}

-- 1. Time

settling_timely : (s : State) → IsDistinct s → Settling (IsOfTime s) s
settling_timely s o = record {
  expires = λ c e y. inl (c, found_at (is_late s.now) s.next s.connections c e o, passes (is_late s.now) s.connections c e);
  is_dismissed = λ st c e. dismissal_holds (λ r. IsOfTime s (Settle c.id r)) s.now s.limits (λ y. cc) (λ y. cc) (λ y. cc) c.door c.phase;
  loses_asker = λ c e y. cc;
  loses_call = λ c e y. cc;
  gives_way = λ c g x k n t e f ex ew eg y. by_times c x k n ((found (in_phase is_between_phase) s.next s.connections c e o).0 ∙ ap Some ex) ew (nat_lt 0 k.times) refl;
}
  where
    -- a call that has no more times to give way is closed in their place
    by_times : (c : Connection) (x : Session) (k : Call) (n : ℕ) → phase_at c.id s.connections ≡ Some (Between x) → x.way ≡ Unanswered k n → (b : Bool) → nat_lt 0 k.times ≡ b
        → IsOfTime s (Settle c.id (if b then Yield (Wanted (once_less k)) else Break TimedOut))
    by_times c x k n there ew true e = λ y. cc
    by_times c x k n there ew false e = λ y. inr (x, k, n, there, ew, grind (arith, nat_tests, e))

may_timely : (s : State) (c : Choice) → May s c → IsOfTime s c
may_timely s (Settle id r) m = elim m [ ]
may_timely s c m = tt

pub choice_timely : (s : State) → IsDistinct s → IsOfTime s (choice s)
choice_timely s o = of_choice (IsOfTime s) s (settling_timely s o) (may_timely s)

-- 2. Hanging up

late_less : (s : State) (id : ℕ) (l : Limits) (d : Door) (p : Phase) → call_at (connection_at id s.connections) ≡ call_in p → IsOnceLess s (Settle id (late s.now l d p))
late_less s id l d (Between x) h = tt
late_less s id l d (Copying u) h = tt
late_less s id l d (Dialing c u) h = tt
late_less s id l d (Connected c u) h = by_times (nat_lt 0 c.times) refl
  where
    by_times : (b : Bool) → nat_lt 0 c.times ≡ b → IsOnceLess s (Settle id (if b then Redial (Wanted (once_less c)) else Leave TimedOut))
    by_times true e = (c, h, grind (arith, nat_tests, e), refl)
    by_times false e = tt
late_less s id l d p h = tt

settling_less : (s : State) → IsDistinct s → Settling (IsOnceLess s) s
settling_less s o = record {
  expires = λ c e. late_less s c.id (limits_now s) c.door c.phase (ap call_at (found_at (is_late s.now) s.next s.connections c e o));
  is_dismissed = λ st c e. dismissal_holds (λ r. IsOnceLess s (Settle c.id r)) s.now s.limits tt tt tt c.door c.phase;
  loses_asker = λ c e. tt;
  loses_call = λ c e. tt;
  gives_way = λ c g x k n t e f ex ew eg y. by_times c.id k
      (ap call_at (found_at (in_phase is_between_phase) s.next s.connections c e o) ∙ ap call_in ex ∙ ap call_of ew) (nat_lt 0 k.times) refl;
}
  where
    by_times : (id : ℕ) (k : Call) → call_at (connection_at id s.connections) ≡ Some k → (b : Bool) → nat_lt 0 k.times ≡ b
        → IsOnceLess s (Settle id (if b then Yield (Wanted (once_less k)) else Break TimedOut))
    by_times id k h true e = (k, h, grind (arith, nat_tests, e), refl)
    by_times id k h false e = tt

may_less : (s : State) (c : Choice) → May s c → IsOnceLess s c
may_less s (Settle id r) m = elim m [ ]
may_less s c m = tt

pub choice_less : (s : State) → IsDistinct s → IsOnceLess s (choice s)
choice_less s o = of_choice (IsOnceLess s) s (settling_less s o) (may_less s)
