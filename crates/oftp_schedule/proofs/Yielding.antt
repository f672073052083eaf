-- A call gives way only to a guest that has waited for its partner's pause. It does so only while nothing of that partner is there to hear.
use Rattle.std.proofs.Common.{max, nat_le, nat_lt, ◌≡◌, ◌≤◌, ℕ, ◌-◌, Bool, true, false, if◌then◌else◌, Some, find, refl, ap, sym, ◌∙◌, arith}
use Rattle.std.proofs.lemmas.Bool.Decides.{nat_tests}
use Rattle.oftp_schedule.specs.declared.connection.Door.{Door}
use Rattle.oftp_schedule.specs.declared.connection.Way.TheVariants.{Unanswered}
use Rattle.oftp_schedule.specs.declared.connection.Input.{Input}
use Rattle.oftp_schedule.specs.declared.connection.Input.TheVariants.{Awaited}
use Rattle.oftp_schedule.specs.declared.connection.Phase.{Phase}
use Rattle.oftp_schedule.specs.declared.connection.Phase.TheVariants.{Guest, Between, Copying, Dialing, Connected, Wanted}
use Rattle.oftp_schedule.specs.declared.connection.Reason.TheVariants.{TimedOut}
use Rattle.oftp_schedule.specs.declared.connection.Reply.TheVariants.{Redial, Yield, Leave}
use Rattle.oftp_schedule.specs.declared.connection.Choice.{Choice}
use Rattle.oftp_schedule.specs.declared.connection.Choice.TheVariants.{Settle}
use Rattle.oftp_schedule.specs.declared.connection.Call.{Call}
use Rattle.oftp_schedule.specs.declared.connection.Session.{Session}
use Rattle.oftp_schedule.specs.declared.connection.Limits.{Limits}
use Rattle.oftp_schedule.specs.declared.connection.Connection.{Connection}
use Rattle.oftp_schedule.specs.Rules.{is_awaited, once_less, late, is_between_phase, is_guest_phase, in_phase}
use Rattle.oftp_schedule.specs.Machine.{State, limits_now, choice, is_to_yield}
use Rattle.oftp_schedule.specs.Deadlines.{AreRivals, YieldsInTime}
use Rattle.oftp_schedule.proofs.Choices.{May, Settling, dismissal_holds, of_choice}

-- 1. Nothing else that is chosen is that a call gives way

abbrev yields : Choice → Bool
yields (Settle id (Yield p)) = true
yields c = false

abbrev IsElse : Choice → Type 0
IsElse c = yields c ≡ false

late_else : (id now : ℕ) (l : Limits) (d : Door) (p : Phase) → IsElse (Settle id (late now l d p))
late_else id now l d (Between x) = refl
late_else id now l d (Copying u) = refl
late_else id now l d (Dialing c u) = refl
late_else id now l d (Connected c u) = elim (nat_lt 0 c.times) as (λ b. IsElse (Settle id (if b then Redial (Wanted (once_less c)) else Leave TimedOut))) [ true ↦ refl | false ↦ refl ]
late_else id now l d p = refl

-- 2. When it does

abbrev HasRival : State → Type 0
HasRival s = (x : Session) × (c : Call) × (t : ℕ) × AreRivals s x c t × (c.partner.pause ≤ s.now - max x.begun t)

abbrev Yields : State → Choice → Type 0
Yields s c = yields c ≡ true → HasRival s

no_yield : (s : State) (c : Choice) → IsElse c → Yields s c
no_yield s c n y = let bad : true ≡ false = sym y ∙ n in cc

settling_yields : (s : State) → Settling (Yields s) s
settling_yields s = record {
  expires = λ c e. no_yield s (Settle c.id (late s.now (limits_now s) c.door c.phase)) (late_else c.id s.now (limits_now s) c.door c.phase);
  is_dismissed = λ st c e. dismissal_holds (λ r. Yields s (Settle c.id r)) s.now s.limits (λ y. cc) (λ y. cc) (λ y. cc) c.door c.phase;
  loses_asker = λ c e y. cc;
  loses_call = λ c e y. cc;
  gives_way = λ c g x k n t e f ex ew eg z y. rival c g x k n t e f ex ew eg z;
}
  where
    rival : (c g : Connection) (x : Session) (k : Call) (n t : ℕ) → find (in_phase is_between_phase) s.connections ≡ Some c → find (in_phase is_guest_phase) s.connections ≡ Some g
        → c.phase ≡ Between x → x.way ≡ Unanswered k n → g.phase ≡ Guest t → is_to_yield s.now x k t ≡ true → HasRival s
    rival c g x k n t e f ex ew eg z = by x.input refl z
      where
        by : (i : Input) → x.input ≡ i → (if is_awaited i then nat_le k.partner.pause (s.now - max x.begun t) else false) ≡ true → HasRival s
        by Awaited q z = (x, k, t, (c, g, n, e, f, ex, ew, q, eg), grind (arith, nat_tests, z))
        by i q z = cc

may_yield : (s : State) (c : Choice) → May s c → Yields s c
may_yield s (Settle id r) m = elim m [ ]
may_yield s c m = λ y. cc

choice_yields : (s : State) → Yields s (choice s)
choice_yields s = of_choice (Yields s) s (settling_yields s) (may_yield s)

pub yields_in_time : (s : State) → YieldsInTime s
yields_in_time s id p e = choice_yields s (ap yields e)
