-- What is chosen is the first of its kind.
use Rattle.std.proofs.Common.{◌≡◌, ◌∙◌, ℕ, Some, ap, inl, inr, ◌⊎◌}
use Rattle.oftp_schedule.specs.declared.connection.Request.TheVariants.{Update, Backup}
use Rattle.oftp_schedule.specs.declared.connection.Phase.{Phase}
use Rattle.oftp_schedule.specs.declared.connection.Phase.TheVariants.{Ready, Wanted}
use Rattle.oftp_schedule.specs.declared.connection.Choice.{Choice}
use Rattle.oftp_schedule.specs.declared.connection.Choice.TheVariants.{Start, Consult, Perform, Lend, Seek}
use Rattle.oftp_schedule.specs.declared.connection.Session.{Session}
use Rattle.oftp_schedule.specs.Rules.{is_guest_phase, is_query_phase, is_update_phase, is_owed_phase, is_wanted_phase, is_connected_phase}
use Rattle.oftp_schedule.specs.Machine.{State, choice}
use Rattle.oftp_schedule.specs.Order.{number_of, first_in, first_update, IsFirst}
use Rattle.oftp_schedule.proofs.Choices.{IsHead, IsNext, IsUpdate, IsGuests, IsCalls, May, whoever, head_number, of_choice}

updates_first : (s : State) (id : ℕ) (p : Phase) → IsUpdate s id p → first_update s (first_in is_owed_phase s) ≡ Some id
updates_first s id p u = by u.first
  where
    by : IsHead is_owed_phase s id p ⊎ IsNext s id p → first_update s (first_in is_owed_phase s) ≡ Some id
    by (inl h) = ap (first_update s) (head_number is_owed_phase s id p h)
    by (inr h) = ap (λ at. first_update s (number_of at)) h.none_owed ∙ head_number is_update_phase s id p h.first

begun_first : (s : State) (id : ℕ) (x : Session) → IsGuests s id x ⊎ IsCalls s id x → (first_in is_guest_phase s ≡ Some id) ⊎ (first_in is_connected_phase s ≡ Some id)
begun_first s id x (inl g) = inl (head_number is_guest_phase s id g.phase g.first)
begun_first s id x (inr g) = inr (head_number is_connected_phase s id g.phase g.first)

may_first : (s : State) (c : Choice) → May s c → IsFirst s c
may_first s (Start id x) m = (ap number_of m.1, begun_first s id x m.2)
may_first s (Consult id) m = let h = m.1 in head_number is_query_phase s id h.0 h.1
may_first s (Perform id) m = updates_first s id (Ready Update m.0) m.1
may_first s (Lend id) m = updates_first s id (Ready Backup m.0) m.1
may_first s (Seek id k) m = head_number is_wanted_phase s id (Wanted k) m.1
may_first s c m = tt

pub choice_first : (s : State) → IsFirst s (choice s)
choice_first s = of_choice (IsFirst s) s (whoever (IsFirst s) s (λ id r. tt)) (may_first s)
