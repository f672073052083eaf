-- Who is first, and whose turn it is.
use Rattle.std.specs.Prelude.{◌⊎◌, ℕ, ◌+◌, ◌≤◌, Bool, true, false, List, [], ◌∷◌, Option, Some, None, find, ◌≡◌, ◌≢◌}
use Rattle.std.specs.List.{list_any}
use Rattle.oftp_schedule.specs.declared.connection.Kind.TheVariants.{Queries, Sessions}
use Rattle.oftp_schedule.specs.declared.connection.Phase.{Phase}
use Rattle.oftp_schedule.specs.declared.connection.Choice.{Choice}
use Rattle.oftp_schedule.specs.declared.connection.Choice.TheVariants.{Start, Consult, Perform, Lend, Seek}
use Rattle.oftp_schedule.specs.declared.connection.Connection.{Connection}
use Rattle.oftp_schedule.specs.Rules.{is_between_phase, is_guest_phase, is_copying_phase, is_query_phase, is_update_phase, is_owed_phase, is_wanted_phase, is_connected_phase, in_phase}
use Rattle.oftp_schedule.specs.Machine.{State, Move, Tell, Ask, choice, step, run}

-- the number of the first in such a phase
abbrev pub number_of : Option Connection → Option ℕ
number_of None = None
number_of (Some c) = Some c.id

abbrev pub first_in : (Phase → Bool) → State → Option ℕ
first_in t s = number_of (find (in_phase t) s.connections)

-- what came within the last session first, and else the first change
abbrev pub first_update : State → Option ℕ → Option ℕ
first_update s None = first_in is_update_phase s
first_update s (Some id) = Some id

-- A session is that of the first guest, or of a call, and begins if nothing is owed before it. A look-up, a change or a copy is the first.
abbrev pub IsFirst : State → Choice → Type 0
IsFirst s (Start id x) = (first_in is_owed_phase s ≡ None) × ((first_in is_guest_phase s ≡ Some id) ⊎ (first_in is_connected_phase s ≡ Some id))
IsFirst s (Consult id) = first_in is_query_phase s ≡ Some id
IsFirst s (Perform id) = first_update s (first_in is_owed_phase s) ≡ Some id
IsFirst s (Lend id) = first_update s (first_in is_owed_phase s) ≡ Some id
IsFirst s (Seek id c) = first_in is_wanted_phase s ≡ Some id
IsFirst s c = Unit {0}

-- 2. Turns

abbrev pub a_guest_waits : State → Bool
a_guest_waits s = list_any (in_phase is_guest_phase) s.connections

-- While a guest waits, a change that isn't owed begins only right after a session. Where there is neither a session nor a copy, a look-up doesn't
-- begin right after another. No call begins if the last session was a call's
abbrev pub IsTurn : State → Choice → Type 0
IsTurn s (Perform id) = a_guest_waits s ≡ true → (first_in is_owed_phase s ≡ Some id) ⊎ (s.last ≡ Sessions)
IsTurn s (Lend id) = a_guest_waits s ≡ true → (first_in is_owed_phase s ≡ Some id) ⊎ (s.last ≡ Sessions)
IsTurn s (Consult id) =
    a_guest_waits s ≡ true → list_any (in_phase is_between_phase) s.connections ≡ false → list_any (in_phase is_copying_phase) s.connections ≡ false → s.last ≢ Queries
IsTurn s (Seek id c) = a_guest_waits s ≡ true → s.guest_first ≡ false
IsTurn s c = Unit {0}

abbrev pub begins_update : Choice → Bool
begins_update (Perform id) = true
begins_update (Lend id) = true
begins_update c = false

abbrev pub begins_session : Choice → ℕ
begins_session (Start id x) = 1
begins_session c = 0

-- how many sessions begin in these moves
abbrev pub sessions_in : State → List Move → ℕ
sessions_in s [] = 0
sessions_in s (Ask ∷ ms) = begins_session (choice s) + sessions_in (step s Ask).0 ms
sessions_in s (Tell e ∷ ms) = sessions_in (step s (Tell e)).0 ms

-- a change begins in s, and another one after these moves, where a guest waits and nothing is owed: a session began between the two
abbrev pub IsRound : State → List Move → Type 0
IsRound s during =
    let t = run s (Ask ∷ during) in
    begins_update (choice s) ≡ true → begins_update (choice t) ≡ true → a_guest_waits t ≡ true → first_in is_owed_phase t ≡ None → 1 ≤ sessions_in (step s Ask).0 during
