-- While a guest waits, a change comes only after a session, and a call only after a guest's.
use Rattle.std.proofs.Common.{◌||◌, inl, inr, ◌⊎◌, cond, nat_lt, ◌≡◌, ◌≢◌, ◌≤◌, ◌^◌, ◌∙◌, ℕ, zero, suc, Bool, true, false, if◌then◌else◌, List, [], ◌∷◌, Option, Some, None, find, refl, sym, arith}
use Rattle.std.specs.List.{list_any}
use Rattle.oftp_schedule.specs.declared.connection.Request.TheVariants.{Update, Backup}
use Rattle.oftp_schedule.specs.declared.connection.Phase.{Phase}
use Rattle.oftp_schedule.specs.declared.connection.Phase.TheVariants.{Ready}
use Rattle.oftp_schedule.specs.declared.connection.Kind.TheVariants.{Queries, Sessions}
use Rattle.oftp_schedule.specs.declared.connection.Choice.{Choice}
use Rattle.oftp_schedule.specs.declared.connection.Choice.TheVariants.{Settle, Admit, Start, Consult, Perform, Lend, Seek}
use Rattle.oftp_schedule.specs.declared.connection.Connection.{Connection}
use Rattle.oftp_schedule.specs.Rules.{is_between_phase, is_guest_phase, is_owed_phase, is_copying_phase, in_phase, connection_at}
use Rattle.oftp_schedule.specs.Machine.{State, replied_at, received, choice, welcomed, chosen, Move, Tell, Ask, step, run}
use Rattle.oftp_schedule.specs.Order.{first_in, a_guest_waits, IsTurn, begins_update, begins_session, sessions_in, IsRound}
use Rattle.oftp_schedule.proofs.Choices.{IsHead, NoneIn, LooksWithin, LooksOutside, IsNext, IsUpdate, May, whoever, head_number, of_choice}
use Rattle.oftp_schedule.proofs.Events.{received_steady}
use Rattle.oftp_schedule.proofs.Wakeups.{any_found}

-- 1. One choice

none_waits : (s : State) → NoneIn is_guest_phase s → a_guest_waits s ≡ true → ⊥
none_waits s e y = let h = any_found is_guest_phase s.connections y in let bad : Some h.0 ≡ None = sym h.1 ∙ e in cc

any_of : (t : Phase → Bool) (cs : List Connection) (c : Connection) → find (in_phase t) cs ≡ Some c → list_any (in_phase t) cs ≡ true
any_of t [] c e = cc
any_of t (d ∷ cs) c e = split (any_of t cs c) (t d.phase) e
  where
    split : (find (in_phase t) cs ≡ Some c → list_any (in_phase t) cs ≡ true) → (b : Bool) → cond b (Some d) (find (in_phase t) cs) ≡ Some c → (b || list_any (in_phase t) cs) ≡ true
    split again true e = refl
    split again false e = again e

abbrev ChangesInTurn : State → ℕ → Type 0
ChangesInTurn s id = a_guest_waits s ≡ true → (first_in is_owed_phase s ≡ Some id) ⊎ (s.last ≡ Sessions)

updates_turn : (s : State) (id : ℕ) (p : Phase) → IsUpdate s id p → ChangesInTurn s id
updates_turn s id p u y = by u.first
  where
    next : NoneIn is_guest_phase s ⊎ (s.last ≡ Sessions) → (first_in is_owed_phase s ≡ Some id) ⊎ (s.last ≡ Sessions)
    next (inl none) = absurd (none_waits s none y)
    next (inr e) = inr e

    by : IsHead is_owed_phase s id p ⊎ IsNext s id p → (first_in is_owed_phase s ≡ Some id) ⊎ (s.last ≡ Sessions)
    by (inl h) = inl (head_number is_owed_phase s id p h)
    by (inr h) = next h.turn

looks_turn : (s : State) → LooksWithin s ⊎ LooksOutside s
    → a_guest_waits s ≡ true → list_any (in_phase is_between_phase) s.connections ≡ false → list_any (in_phase is_copying_phase) s.connections ≡ false → s.last ≢ Queries
looks_turn s (inl l) y n m = let bad : true ≡ false = sym (any_of is_between_phase s.connections l.one l.one_is) ∙ n in cc
looks_turn s (inr l) y n m = by (l.turn m)
  where
    by : NoneIn is_guest_phase s ⊎ (s.last ≢ Queries) → s.last ≢ Queries
    by (inl none) = absurd (none_waits s none y)
    by (inr ne) = ne

may_turn : (s : State) (c : Choice) → May s c → IsTurn s c
may_turn s (Consult id) m = looks_turn s m.2
may_turn s (Perform id) m = updates_turn s id (Ready Update m.0) m.1
may_turn s (Lend id) m = updates_turn s id (Ready Backup m.0) m.1
-- nobody is called while a guest waits, after the session of a call
may_turn s (Seek id k) m = m.0.turn
may_turn s c m = tt

pub choice_turn : (s : State) → IsTurn s (choice s)
choice_turn s = of_choice (IsTurn s) s (whoever (IsTurn s) s (λ id r. tt)) (may_turn s)

-- 2. Between two changes

-- the last job is no session unless one begins
chosen_last : (s : State) (c : Choice) → begins_session c ≡ 0 → s.last ≢ Sessions → (chosen s c).0.last ≢ Sessions
chosen_last s (Settle id r) z n = by (connection_at id s.connections)
  where
    by : (at : Option Connection) → (replied_at s at (λ c. r)).0.last ≢ Sessions
    by None = n
    by (Some c) = n
chosen_last s (Admit d) z n = elim (nat_lt s.next (2 ^ 63)) as (λ b. (if b then welcomed s d else (s, [])).0.last ≢ Sessions) [ true ↦ n | false ↦ n ]
chosen_last s (Start id x) z n = cc
chosen_last s (Consult id) z n = λ e. cc
chosen_last s (Perform id) z n = λ e. cc
chosen_last s (Lend id) z n = λ e. cc
chosen_last s c z n = n

after_update : (s : State) (c : Choice) → begins_update c ≡ true → (chosen s c).0.last ≢ Sessions
after_update s (Perform id) h = λ e. cc
after_update s (Lend id) h = λ e. cc
after_update s c h = cc

last_stays : (s : State) (ms : List Move) → sessions_in s ms ≡ 0 → s.last ≢ Sessions → (run s ms).last ≢ Sessions
last_stays s [] z n = n
last_stays s (Tell e ∷ ms) z n = last_stays (received s e).0 ms z (λ q. n (sym (received_steady s e).last_is ∙ q))
last_stays s (Ask ∷ ms) z n =
    let first : begins_session (choice s) ≡ 0 = omega (arith, z) in
    let rest : sessions_in (step s Ask).0 ms ≡ 0 = omega (arith, z) in
    last_stays (step s Ask).0 ms rest (chosen_last s (choice s) first n)

not_owed : (s : State) (id : ℕ) → first_in is_owed_phase s ≡ None → (first_in is_owed_phase s ≡ Some id) ⊎ (s.last ≡ Sessions) → s.last ≡ Sessions
not_owed s id o (inl e) = let bad : Some id ≡ None = sym e ∙ o in cc
not_owed s id o (inr e) = e

right_after : (s : State) (c : Choice) → IsTurn s c → begins_update c ≡ true → a_guest_waits s ≡ true → first_in is_owed_phase s ≡ None → s.last ≡ Sessions
right_after s (Perform id) h u y o = not_owed s id o (h y)
right_after s (Lend id) h u y o = not_owed s id o (h y)
right_after s c h u y o = cc

pub is_round : (s : State) (during : List Move) → IsRound s during
is_round s during first second y o = by (sessions_in (step s Ask).0 during) refl
  where
    by : (k : ℕ) → sessions_in (step s Ask).0 during ≡ k → 1 ≤ k
    by zero e =
        let t = run s (Ask ∷ during) in
        absurd (last_stays (step s Ask).0 during e (after_update s (choice s) first) (right_after t (choice t) (choice_turn t) second y o))
    by (suc k) e = omega arith
