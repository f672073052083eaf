-- What holds of the phase that a reply gives, and of the table that it edits.
use Rattle.std.proofs.Common.{◌^◌, [], ◌∷◌, ◌++◌, if◌then◌else◌, ℕ, true, false, nat_lt, List, map, filter}
use Rattle.oftp_schedule.specs.declared.connection.Door.TheVariants.{Calls}
use Rattle.oftp_schedule.specs.declared.connection.Asker.TheVariants.{By}
use Rattle.oftp_schedule.specs.declared.connection.Phase.{Phase}
use Rattle.oftp_schedule.specs.declared.connection.Phase.TheVariants.{Calling, Wanted}
use Rattle.oftp_schedule.specs.declared.connection.Reason.TheVariants.{Stopping}
use Rattle.oftp_schedule.specs.declared.connection.Reply.{Reply}
use Rattle.oftp_schedule.specs.declared.connection.Reply.TheVariants.{Stay, Become, Queue, Want, Respond, Refuse, Connect, Redial, Yield, Farewell, Leave, Break}
use Rattle.oftp_schedule.specs.declared.connection.Partner.{Partner}
use Rattle.oftp_schedule.specs.declared.connection.Connection.{Connection}
use Rattle.oftp_schedule.specs.Rules.{is_other, became}
use Rattle.oftp_schedule.specs.Machine.{State, new_call, at_door, edited, in_numbers}

-- K holds of the phase that a reply gives its connection
abbrev pub ReplyHolds : (Phase → Type 0) → Reply → Type 0
ReplyHolds K Stay = Unit {0}
ReplyHolds K (Become q) = K q
ReplyHolds K (Queue q) = K q
ReplyHolds K (Want n) = Unit {0}
ReplyHolds K (Respond q) = K q
ReplyHolds K (Refuse q why) = K q
ReplyHolds K (Connect q) = K q
ReplyHolds K (Redial q) = K q
ReplyHolds K (Yield q) = K q
ReplyHolds K (Farewell q) = K q
ReplyHolds K (Leave why) = Unit {0}
ReplyHolds K (Break why) = Unit {0}

pub numbers_hold : (K : Phase → Type 0) (next : ℕ) (r : Reply) → ReplyHolds K r → ReplyHolds K (in_numbers next r)
numbers_hold K next (Want n) k = elim (nat_lt next (2 ^ 63)) as (λ b. ReplyHolds K (if b then Want n else Leave Stopping)) [ true ↦ tt | false ↦ tt ]
numbers_hold K next r k = k

-- what holds of the table after each edit holds after a reply
pub edit_holds : (P : List Connection → Type 0) (K : Phase → Type 0) (s : State) (c : Connection) → P s.connections → ((q : Phase) → K q → P (map (became c.id q) s.connections))
    → ((q : Phase) → K q → P (filter (is_other c.id) s.connections ++ at_door c.id c.door q ∷ []))
    → ((n : Partner) → P (map (became c.id (Calling s.next)) s.connections ++ at_door s.next Calls (Wanted (new_call s.limits n (By c.id))) ∷ []))
    → P (filter (is_other c.id) s.connections) → (r : Reply) → ReplyHolds K r → P (edited s c r)
edit_holds P K s c same set move want out Stay k = same
edit_holds P K s c same set move want out (Become q) k = set q k
edit_holds P K s c same set move want out (Queue q) k = move q k
edit_holds P K s c same set move want out (Want n) k = want n
edit_holds P K s c same set move want out (Respond q) k = set q k
edit_holds P K s c same set move want out (Refuse q why) k = set q k
edit_holds P K s c same set move want out (Connect q) k = set q k
edit_holds P K s c same set move want out (Redial q) k = set q k
edit_holds P K s c same set move want out (Yield q) k = move q k
edit_holds P K s c same set move want out (Farewell q) k = set q k
edit_holds P K s c same set move want out (Leave why) k = out
edit_holds P K s c same set move want out (Break why) k = out

-- a reply of which nothing is asked
pub any_reply : (r : Reply) → ReplyHolds (λ q. Unit {0}) r
any_reply Stay = tt
any_reply r = tt
