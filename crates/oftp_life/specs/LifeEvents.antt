-- What a life leaves of its acts, as events of two stations.
use Rattle.std.specs.Prelude.{◌≡◌, ℕ, ◌≤◌, List, length, take, None, Ok}
use Rattle.oftp_register.specs.declared.change.Change.{Change}
use Rattle.oftp_register.specs.Register.{Register}
use Rattle.oftp_register.specs.Changes.{apply_all}
use Rattle.oftp_session.specs.Settings.{Setting}
use Rattle.oftp_engine.specs.declared.operating.Operator.{Operator}
use Rattle.oftp_engine.specs.Events.{IsOrdered, IsWithAnother}
use Rattle.oftp_engine.specs.Jobs.{Stop}
use Rattle.oftp_engine.specs.World.{World, Deals, Dealings, happens}
use Rattle.oftp_life.specs.Reaches.{CallMakes, SessionMakes, SessionStops}

-- the register after the first so many of these changes
pub record IsAfterSome (changes : List Change) (start left : Register) : Type 0 where
  pub count : ℕ
  pub most : count ≤ length changes
  pub replay : apply_all start (take count changes) ≡ Ok left

-- dealings with others than the other station leave this register at the one, and change nothing else
abbrev pub AreDealings : World → Register → Type 0
AreDealings w left = (dealings : Dealings) × (happens w (Deals dealings) ≡ record w { one = record w.one { start = left } })

-- What a life does is an event. Of a session with another partner than the other station, any number of its changes may be left. It is done,
-- or a crash or an error of the office cut it short. An operator's call leaves its change.
pub record ActsAreEvents : Type 0 where
  pub sessions : (w : World) (setting : Setting) (heard said : List ℕ) (changes : List Change) (after left : Register) → w.one.session ≡ None
      → IsWithAnother w.other.book.station.code setting heard → SessionMakes setting heard said w.one.start changes after → IsAfterSome changes w.one.start left
      → AreDealings w left
  pub cut : (w : World) (setting : Setting) (heard said : List ℕ) (stop : Stop) (left : Register) → w.one.session ≡ None
      → IsWithAnother w.other.book.station.code setting heard → SessionStops setting heard said w.one.start stop → IsAfterSome stop.changes w.one.start left
      → AreDealings w left
  pub calls : (w : World) (call : Operator) (changes : List Change) (after : Register) → w.one.session ≡ None → CallMakes w.one.book call w.one.start changes after
      → IsOrdered w call after
