-- The events of two stations are what the calls do: an operator's call, what a crash leaves of a session, and sessions with third partners.
use Rattle.std.specs.Prelude.{◌≡◌, ◌≢◌, ℕ, ◌<◌, ◌≤◌, All, List, length, Option, None, Some, Ok}
use Rattle.std.specs.List.{AllByRecursion}
use Rattle.oftp_wire.specs.declared.command.Command.TheVariants as command
use Rattle.oftp_wire.specs.declared.command.Ssid.{Ssid}
use Rattle.oftp_codec.specs.declared.frame_fault.FrameFault.{FrameFault}
use Rattle.oftp_codec.specs.Kinds.{command_of}
use Rattle.oftp_codec.specs.Stream.{Reads}
use Rattle.oftp_register.specs.declared.change.Change.{Change}
use Rattle.oftp_register.specs.Register.{Register}
use Rattle.oftp_session.specs.Calls.{Makes}
use Rattle.oftp_session.specs.Opening.{Agreement, ssid_verdict}
use Rattle.oftp_session.specs.Settings.{Setting}
use Rattle.oftp_session.specs.Phases.{Step}
use Rattle.oftp_engine.specs.declared.operating.Operator.{Operator}
use Rattle.oftp_codec.specs.declared.limits.TheConstants.{LONGEST_FRAME}
use Rattle.oftp_engine.specs.Operating.{Deed, IsDeed}
use Rattle.oftp_engine.specs.Parts.{SessionData, course_of}
use Rattle.oftp_engine.specs.Runs.{Course, advance, answered, octets_of}
use Rattle.oftp_engine.specs.Served.{IsPrefix}
use Rattle.oftp_engine.specs.World.{World, Doing, Deals, Order, Orders, Stops, StopsInStep, FailsInStep, Dealings, happens, register_of, step_of}

-- an operator's call at a station that has no session leaves this register there, and changes nothing else
pub record IsOrdered (w : World) (call : Operator) (after : Register) : Type 0 where
  pub order : Order
  pub same : order.call ≡ call
  pub does : happens w (Orders order) ≡ record w { one = record w.one { start = after } }

-- what an operator's call does, to any partner of the book, is an event, which leaves the register that `operate` leaves
abbrev pub DeedsAreOrders : Type 0
DeedsAreOrders = (w : World) (call : Operator) (deed : Deed) (after : Register) → w.one.session ≡ None → IsDeed w.one.book w.one.start call deed
    → Makes deed.change w.one.start after → IsOrdered w call after

-- a register that a crash may leave after these changes, in the words of `serve`
abbrev pub MayBeLeft : List Change → Register → ℕ → ℕ → Register → Type 0
MayBeLeft changes start least made left = IsPrefix (λ (content r : Register). r ≡ content) changes start least made left

-- What `serve` says that a crash may leave, an event leaves. The crash is between two steps, or within one. If it is within a step, the
-- outputs before it and some octets of its own are out. The station crashes there or its office returns an error.
pub record StopsLeavePrefixes : Type 0 where
  pub between : (w : World) (c : Course) (made : ℕ) (left : Register) → w.one.session ≡ Some c
      → MayBeLeft c.changes w.one.start (answered c.outputs (length (octets_of c.outputs))) made left
      → (n : ℕ) × (register_of (happens w (Stops n)).one ≡ left)
  pub within : (w : World) (c : Course) (made : ℕ) (left : Register) (doing : Doing) (s : Step) (out : ℕ) → w.one.session ≡ Some c
      → step_of c doing w.one.coming ≡ Some s → length (octets_of c.outputs) ≤ out
      → MayBeLeft (advance c s).changes w.one.start (answered (advance c s).outputs out) made left
      → (n : ℕ) × (register_of (happens w (StopsInStep doing n)).one ≡ left) × (register_of (happens w (FailsInStep doing n)).one ≡ left)

-- a session with another partner than that of this code: it accepts no SSID with this code
pub record IsWithAnother (code : List ℕ) (setting : Setting) (stream : List ℕ) : Type 0 where
  pub octets : All (λ octet. octet < 256) stream
  pub commands : List (List ℕ)
  pub fault : Option FrameFault
  pub reads : Reads LONGEST_FRAME stream commands fault
  pub others : AllByRecursion (λ m. (ssid : Ssid) (a : Agreement) → command_of m ≡ Ok (command.Ssid ssid) → ssid_verdict setting ssid ≡ Ok a → ssid.code ≢ code) commands

-- `serve` says what a session with another partner than the other station may leave, at its end or at a crash. An event leaves that, and
-- changes nothing else. The station may call or be called, and its writer may return an error.
abbrev pub SessionsAreDealings : Type 0
SessionsAreDealings = (w : World) (session : SessionData) (least made : ℕ) (left : Register) → w.one.session ≡ None
    → IsWithAnother w.other.book.station.code session.setting session.stream → MayBeLeft (course_of session w.one.start).changes w.one.start least made left
    → (dealings : Dealings) × (happens w (Deals dealings) ≡ record w { one = record w.one { start = left } })
