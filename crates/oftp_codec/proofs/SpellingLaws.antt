-- The properties of Spelling.
use Rattle.std.proofs.Common.{◌≡◌, ℕ, List, Option, Some, None, Result, Ok, Err, refl, sym, ap, ◌∙◌}
use Rattle.std.specs.Prelude.{◌↔◌}
use Rattle.oftp_wire.specs.declared.fault.WireFault.{WireFault}
use Rattle.oftp_wire.specs.declared.command.Command.{Command}
use Rattle.oftp_codec.specs.Row.{EachFits, IsSpelled, canon_of}
use Rattle.oftp_codec.specs.Spelling.{Spells, IsFit, Canon, Fault}
use Rattle.oftp_codec.proofs.Spelled.{canon_spelled}
use Rattle.oftp_codec.proofs.Again.{by_table}
use Rattle.oftp_codec.specs.Kinds.{command_of}
use Rattle.oftp_codec.proofs.Exact.{none_some}
use Rattle.oftp_codec.proofs.Whole.{exact_at, command_again}

-- the canonical octets of a command encode it
pub canon_spells : (x : Command) → IsFit x → Spells x (Canon x)
canon_spells =
    by_table (λ F G. F (λ S t s. EachFits t.rows s) → F (λ S t s. IsSpelled t s (G (λ S t s. canon_of t.rows s)))) (λ S t s. canon_spelled t s)

-- a command as a result
abbrev done : Command → Result Command WireFault
done x = Ok x

-- equal results have equal commands
done_is : (x y : Command) → done x ≡ done y → x ≡ y
done_is x y e = cc

-- no octets encode two commands
pub one_command : (x y : Command) (o : List ℕ) → Spells x o → Spells y o → x ≡ y
one_command x y o h k = done_is x y (sym (command_again x o h) ∙ command_again y o k)

-- an encoding has no error
pub spells_free : (x : Command) (o : List ℕ) → Spells x o → Fault o ≡ None
spells_free x o h = (exact_at (Ok x) o (command_again x o h)).0

-- a command is read from its encoding
pub reads_spelled : (x : Command) (o : List ℕ) → (command_of o ≡ Ok x) ↔ Spells x o
reads_spelled x o = (λ e. (exact_at (Ok x) o e).1, command_again x o)

-- equal errors
some_is : (e f : WireFault) → ◌≡◌ {A = Option WireFault} (Some e) (Some f) → e ≡ f
some_is e f h = cc

-- if there is an error, it is returned
refused_by : (r : Result Command WireFault) (o : List ℕ) (e : WireFault) → command_of o ≡ r → Fault o ≡ Some e → command_of o ≡ Err e
refused_by (Ok x) o e h k = absurd (none_some e (sym (exact_at (Ok x) o h).0 ∙ k))
refused_by (Err f) o e h k = h ∙ ap Err (some_is f e (sym (exact_at (Err f) o h).0 ∙ k))

-- an error that is returned is the first of Spelling
pub refuses_fault : (e : WireFault) (o : List ℕ) → (command_of o ≡ Err e) ↔ (Fault o ≡ Some e)
refuses_fault e o = (λ h. (exact_at (Err e) o h).0, refused_by (command_of o) o e refl)
