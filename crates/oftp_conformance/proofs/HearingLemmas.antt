-- What is found in a command by its order.
use Rattle.std.proofs.Common.{◌≡◌, ◌∙◌, ◌++◌, ℕ, List, Some, Result, Ok, Err, OnOk, ap, sym}
use Rattle.std.specs.List.{flat_map}
use Rattle.oftp_wire.specs.declared.command.Command.{Command}
use Rattle.oftp_wire.specs.declared.fault.WireFault.{WireFault}
use Rattle.oftp_codec.specs.Kinds.{command_of}
use Rattle.oftp_telling.specs.declared.kind.CommandKind.{CommandKind}
use Rattle.oftp_telling.specs.declared.counting.Sender.{Sender}
use Rattle.oftp_telling.specs.Names.{Entry, sheet_of}
use Rattle.oftp_conformance.specs.declared.session.Session.{Session}
use Rattle.oftp_conformance.specs.Hearing.{order_found, order_findings, read}
use Rattle.oftp_conformance.specs.Orders.{order_rules}
use Rattle.oftp_conformance.specs.Places.{Found}

-- what holds where a call succeeds follows from what it ensures there
pub on_ok : {T E P Q : Type 0} (r : Result T E) → (P → Q) → OnOk r P → OnOk r Q
on_ok (Ok x) f p = f p
on_ok (Err e) f p = p

-- what is found of a command with these fields that could be read
pub found_read : (t : Session) (who : Sender) (k : CommandKind) (o : List ℕ) (c : Command) (fields : List Entry) (before after : List Found)
    → fields ≡ (sheet_of k o).entries → command_of o ≡ Ok c
    → after ≡ before ++ flat_map (order_found k fields) (order_rules t who k (Some c)) → after ≡ before ++ order_findings t who k o
found_read t who k o c fields before after seen is found = found
    ∙ (ap (λ (es : List Entry). before ++ flat_map (order_found k es) (order_rules t who k (Some c))) seen
    ∙ ap (λ (r : Result Command WireFault). before ++ flat_map (order_found k (sheet_of k o).entries) (order_rules t who k (read r))) (sym is))
