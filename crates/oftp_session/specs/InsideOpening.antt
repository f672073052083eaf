-- The agreement of the code, as plain data. Only private functions cite it.
use Rattle.std.specs.Prelude.{Result, Ok, Err}
use Rattle.oftp_wire.specs.declared.reason.SessionReason.{SessionReason}
use Rattle.oftp_session.specs.declared.opening.Agreement.{Agreement as Lent}
use Rattle.oftp_session.specs.Opening.{Agreement}

-- an agreement, without the address of its partner
abbrev pub agreement_of : Lent → Agreement
agreement_of a = record { partner = a.partner.now; link = a.link }

-- a verdict on SSID, in the same way
abbrev pub shown : Result Lent SessionReason → Result Agreement SessionReason
shown (Ok a) = Ok (agreement_of a)
shown (Err reason) = Err reason
