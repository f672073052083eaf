use Rattle.std.proofs.Common.{sym, subst, codes}
use Rattle.oftp_wire.specs.Octets.{IsDigits}
use Rattle.oftp_register.specs.declared.entry.OutgoingState.TheVariants.{Waiting, Closing, Handed, Refused, Delivered, Returned}
use Rattle.oftp_tables.proofs.ReaderLemmas.{compared, two_digits}
use Rattle.oftp_tables.proofs.values.outgoing_state_of.Goals as goal

pub returns-in-None-clause-found : goal.returns-in-None-clause-found
returns-in-None-clause-found c Waiting fits is next = sym (compared _ (codes "waiting") _ (codes "refused") _ _ c.if-eq.true c.eq.ensures c.as_slice.ensures is)
returns-in-None-clause-found c Closing fits is next = sym (compared _ (codes "closing") _ (codes "refused") _ _ c.if-eq.true c.eq.ensures c.as_slice.ensures is)
returns-in-None-clause-found c Handed fits is next = sym (compared _ (codes "handed") _ (codes "refused") _ _ c.if-eq.true c.eq.ensures c.as_slice.ensures is)
returns-in-None-clause-found c (Refused reason) fits is next = c.in-None.ensures.found (subst (IsDigits 2) (sym next) (two_digits reason))
returns-in-None-clause-found c Delivered fits is next = sym (compared _ (codes "delivered") _ (codes "refused") _ _ c.if-eq.true c.eq.ensures c.as_slice.ensures is)
returns-in-None-clause-found c Returned fits is next = sym (compared _ (codes "returned") _ (codes "refused") _ _ c.if-eq.true c.eq.ensures c.as_slice.ensures is)
