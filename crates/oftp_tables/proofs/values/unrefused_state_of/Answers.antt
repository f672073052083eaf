use Rattle.std.proofs.Common.{◌∙◌, sym, ap, codes}
use Rattle.std.specs.Str.{bytes_eq}
use Rattle.oftp_register.specs.declared.entry.OutgoingState.TheVariants.{Waiting, Closing, Handed, Refused, Delivered, Returned}
use Rattle.oftp_tables.proofs.ReaderLemmas.{compared}
use Rattle.oftp_tables.proofs.values.unrefused_state_of.Goals as goal

pub returns-else-eq-5-clause-found : goal.returns-else-eq-5-clause-found
returns-else-eq-5-clause-found c Waiting other is = compared _ (codes "waiting") _ (codes "waiting") _ _ c.if-eq.false c.eq.ensures c.as_slice.ensures is
returns-else-eq-5-clause-found c Closing other is = compared _ (codes "closing") _ (codes "closing") _ _ c.if-eq-2.false c.eq-else-eq.ensures c.as_slice-else-eq.ensures is
returns-else-eq-5-clause-found c Handed other is = compared _ (codes "handed") _ (codes "handed") _ _ c.if-eq-3.false c.eq-else-eq-2.ensures c.as_slice-else-eq-2.ensures is
returns-else-eq-5-clause-found c (Refused reason) other is = sym other ∙ ap (λ t. bytes_eq t (codes "refused")) is
returns-else-eq-5-clause-found c Delivered other is = compared _ (codes "delivered") _ (codes "delivered") _ _ c.if-eq-4.false c.eq-else-eq-3.ensures c.as_slice-else-eq-3.ensures is
returns-else-eq-5-clause-found c Returned other is = compared _ (codes "returned") _ (codes "returned") _ _ c.if-eq-5.false c.eq-else-eq-4.ensures c.as_slice-else-eq-4.ensures is
