use Rattle.std.proofs.Common.{◌≡◌, [], drop, length}
use Rattle.toml.specs.View.{items_view}
use Rattle.oftp_partners.specs.Book.{partners_of, ArePartners}
use Rattle.oftp_partners.proofs.reading.partners_of.Given as goal

abbrev pub invariant-loop-value : goal.invariant-loop-value
invariant-loop-value l = record {
  rest : partners_of l.station [] (items_view l.values) ≡ partners_of l.station l.directory (items_view (drop l.value-index l.values));
  count : length l.directory ≡ l.value-index;
  partners : ArePartners l.station l.directory;
}
