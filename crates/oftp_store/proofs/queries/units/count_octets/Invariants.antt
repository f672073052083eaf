use Rattle.std.proofs.Common.{◌≡◌, ◌*◌, ◌≤◌, length, take}
use Rattle.sqlite.specs.Held.{state}
use Rattle.oftp_vfile.specs.VirtualFile.{units_in}
use Rattle.oftp_register.specs.Register.{Register}
use Rattle.oftp_register.specs.LookUps.{file_rows}
use Rattle.oftp_register.specs.declared.fit.TheConstants.{MOST_UNITS}
use Rattle.oftp_store.proofs.LoopLemmas.{IsKnown}
use Rattle.oftp_store.proofs.queries.units.count_octets.Given as goal

-- the pages so far are counted
abbrev pub invariant-pages : goal.invariant-pages
invariant-pages g l = record {
  known : IsKnown (λ (r : Register). (l.count ≡ length (file_rows r l.side l.no)) × (l.units ≡ units_in (take (l.page * 64) (file_rows r l.side l.no))))
      (state g.S.Store l.fn.conn) (state g.S.Store l.conn);
  within : l.units ≤ MOST_UNITS;
}
