use Rattle.std.proofs.Common.{◌≡◌, ◌+◌, ◌++◌, map, take, drop}
use Rattle.std.specs.List.{filter_map}
use Rattle.sqlite.specs.Held.{state}
use Rattle.sqlite.specs.State.{HasCleanDisk}
use Rattle.oftp_register.specs.Register.{Register}
use Rattle.oftp_store.proofs.LoopLemmas.{IsKnown}
use Rattle.oftp_store.proofs.queries.lists.add_page.Given as goal

-- the rows so far are told, and all of them are those of the page
abbrev pub invariant-rows : goal.invariant-rows
invariant-rows g l =
    let told = g.E.Listed.told in
    record {
      known : IsKnown
          (λ (r : Register).
          (l.entries.items ≡ l.fn.entries.items ++ filter_map (λ item. item) (map (told r) (take l.row-index l.row-items)))
          × (map (told r) l.row-items ≡ take 128 (drop l.behind (g.E.Listed.items r))) × HasCleanDisk (state g.S.Store l.initial.conn))
          (state g.S.Store l.fn.conn) (state g.S.Store l.conn);
      last : l.last ≡ l.behind + l.row-index;
    }
