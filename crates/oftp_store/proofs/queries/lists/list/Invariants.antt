use Rattle.std.proofs.Common.{◌≡◌, ◌*◌, length, take}
use Rattle.std.specs.List.{filter_map}
use Rattle.sqlite.specs.Held.{state}
use Rattle.oftp_register.specs.Register.{Register}
use Rattle.oftp_store.proofs.LoopLemmas.{IsKnown}
use Rattle.oftp_store.proofs.queries.lists.list.Given as goal

-- the pages so far are listed
abbrev pub invariant-pages : goal.invariant-pages
invariant-pages g l =
    let items = g.E.Listed.items in
    IsKnown (λ (r : Register). (l.last ≡ length (items r)) × (l.entries.items ≡ filter_map (λ item. item) (take (l.page * 128) (items r)))) (state g.S.Store l.fn.conn) (state g.S.Store l.conn)
