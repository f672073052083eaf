use Rattle.std.proofs.Common.{rules}
use Rattle.oftp_store.specs.Paths.{IsKept}
use Rattle.oftp_store.proofs.OpenLemmas.{connected_err, connected_kept, connected_ok}
use Rattle.oftp_store.proofs.path.connect.Goals as goal

pub returns-clause-unkept : goal.returns-clause-unkept
returns-clause-unkept g c =
    let kept : IsKept c.args.path.now = search rules in
    connected_kept c.open_from.result _ c.connected.ensures.opened c.connected.ensures.cause kept

pub returns-clause-cause : goal.returns-clause-cause
returns-clause-cause g c = connected_err c.open_from.result _ c.connected.ensures.opened c.connected.ensures.cause c.open_from.ensures.named

pub returns-clause-opened : goal.returns-clause-opened
returns-clause-opened g c = connected_ok c.open_from.result _ _ c.connected.ensures.opened c.connected.ensures.cause c.open_from.ensures.opened

pub returns-clause-found : goal.returns-clause-found
returns-clause-found g c = connected_ok c.open_from.result _ _ c.connected.ensures.opened c.connected.ensures.cause c.open_from.ensures.found

pub returns-clause-fresh : goal.returns-clause-fresh
returns-clause-fresh g c = connected_ok c.open_from.result _ _ c.connected.ensures.opened c.connected.ensures.cause c.open_from.ensures.fresh
