use Rattle.std.proofs.Common.{◌∙◌, inl, subst, sym, take}
use Rattle.sqlite.specs.Files.{over_files}
use Rattle.oftp_vfile.specs.declared.limits.Limits.{Limits}
use Rattle.oftp_register.specs.Register.{empty}
use Rattle.oftp_store.specs.Opens.{Has}
use Rattle.oftp_store.specs.Shown.{database_of}
use Rattle.oftp_durable.specs.Headline.{LeavesAlone}
use Rattle.oftp_durable.proofs.Limits.{changes_limits}
use Rattle.oftp_durable.proofs.opening.open_durable.Goals as goal

pub returns-clause-found : goal.returns-clause-found
returns-clause-found g c = λ clean r db is sound holds stands.
    let office = c.in_ok-office.office in
    let database = database_of over_files office in
    let limits = c.in_ok-office.ensures.limits in
    let has = subst (λ (x : Limits). Has x r database) (sym limits) (c.in_ok-office.ensures.found clean r db is sound holds stands) in
    subst (λ (x : Limits). LeavesAlone x database r) limits (c.leaves_alone.ensures r has)

pub returns-clause-reopened : goal.returns-clause-reopened
returns-clause-reopened g c = λ clean r changes least made db is prefix holds.
    let same = changes_limits (take prefix.count changes) r prefix.register prefix.replay ∙ is in
    record {
      count = prefix.count;
      least = prefix.least;
      most = prefix.most;
      register = prefix.register;
      replay = prefix.replay;
      left = returns-clause-found g c clean prefix.register db same prefix.holds.sound holds (inl prefix.holds);
    }

pub returns-clause-fresh : goal.returns-clause-fresh
returns-clause-fresh g c = λ clean none.
    let office = c.in_ok-office.office in
    let database = database_of over_files office in
    let limits = c.in_ok-office.ensures.limits in
    let register = empty c.args.limits in
    let has = subst (λ (x : Limits). Has x register database) (sym limits) (c.in_ok-office.ensures.fresh clean none) in
    subst (λ (x : Limits). LeavesAlone x database register) limits (c.leaves_alone.ensures register has)
