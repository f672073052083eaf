use Rattle.std.proofs.Common.{◌≡◌, ℕ, ap, false, is_ok, subst, sym, true}
use Rattle.sqlite.specs.Files.{over_files}
use Rattle.oftp_vfile.specs.declared.limits.Limits.{Limits}
use Rattle.oftp_register.specs.Register.{empty}
use Rattle.oftp_store.specs.Opens.{Has}
use Rattle.oftp_store.specs.Shown.{database_of, limits_of, shown}
use Rattle.oftp_durable.specs.Lists.{ListLeaves}
use Rattle.oftp_durable.proofs.Passing.{handed_on}
use Rattle.oftp_durable.proofs.jobs.run_at.Goals as goal

pub returns-clause-leaves : goal.returns-clause-leaves
returns-clause-leaves g c = λ clean r db is sound holds stands.
    let opened = c.in_ok-office.ensures in
    let new = c.run_durable-result.new.office in
    let early = c.run_durable-result.ensures.clean clean in
    let found = opened.found early r db is sound holds stands in
    let has = subst (λ (x : Limits). Has x r (database_of over_files c.in_ok-office.office)) (sym opened.limits) found.has in
    subst
    (λ (faults : ℕ). ListLeaves g.R.Read.remaining g.W.Write.contents c.args.book.now r faults (shown over_files new) c.args.jobs.now c.run_durable-result.new.jobs
    (limits_of new) (database_of over_files new) c.run_durable-result.result)
    opened.faults (c.run_durable-result.ensures.leaves clean r has)

pub returns-clause-alone : goal.returns-clause-alone
returns-clause-alone g c = λ clean r db is sound holds stands.
    let opened = c.in_ok-office.ensures in
    let early = c.run_durable-result.ensures.clean clean in
    let found = opened.found early r db is sound holds stands in
    let has = subst (λ (x : Limits). Has x r (database_of over_files c.in_ok-office.office)) (sym opened.limits) found.has in
    c.run_durable-result.ensures.alone clean r has

pub returns-clause-fresh : goal.returns-clause-fresh
returns-clause-fresh g c = λ clean none.
    let opened = c.in_ok-office.ensures in
    let new = c.run_durable-result.new.office in
    let register = empty c.args.limits in
    let found = opened.fresh (c.run_durable-result.ensures.clean clean) none in
    let has = subst (λ (x : Limits). Has x register (database_of over_files c.in_ok-office.office)) (sym opened.limits) found.has in
    subst
    (λ (faults : ℕ). ListLeaves g.R.Read.remaining g.W.Write.contents c.args.book.now register faults (shown over_files new) c.args.jobs.now c.run_durable-result.new.jobs
    (limits_of new) (database_of over_files new) c.run_durable-result.result)
    opened.faults (c.run_durable-result.ensures.leaves clean register has)

pub returns-clause-unkept : goal.returns-clause-unkept
returns-clause-unkept g c =
    (λ is. absurd (let no : true ≡ false = ap is_ok is in cc), λ unkept. absurd (let no : true ≡ false = ap is_ok (c.in_ok-office.ensures.unkept.1 unkept) in cc))

pub returns-in_err-office-clause-unkept : goal.returns-in_err-office-clause-unkept
returns-in_err-office-clause-unkept g c = handed_on _ _ _ c.from_residual.ensures.1 _ c.in_err-office.was c.open_durable.ensures.unkept

pub returns-clause-known : goal.returns-clause-known
returns-clause-known g c = λ clean. c.in_ok-office.ensures.known (c.run_durable-result.ensures.clean clean)
