use Rattle.std.proofs.Common.{◌≡◌, ◌∙◌, ap, false, is_ok, subst, sym, true}
use Rattle.sqlite.specs.Files.{over_files}
use Rattle.sqlite.specs.State.{HasCleanDisk}
use Rattle.oftp_vfile.specs.declared.limits.Limits.{Limits}
use Rattle.oftp_register.specs.Register.{empty}
use Rattle.oftp_store.specs.Opens.{Has}
use Rattle.oftp_store.specs.Shown.{database_of, limits_of}
use Rattle.oftp_store.specs.declared.office.SqlOffice.{SqlOffice}
use Rattle.oftp_life.specs.Lives.{LifeData}
use Rattle.oftp_durable.specs.Reopening.{IsReopened}
use Rattle.oftp_durable.proofs.LifeTables.{done_nothing}
use Rattle.oftp_durable.proofs.Passing.{handed_on}
use Rattle.oftp_durable.proofs.life.live_at.Goals as goal

pub returns-clause-begins : goal.returns-clause-begins
returns-clause-begins g c = done_nothing c.live_durable.result c.in_ok-office.office c.live_durable.ensures.begins

pub returns-clause-limits : goal.returns-clause-limits
returns-clause-limits g c = ap (λ (l : LifeData _). limits_of l.began) c.live_durable.ensures.begins ∙ c.in_ok-office.ensures.limits

pub returns-clause-known : goal.returns-clause-known
returns-clause-known g c = λ clean.
    let same = ap (λ (l : LifeData _). l.began) c.live_durable.ensures.begins in
    c.in_ok-office.ensures.known (subst (λ (o : SqlOffice _ over_files). HasCleanDisk (database_of over_files o)) same clean)

pub returns-clause-found : goal.returns-clause-found
returns-clause-found g c = λ clean r db is sound holds stands.
    let office = c.in_ok-office.office in
    let opened = c.in_ok-office.ensures in
    let same = ap (λ (l : LifeData _). l.began) c.live_durable.ensures.begins in
    let early = subst (λ (o : SqlOffice _ over_files). HasCleanDisk (database_of over_files o)) same clean in
    let found = opened.found early r db is sound holds stands in
    c.live_durable.ensures.leaves early r (subst (λ (x : Limits). Has x r (database_of over_files office)) (sym opened.limits) found.has)

pub returns-clause-reopened : goal.returns-clause-reopened
returns-clause-reopened g c = λ clean r changes least made db is prefix holds.
    let same = ap (λ (l : LifeData _). l.began) c.live_durable.ensures.begins in
    let early = subst (λ (o : SqlOffice _ over_files). HasCleanDisk (database_of over_files o)) same clean in
    subst (λ (o : SqlOffice _ over_files). IsReopened c.args.limits (database_of over_files o) r changes least) (sym same)
    (c.in_ok-office.ensures.reopened early r changes least made db is prefix holds)

pub returns-clause-fresh : goal.returns-clause-fresh
returns-clause-fresh g c = λ clean none.
    let office = c.in_ok-office.office in
    let opened = c.in_ok-office.ensures in
    let same = ap (λ (l : LifeData _). l.began) c.live_durable.ensures.begins in
    let early = subst (λ (o : SqlOffice _ over_files). HasCleanDisk (database_of over_files o)) same clean in
    let found = opened.fresh early none in
    c.live_durable.ensures.leaves early (empty c.args.limits) (subst (λ (x : Limits). Has x (empty c.args.limits) (database_of over_files office)) (sym opened.limits) found.has)

pub returns-clause-unkept : goal.returns-clause-unkept
returns-clause-unkept g c =
    (λ is. absurd (let no : true ≡ false = ap is_ok is in cc), λ unkept. absurd (let no : true ≡ false = ap is_ok (c.in_ok-office.ensures.unkept.1 unkept) in cc))

pub returns-in_err-office-clause-unkept : goal.returns-in_err-office-clause-unkept
returns-in_err-office-clause-unkept g c = handed_on _ _ _ c.from_residual.ensures.1 _ c.in_err-office.was c.open_durable.ensures.unkept
