use Rattle.oftp_store.proofs.MakingLemmas.{ends_beyond, ends_failed, ends_unknown}
use Rattle.oftp_store.proofs.changes.known.known.Goals as goal

pub returns-then-no-ge-FIRST_FAR-clause-ends : goal.returns-then-no-ge-FIRST_FAR-clause-ends
returns-then-no-ge-FIRST_FAR-clause-ends g c =
    ends_beyond g.S.Store c.args.cx.limits g.P.Progress.told c.args.no c.args.conn.now (λ r db kept. g.met.P.Progress.beyond r db c.args.no kept c.if-no-ge-FIRST_FAR.true)

pub returns-in_err-find-clause-ends : goal.returns-in_err-find-clause-ends
returns-in_err-find-clause-ends g c =
    ends_failed g.S.Store c.args.cx.limits g.P.Progress.told c.args.no _ _ c.in_err-find.field-0.0 _ c.in_err-find.ensures.looks c.in_err-find.ensures.told c.from_residual.ensures.1

pub returns-in-None-clause-ends : goal.returns-in-None-clause-ends
returns-in-None-clause-ends g c =
    ends_unknown g.S.Store c.args.cx.limits g.P.Progress.told c.args.no c.args.conn.now c.find.new.conn _ c.in_ok-find.ensures.looks
    (λ k stands. (rw c.in-None.is at c.in_ok-find.ensures.answer) k stands.holds.schema _ stands.holds.tables)

pub returns-in-Some-clause-found : goal.returns-in-Some-clause-found
returns-in-Some-clause-found g c = record {
  looks = rw c.in-Some.is at c.in_ok-find.ensures.looks;
  answer = λ k limits stands. (rw c.in-Some.is at c.in_ok-find.ensures.answer) k stands.holds.schema _ stands.holds.tables;
}
