use Rattle.std.proofs.Common.{refl}
use Rattle.oftp_register.specs.declared.change.Cause.TheVariants as cause
use Rattle.oftp_store.proofs.MakingLemmas.{change_edited, change_refused, change_unread}
use Rattle.oftp_store.proofs.SubmissionLemmas.{duplicate_submit, full_submit, made_by_submit, submit_edits}
use Rattle.oftp_store.proofs.changes.outgoing.submit.Goals as goal

pub returns-in_err-find_allocation : goal.returns-in_err-find_allocation
returns-in_err-find_allocation g c =
    change_unread g.S.Store _ _ _ _ c.in_err-find_allocation.field-0.0 _ c.in_err-find_allocation.ensures.looks c.in_err-find_allocation.ensures.told c.from_residual.ensures.1

pub returns-in-Existing : goal.returns-in-Existing
returns-in-Existing g c =
    change_refused g.S.Store _ _ c.args.conn.now c.find_allocation.new.conn _ cause.Duplicate c.in_ok-find_allocation.ensures.looks
    (λ k stands. duplicate_submit _ c.args.header.now c.args.rows.now _
    ((rw c.in-Existing.is at c.in_ok-find_allocation.ensures.answer) k stands.holds.schema _ refl stands.holds.tables))

pub returns-in-Full : goal.returns-in-Full
returns-in-Full g c =
    change_refused g.S.Store _ _ c.args.conn.now c.find_allocation.new.conn _ cause.Full c.in_ok-find_allocation.ensures.looks
    (λ k stands. full_submit _ c.args.header.now c.args.rows.now
    ((rw c.in-Full.is at c.in_ok-find_allocation.ensures.answer) k stands.holds.schema _ refl stands.holds.tables))

pub returns-in-New : goal.returns-in-New
returns-in-New g c =
    change_edited g.S.Store (submit_edits c.in-New.no c.args.header c.args.rows) _ _ c.args.conn.now c.find_allocation.new.conn c.make_edits.new.conn _ c.make_edits.result
    c.in_ok-find_allocation.ensures.looks
    (λ k stands. made_by_submit _ c.args.header c.args.rows c.in-New.no
    ((rw c.in-New.is at c.in_ok-find_allocation.ensures.answer) k stands.holds.schema _ refl stands.holds.tables)) c.make_edits.ensures
