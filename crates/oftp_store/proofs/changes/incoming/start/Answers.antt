use Rattle.std.proofs.Common.{◌∙◌, refl, sym}
use Rattle.oftp_register.specs.declared.change.Cause.TheVariants as cause
use Rattle.oftp_store.proofs.BeginningLemmas.{begin_edits, full_start, go_on_edits, late_start, late_start_full, made_by_begin, made_by_go_on, unfit_start}
use Rattle.oftp_store.proofs.MakingLemmas.{change_edited, change_refused, change_unread}
use Rattle.oftp_store.proofs.changes.incoming.start.Goals as goal

pub returns-in_err-find_incoming_allocation : goal.returns-in_err-find_incoming_allocation
returns-in_err-find_incoming_allocation g c =
    change_unread g.S.Store _ _ _ _ c.in_err-find_incoming_allocation.field-0.0 _ c.in_err-find_incoming_allocation.ensures.looks c.in_err-find_incoming_allocation.ensures.told
    c.from_residual.ensures.1

pub returns-then-count-gt0 : goal.returns-then-count-gt0
returns-then-count-gt0 g c =
    change_refused g.S.Store _ _ c.args.conn.now c.find_incoming_allocation.new.conn _ cause.State c.in_ok-find_incoming_allocation.ensures.looks
    (λ k stands. late_start_full _ c.args.header.now c.args.count
    ((rw c.in-Full.is at c.in_ok-find_incoming_allocation.ensures.answer) k stands.holds.schema _ refl stands.holds.tables) c.if-count-gt0.true)

pub returns-else-count-gt0 : goal.returns-else-count-gt0
returns-else-count-gt0 g c =
    change_refused g.S.Store _ _ c.args.conn.now c.find_incoming_allocation.new.conn _ cause.Full c.in_ok-find_incoming_allocation.ensures.looks
    (λ k stands. full_start _ c.args.header.now c.args.count
    ((rw c.in-Full.is at c.in_ok-find_incoming_allocation.ensures.answer) k stands.holds.schema _ refl stands.holds.tables) c.if-count-gt0.false)

pub returns-then-count-gt0-2 : goal.returns-then-count-gt0-2
returns-then-count-gt0-2 g c =
    change_refused g.S.Store _ _ c.args.conn.now c.find_incoming_allocation.new.conn _ cause.State c.in_ok-find_incoming_allocation.ensures.looks
    (λ k stands. late_start _ c.args.header.now c.args.count c.in-New.no
    ((rw c.in-New.is at c.in_ok-find_incoming_allocation.ensures.answer) k stands.holds.schema _ refl stands.holds.tables) c.if-count-gt0-2.true)

pub returns-else-count-gt0-2 : goal.returns-else-count-gt0-2
returns-else-count-gt0-2 g c =
    change_edited g.S.Store (begin_edits c.in-New.no c.args.header) _ _ c.args.conn.now c.find_incoming_allocation.new.conn c.make_edits.new.conn _ c.make_edits.result
    c.in_ok-find_incoming_allocation.ensures.looks
    (λ k stands. made_by_begin _ c.args.header c.args.count c.in-New.no
    ((rw c.in-New.is at c.in_ok-find_incoming_allocation.ensures.answer) k stands.holds.schema _ refl stands.holds.tables) c.if-count-gt0-2.false) c.make_edits.ensures

pub returns-then-not-goes_on : goal.returns-then-not-goes_on
returns-then-not-goes_on g c =
    change_refused g.S.Store _ _ c.args.conn.now c.find_incoming_allocation.new.conn _ cause.State c.in_ok-find_incoming_allocation.ensures.looks
    (λ k stands. unfit_start _ c.args.header.now c.args.count c.in-Known.no c.in-Known.progress
    ((rw c.in-Known.is at c.in_ok-find_incoming_allocation.ensures.answer) k stands.holds.schema _ refl stands.holds.tables) (sym c.goes_on.ensures ∙ c.if-not-goes_on.true))

pub returns-else-not-goes_on : goal.returns-else-not-goes_on
returns-else-not-goes_on g c =
    change_edited g.S.Store (go_on_edits c.in-Known.no c.args.header c.args.count) _ _ c.args.conn.now c.find_incoming_allocation.new.conn c.make_edits-in-Known.new.conn _
    c.make_edits-in-Known.result c.in_ok-find_incoming_allocation.ensures.looks
    (λ k stands. made_by_go_on _ c.args.header c.args.count c.in-Known.no c.in-Known.progress
    ((rw c.in-Known.is at c.in_ok-find_incoming_allocation.ensures.answer) k stands.holds.schema _ refl stands.holds.tables) (sym c.goes_on.ensures ∙ c.if-not-goes_on.false))
    c.make_edits-in-Known.ensures
