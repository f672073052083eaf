use Rattle.std.proofs.Common.{◌∙◌, refl, rules, take_all}
use Rattle.oftp_tables.proofs.PerformLemmas.{performs_nothing, performs_then, performs_whatever}
use Rattle.oftp_store.proofs.TransactionLemmas.{edits_committed, edits_more, edits_rolled_back, edits_uncommitted, no_edits}
use Rattle.oftp_store.proofs.changes.transaction.make_edits.Goals as goal

pub returns-then-not-all : goal.returns-then-not-all
returns-then-not-all g c = record { made = search rules }

pub edits-init : goal.edits-init
edits-init g c = record { same_reference = refl; performs = performs_nothing g.S.Store _ _ tt no_edits }

pub edits-preserved : goal.edits-preserved
edits-preserved g c = record {
  same_reference = c.perform.ensures.same_reference ∙ c.edits.invariant.same_reference;
  performs = performs_whatever g.S.Store _ _ _ _ tt
      (performs_then g.S.Store _ _ _ _ _ _ tt _ (edits_more c.args.edits.now c.edits.edit-index c.edit-item.result c.edits-test.true c.edit-item.is)
      c.edits.invariant.performs c.in_default.ensures.performs);
}

pub returns-in-Err : goal.returns-in-Err
returns-in-Err g c =
    edits_rolled_back c.args.edits.now g.S.Store c.args.conn.now _ c.perform.new.tx.conn.now c.drop-tx.new.self.0 _ c.transaction-tx.ensures.begun (search rules) c.drop-tx.ensures.ended
    _ c.edit-item.result c.edits.tx.conn.now c.in-Err.error c.office_fault_of.result c.edits.invariant.performs c.in-Err.ensures.performs c.drop-tx.ensures.undone
    c.drop-tx.ensures.survives c.office_fault_of.ensures.fails c.office_fault_of.ensures.memory

pub returns-in-Ok : goal.returns-in-Ok
returns-in-Ok g c =
    let all = rw (take_all c.edits.edit-index c.args.edits.now c.edits-test.false) at c.edits.invariant.performs in
    edits_committed c.args.edits.now g.S.Store c.args.conn.now _ c.edits.tx.conn.now c.commit.new.self.0 _ c.transaction-tx.ensures.begun (search rules) c.commit.ensures.ended
    all c.in-Ok.ensures.ok c.commit.ensures.survives

pub returns-in-Err-commit : goal.returns-in-Err-commit
returns-in-Err-commit g c =
    let all = rw (take_all c.edits.edit-index c.args.edits.now c.edits-test.false) at c.edits.invariant.performs in
    let told = c.office_fault_of-in-Err-commit in
    edits_uncommitted c.args.edits.now g.S.Store c.args.conn.now _ c.edits.tx.conn.now c.commit.new.self.0 _ c.transaction-tx.ensures.begun (search rules) c.commit.ensures.ended
    c.in-Err-commit.error told.result all c.in-Err-commit.ensures.err c.commit.ensures.survives told.ensures.fails told.ensures.memory
