use Rattle.std.proofs.Common.{[], ◌∷◌}
use Rattle.oftp_register.specs.declared.change.Cause.TheVariants as cause
use Rattle.oftp_store.specs.Edits.{outgoing_edit}
use Rattle.oftp_store.proofs.FilingLemmas.{duplicate_file, made_by_file, made_by_settling, response_edit}
use Rattle.oftp_store.proofs.MakingLemmas.{change_edited, change_refused, change_unread}
use Rattle.oftp_store.proofs.changes.responses.file.Goals as goal

pub returns-in_err-find_response_match : goal.returns-in_err-find_response_match
returns-in_err-find_response_match g c =
    change_unread g.S.Store _ _ _ _ c.in_err-find_response_match.field-0.0 _ c.in_err-find_response_match.ensures.looks c.in_err-find_response_match.ensures.told
    c.from_residual.ensures.1

pub returns-in-Duplicate : goal.returns-in-Duplicate
returns-in-Duplicate g c =
    change_refused g.S.Store _ _ c.args.conn.now c.find_response_match.new.conn _ cause.Duplicate c.in_ok-find_response_match.ensures.looks
    (λ k stands. duplicate_file _ c.args.response.now
    ((rw c.in-Duplicate.is at c.in_ok-find_response_match.ensures.answer) k stands.holds.schema _ stands.holds.tables stands.holds.sound))

pub returns-in-Unmatched : goal.returns-in-Unmatched
returns-in-Unmatched g c =
    change_edited g.S.Store (response_edit c.in-Unmatched.no c.args.response ∷ []) _ _ c.args.conn.now c.find_response_match.new.conn c.make_edits.new.conn _ c.make_edits.result
    c.in_ok-find_response_match.ensures.looks
    (λ k stands. made_by_file _ c.args.response c.in-Unmatched.no
    ((rw c.in-Unmatched.is at c.in_ok-find_response_match.ensures.answer) k stands.holds.schema _ stands.holds.tables stands.holds.sound)) c.make_edits.ensures

pub returns-in-Matched : goal.returns-in-Matched
returns-in-Matched g c =
    let file = c.in-Matched.file in
    change_edited g.S.Store (outgoing_edit file.no file.mark c.answered_as.result ∷ response_edit c.in-Matched.no c.args.response ∷ []) _ _ c.args.conn.now c.find_response_match.new.conn
    c.make_edits-in-Matched.new.conn _ c.make_edits-in-Matched.result c.in_ok-find_response_match.ensures.looks
    (λ k stands. rw c.answered_as.ensures (made_by_settling _ c.args.response c.in-Matched.no file
    ((rw c.in-Matched.is at c.in_ok-find_response_match.ensures.answer) k stands.holds.schema _ stands.holds.tables stands.holds.sound)))
    (rw c.outgoing_edit-settled.ensures at c.make_edits-in-Matched.ensures)
