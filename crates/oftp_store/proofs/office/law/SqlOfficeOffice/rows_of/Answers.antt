use Rattle.std.proofs.Common.{◌≡◌, ◌∙◌, sym}
use Rattle.oftp_store.proofs.OfficeLemmas.{empty_answer, looks_nowhere, looks_up, settled_alone}
use Rattle.oftp_register.specs.LookUps.{rows_of}
use Rattle.oftp_store.proofs.office.law.SqlOfficeOffice.rows_of.Goals as goal

pub returns-then-is_past-clause-looks : goal.returns-then-is_past-clause-looks
returns-then-is_past-clause-looks g c =
    looks_nowhere (λ r rows. rows ≡ rows_of r c.args.side c.args.no c.args.from c.args.most) _ _ _ c.new.result (settled_alone g.S.Store g.met.S.Store.settled _ c.args.self.now.conn) (λ stands.
    c.new.ensures ∙ c.new-none.ensures.items ∙ empty_answer _ _ c.args.side c.args.no c.args.from c.args.most stands.holds.tables stands.holds.sound (sym c.is_past.ensures ∙ c.if-is_past.true))

pub returns-clause-looks : goal.returns-clause-looks
returns-clause-looks g c =
    rw c.counted.ensures.same (looks_up (λ r rows. rows ≡ rows_of r c.args.side c.args.no c.args.from c.args.most) _ _ _ _ _ c.rows_of-found.result
    (settled_alone g.S.Store g.met.S.Store.settled _ c.args.self.now.conn) c.rows_of-found.ensures.looks c.rows_of-found.ensures.answer c.counted.ensures.counts)

pub returns-clause-told : goal.returns-clause-told
returns-clause-told g c =
    rw c.counted.ensures.same c.rows_of-found.ensures.told
