use Rattle.std.proofs.Common.{sym, subst}
use Rattle.std.proofs.lemmas.Bool.{false≢true}
use Rattle.oftp_engine.specs.InsideContent.{IsPiece}
use Rattle.oftp_engine.proofs.Pieces.{misfits}
use Rattle.oftp_engine.proofs.content.piece_of.Goals as goal

pub returns-then-not-is_piece-clause-office : goal.returns-then-not-is_piece-clause-office
returns-then-not-is_piece-clause-office g c =
    misfits (g.O.Office.view c.args.office.now) (g.O.Office.view c.rows_of.new.self) c.args.entry.now c.args.from c.args.most _
    (λ clean stood. g.met.O.Office.sound c.args.office.now clean stood) c.in-Ok.ensures.looks c.requires
    (λ fits. false≢true (c.if-not-is_piece.ensures.1 (subst (IsPiece c.args.entry.now c.args.from c.args.most) (sym c.as_slice.ensures) fits)))
