use Rattle.std.proofs.Common.{◌≡◌, codes, cond, sym, subst, Result}
use Rattle.oftp_register.specs.Changes.{is_outgoing}
use Rattle.oftp_engine.specs.declared.operating.Refusal.TheVariants as refusal
use Rattle.oftp_engine.specs.declared.operating.Told.{Told}
use Rattle.oftp_engine.specs.declared.serving.RunFault.{RunFault}
use Rattle.oftp_engine.specs.Operating.{Deed, refuses}
use Rattle.oftp_engine.specs.InsideOperating.{Attempts}
use Rattle.oftp_engine.proofs.Offers.{decides_big}
use Rattle.oftp_engine.proofs.submitting.refuse_big.Goals as goal

pub returns-clause-does : goal.returns-clause-does
returns-clause-does g c = λ clean stood.
    let old = g.O.Office.view c.args.office.now in
    let new = g.O.Office.view c.look_out-found.new.self in
    let big = cond (is_outgoing old.register c.args.identity.now) (refuses refusal.Duplicate) (refuses refusal.Limit) in
    subst (λ (r : Result Told RunFault). Attempts (codes "done: submit ") (λ (deed : Deed). deed ≡ big) old new r)
    (sym c.big_file_result.ensures) (decides_big c.args.identity.now old new c.look_out-found.result c.look_out-found.ensures.looks clean stood)
