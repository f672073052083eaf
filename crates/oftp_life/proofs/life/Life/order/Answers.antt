use Rattle.std.proofs.Common.{Bool, subst}
use Rattle.oftp_engine.specs.Serving.{scene}
use Rattle.oftp_engine.specs.Operated.{Operates}
use Rattle.oftp_life.specs.Lives.{LifeData, Lives, ends_life}
use Rattle.oftp_life.specs.Noted.{with_call}
use Rattle.oftp_life.proofs.Lives.{call_lives, lives_as, lives_leave}
use Rattle.oftp_life.proofs.life.Life.order.Goals as goal

pub invariant_of-self : goal.invariant_of-self
invariant_of-self g c = λ clean stood.
    let view = g.O.Office.view in
    let i = c.self.inside in
    let began = view i.began.value in
    let done = c.operate-answer in
    let rests = subst (λ (b : Bool). Lives b began.register i.history.acts (view i.office)) c.if-self.false (c.self.invariant (done.ensures.clean clean) stood) in
    lives_as (ends_life done.result) c.ends_life-self-inside.result began.register (with_call c.args.book.now c.args.call.now i.history.acts done.result) c.note_call.new.self.acts
    (view done.new.office) c.ends_life-self-inside.ensures c.note_call.ensures
    (call_lives began i.history.acts c.args.book.now c.args.call.now (scene g.W.Write.contents (view i.office) c.args.writer.now)
    (scene g.W.Write.contents (view done.new.office) done.new.writer) rests done.result (done.ensures.operates clean rests.stands))

pub returns-clause-leaves : goal.returns-clause-leaves
returns-clause-leaves g c = λ clean stood.
    let view = g.O.Office.view in
    lives_leave c.ends_life-self-inside.result (view c.self.inside.began.value) c.note_call.new.self.acts (view c.operate-answer.new.office) (invariant_of-self g c clean stood)

pub returns-clause-operates : goal.returns-clause-operates
returns-clause-operates g c = λ e clean stood.
    let view = g.O.Office.view in
    let contents = g.W.Write.contents in
    let done = c.operate-answer in
    let book = c.args.book.now in
    let call = c.args.call.now in
    let out = scene contents (view done.new.office) done.new.writer in
    subst (λ (l : LifeData _). (view l.office).stands → Operates book call (scene contents (view l.office) c.args.writer.now) out done.result) c.self.view_is
    (λ s. done.ensures.operates clean s) stood
