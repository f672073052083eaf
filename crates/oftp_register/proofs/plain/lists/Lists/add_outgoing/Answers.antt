use Rattle.std.proofs.Common.{Ok, refl, ap, ◌∙◌}
use Rattle.std.proofs.lemmas.Bool.{cond-true, cond-false}
use Rattle.oftp_register.specs.Lists.{outgoing_of, register_in, to_send}
use Rattle.oftp_register.proofs.PlainLists.{map_pushed, submit_duplicate, submit_new, is_full, is_not_full}
use Rattle.oftp_register.proofs.plain.lists.Lists.add_outgoing.Goals as goal

pub returns-then-is_among : goal.returns-then-is_among
returns-then-is_among c =
    (submit_duplicate c.args.self.now (to_send c.args.header c.args.rows) _ _ c.deref.ensures.value c.is_among.ensures c.if-is_among.true, refl)

pub returns-then-len-self : goal.returns-then-len-self
returns-then-len-self c =
    let o = c.args.self.now in (
      submit_new o (to_send c.args.header c.args.rows) _ _ c.deref.ensures.value c.is_among.ensures c.if-is_among.false
          ∙ cond-true _ _ _ (is_full outgoing_of o.outgoing.items o.limits.files _ _ o.outgoing.ok.0 c.len.ensures c.if-len-self.true),
      refl,
    )

pub returns : goal.returns
returns c =
    let o = c.args.self.now in
    submit_new o (to_send c.args.header c.args.rows) _ _ c.deref.ensures.value c.is_among.ensures c.if-is_among.false
    ∙ cond-false _ _ _ (is_not_full outgoing_of o.outgoing.items o.limits.files _ _ o.outgoing.ok.0 c.len.ensures c.if-len-self.false)
    ∙ ap (λ files. Ok (record (register_in o) { outgoing = files })) (map_pushed outgoing_of o.outgoing.items _ _ _ c.in_ok-push.ensures.items c.new.ensures)
