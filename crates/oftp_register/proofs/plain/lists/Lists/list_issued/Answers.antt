use Rattle.std.proofs.Common.{Vec, Global, ◌++◌, sym, ap, ◌∙◌}
use Rattle.std.proofs.lemmas.List.{append-nil}
use Rattle.std.specs.Option.{option_to_list}
use Rattle.oftp_register.specs.declared.entries.IssuedEntry.{IssuedEntry}
use Rattle.oftp_register.specs.LookUps.{issued_entry}
use Rattle.oftp_register.specs.Lists.{incoming_of}
use Rattle.oftp_register.proofs.LookUpLemmas.{lent_place, listed_option}
use Rattle.oftp_register.proofs.plain.lists.Lists.list_issued.Goals as goal
use Rattle.oftp_register.proofs.plain.lists.Lists.list_issued.Goals.{in-Some+in_ok-push, in_default}

pub loop-place-preserved : goal.loop-place-preserved
loop-place-preserved c =
    let files = c.args.self.now.incoming.items in
    let at = lent_place c.deref-file-items.result.now files c.loop-place.place c.file-item.result c.deref-file-items.ensures.value c.loop-place-test.true c.file-item.is in
    let before = c.loop-place.entries.items in
    listed_option incoming_of issued_entry files c.loop-place.place c.file-item.result _ _ c.in_ok-entry.field-0 at.0 at.1 c.loop-place.invariant c.in_ok-entry.ensures
    (elim c.match-branch-2.branch [
      | in-Some+in_ok-push w ↦ ap (λ (v : Vec IssuedEntry Global). v.items) w.entries-is ∙ w.in_ok-push.ensures.items ∙ ap (λ o. before ++ option_to_list o) (sym w.in-Some.is)
      | in_default w ↦ ap (λ (v : Vec IssuedEntry Global). v.items) w.entries-is ∙ sym (ap (λ o. before ++ option_to_list o) w.in_default.is ∙ append-nil before)
    ])
