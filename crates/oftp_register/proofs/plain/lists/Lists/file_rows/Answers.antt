use Rattle.std.proofs.Common.{sym, ap, ◌∙◌}
use Rattle.oftp_register.specs.Register.{Incoming, Outgoing}
use Rattle.oftp_register.specs.LookUps.{file_rows}
use Rattle.oftp_register.specs.Lists.{incoming_of, outgoing_of, register_in}
use Rattle.oftp_register.proofs.FileRowLemmas.{no_rows_found, rows_found}
use Rattle.oftp_register.proofs.plain.lists.Lists.file_rows.Goals as goal

pub returns-in-Some : goal.returns-in-Some
returns-in-Some c =
    let o = c.args.self.now in
    let rows = rows_found incoming_of (λ (f : Incoming). f.rows) o.incoming c.args.no c.in-Some.place _ _ c.len.ensures c.in-Some.ensures c.index.ensures in
    c.as_slice.ensures.value ∙ sym (ap (λ which. file_rows (register_in o) which c.args.no) c.in-Incoming.is ∙ rows)

pub returns-in-None : goal.returns-in-None
returns-in-None c =
    let o = c.args.self.now in
    let rows = no_rows_found incoming_of (λ (f : Incoming). f.rows) o.incoming c.args.no _ c.len.ensures c.in-None.ensures in
    sym (ap (λ which. file_rows (register_in o) which c.args.no) c.in-Incoming.is ∙ rows)

pub returns-in-Some-place_of : goal.returns-in-Some-place_of
returns-in-Some-place_of c =
    let o = c.args.self.now in
    let rows =
    rows_found outgoing_of (λ (f : Outgoing). f.rows) o.outgoing c.args.no c.in-Some-place_of.place _ _ c.len-in-Outgoing.ensures c.in-Some-place_of.ensures c.index-in-Some-place_of.ensures in
    c.as_slice-in-Some-place_of.ensures.value ∙ sym (ap (λ which. file_rows (register_in o) which c.args.no) c.in-Outgoing.is ∙ rows)

pub returns-in-None-place_of : goal.returns-in-None-place_of
returns-in-None-place_of c =
    let o = c.args.self.now in
    let rows = no_rows_found outgoing_of (λ (f : Outgoing). f.rows) o.outgoing c.args.no _ c.len-in-Outgoing.ensures c.in-None-place_of.ensures in
    sym (ap (λ which. file_rows (register_in o) which c.args.no) c.in-Outgoing.is ∙ rows)
