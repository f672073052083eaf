use Rattle.std.proofs.Common.{sym, ap, ◌∙◌}
use Rattle.oftp_register.specs.Register.{Incoming, Outgoing}
use Rattle.oftp_register.specs.Units.{file_format}
use Rattle.oftp_register.specs.Lists.{incoming_of, outgoing_of, register_in}
use Rattle.oftp_register.proofs.FormatUnitLemmas.{told_found}
use Rattle.oftp_register.proofs.plain.lists.Lists.file_format.Goals as goal

pub returns-in_ok-place_of-in-Incoming : goal.returns-in_ok-place_of-in-Incoming
returns-in_ok-place_of-in-Incoming c =
    let o = c.args.self.now in
    let place = rw c.in_ok-place_of-in-Incoming.was at c.place_of.ensures in
    let told = told_found incoming_of (λ (f : Incoming). (f.format, f.longest)) o.incoming c.args.no _ _ _ c.len.ensures place c.index-file.ensures in
    sym (ap (λ which. file_format (register_in o) which c.args.no) c.in-Incoming.is ∙ told)

pub returns-in_ok-place_of-in-Outgoing : goal.returns-in_ok-place_of-in-Outgoing
returns-in_ok-place_of-in-Outgoing c =
    let o = c.args.self.now in
    let place = rw c.in_ok-place_of-in-Outgoing.was at c.place_of-in-Outgoing.ensures in
    let told = told_found outgoing_of (λ (f : Outgoing). (f.format, f.longest)) o.outgoing c.args.no _ _ _ c.len-in-Outgoing.ensures place c.index-file-in-Outgoing.ensures in
    sym (ap (λ which. file_format (register_in o) which c.args.no) c.in-Outgoing.is ∙ told)
