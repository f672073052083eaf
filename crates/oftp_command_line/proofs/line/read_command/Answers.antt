use Rattle.std.proofs.Common.{◌≡◌, ◌∙◌, None, Some, ap, map, option_and_then, subst, sym, true}
use Rattle.std.specs.Prelude.{IfErr, IfOk}
use Rattle.std.specs.String.{string_bytes}
use Rattle.clap.specs.Words.{found_of, is_simple_and_free, rows_of}
use Rattle.oftp_command_line.specs.Arguments.{HasValues, taken}
use Rattle.oftp_command_line.specs.Fault.{is_bad}
use Rattle.oftp_command_line.specs.Line.{line_named, said, said_by}
use Rattle.oftp_command_line.proofs.CommandLines.{handed_on}
use Rattle.oftp_command_line.proofs.SimpleCommands.{is_simple_named}
use Rattle.oftp_command_line.proofs.line.read_command.Goals as goal

pub matched-requires : goal.matched-requires
matched-requires c = ap is_simple_and_free (c.in_ok-command.ensures ∙ c.declaration.ensures.told) ∙ is_simple_named c.args.name

pub returns-in_err-matches-clause-bad : goal.returns-in_err-matches-clause-bad
unfolding line_named
returns-in_err-matches-clause-bad c =
    let words = map string_bytes c.args.words.now in
    handed_on c.from_residual-in_err-matches.result c.in_err-matches.field-0.0 (λ e. is_bad e ≡ true → line_named c.args.name words ≡ None)
    c.from_residual-in_err-matches.ensures.1
    (λ bad. ap (option_and_then (said_by c.args.name)) (subst (λ a. taken a words ≡ None) (c.in_ok-command.ensures ∙ c.declaration.ensures.told) (c.in_err-matches.ensures.bad bad)))

pub read-requires : goal.read-requires
read-requires c = subst (λ a. HasValues a (rows_of (found_of c.in_ok-matches.matches))) (c.in_ok-command.ensures ∙ c.declaration.ensures.told) c.in_ok-matches.ensures.values

pub returns-clause-ok : goal.returns-clause-ok
unfolding line_named
returns-clause-ok c =
    let words = map string_bytes c.args.words.now in
    let rows = rows_of (found_of c.in_ok-matches.matches) in
    let asked = ap (option_and_then (said_by c.args.name)) (subst (λ a. taken a words ≡ Some rows) (c.in_ok-command.ensures ∙ c.declaration.ensures.told) c.in_ok-matches.ensures.ok) in
    subst (λ o. IfOk c.read.result (λ l. o ≡ Some (said l))) (sym asked) c.read.ensures.ok

pub returns-clause-bad : goal.returns-clause-bad
unfolding line_named
returns-clause-bad c =
    let words = map string_bytes c.args.words.now in
    let rows = rows_of (found_of c.in_ok-matches.matches) in
    let asked = ap (option_and_then (said_by c.args.name)) (subst (λ a. taken a words ≡ Some rows) (c.in_ok-command.ensures ∙ c.declaration.ensures.told) c.in_ok-matches.ensures.ok) in
    subst (λ o. IfErr c.read.result (λ e. is_bad e ≡ true → o ≡ None)) (sym asked) c.read.ensures.bad
