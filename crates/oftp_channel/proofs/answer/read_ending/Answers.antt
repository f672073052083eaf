use Rattle.std.proofs.Common.{rules, ◌<◌, ◌^◌, [], ◌∷◌, ◌++◌}
use Rattle.std.proofs.lemmas.List.{append-nil}
use Rattle.std.specs.Int.{w64, to_be_bytes}
use Rattle.oftp_channel.specs.Endings.{spelled_ending}
use Rattle.oftp_channel.proofs.EndingLemmas.{found_alone, same_label}
use Rattle.oftp_channel.proofs.InputLemmas.{form_behind, gave_on, passed_behind}
use Rattle.oftp_channel.proofs.answer.read_ending.Goals as goal

pub returns-in_err-number-clause-leaves : goal.returns-in_err-number-clause-leaves
returns-in_err-number-clause-leaves g c = passed_behind g.R.Read.remaining c.args.reader.now _ _ _ c.in_err-number.field-0.0 _ c.from_residual-in_err-number.ensures.1
    c.in_ok-kind.ensures.read c.in_err-number.ensures.leaves

pub returns-clause-again : goal.returns-clause-again
returns-clause-again g c = λ told rest is e.
    let remaining = g.R.Read.remaining in
    let gave = gave_on remaining c.args.reader.now _ _ (c.in_ok-kind.kind ∷ []) (to_be_bytes w64 c.in_ok-number.number) c.in_ok-kind.ensures.read c.in_ok-number.ensures.read in
    let fits : c.in_ok-number.number < 2 ^ 64 = search rules in
    let same = same_label remaining c.args.reader.now _ c.in_ok-kind.kind c.in_ok-number.number told (spelled_ending told ++ rest) [] rest gave fits is e
    (append-nil (spelled_ending told ++ rest)) in
    found_alone c.of_label.result _ c.ok_or.result told c.ok_or.ensures.value (c.of_label.ensures.found told is same)

pub returns-clause-leaves : goal.returns-clause-leaves
returns-clause-leaves g c =
    let remaining = g.R.Read.remaining in
    let gave = gave_on remaining c.args.reader.now _ _ (c.in_ok-kind.kind ∷ []) (to_be_bytes w64 c.in_ok-number.number) c.in_ok-kind.ensures.read c.in_ok-number.ensures.read in
    form_behind remaining c.args.reader.now _ _ c.of_label.result c.ok_or.result c.ok_or.ensures.value gave
