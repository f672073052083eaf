use Rattle.std.proofs.Common.{◌∙◌, ℕ, Option, Some, ap}
use Rattle.oftp_register.specs.declared.entries.AnsweredEntry.{AnsweredEntry}
use Rattle.oftp_store.specs.Reads.{paged_answered_file}
use Rattle.oftp_store.proofs.queries.answered.answered_in.Goals as goal

pub returns-clause-told : goal.returns-clause-told
returns-clause-told c no_is =
    let entry : ℕ → Option ℕ → AnsweredEntry = λ n file. record { no = n; file = file } in
    ap (λ file. Some (entry c.args.no file)) c.in_ok-file.ensures.told ∙ ap (λ n. Some (entry n (paged_answered_file c.args.row.now))) no_is
