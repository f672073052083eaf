use Rattle.oftp_tables.proofs.BindLemmas.{number_bound}
use Rattle.oftp_store.proofs.changes.statements.header_values.Goals as goal

pub returns : goal.returns
returns c =
    let back = number_bound c.args.no c.number.result c.number.ensures c.requires in
    simp (
      c.octets.ensures.value,
      c.octets-2.ensures.value,
      c.octets-3.ensures.value,
      c.octets-4.ensures.value,
      c.octets-5.ensures.value,
      c.as_bytes.ensures.value,
      c.format_text.ensures,
      c.to_sql.ensures,
      back,
      c.as_bytes-2.ensures.value,
      c.text.ensures.value,
    )
