use Rattle.std.proofs.Common.{arith}
use Rattle.oftp_register.specs.LookUps.{file_rows}
use Rattle.oftp_store.proofs.CauseLemmas.{where_by, where_weaker}
use Rattle.oftp_store.proofs.FormatLemmas.{blocks_told}
use Rattle.oftp_store.proofs.queries.units.count_in_format.Goals as goal

pub returns-in-Fixed-clause-told : goal.returns-in-Fixed-clause-told
returns-in-Fixed-clause-told g c = where_by g.S.Store _ _ _ c.count_records.result c.count_records.ensures.told

pub returns-in-Variable-clause-told : goal.returns-in-Variable-clause-told
returns-in-Variable-clause-told g c = where_by g.S.Store _ _ _ c.count_octets.result c.count_octets.ensures.told

pub returns-in-Unstructured-clause-told : goal.returns-in-Unstructured-clause-told
returns-in-Unstructured-clause-told g c =
    where_weaker g.S.Store _ _ _ c.count_blocks.result _
    (λ r few. omega (arith, few, blocks_told c.args.format c.args.longest (file_rows r c.args.side c.args.no) c.in-Unstructured.is)) c.count_blocks.ensures.told
