use Rattle.std.proofs.Common.{arith, ap, map}
use Rattle.oftp_vfile.specs.Subrecord.{payload_of}
use Rattle.oftp_vfile.specs.Fill.{fill_from, weight}
use Rattle.oftp_vfile.proofs.FillListLemmas.{fills_fill, fills_one}
use Rattle.oftp_vfile.proofs.laws.fill_is_one.Goals as goal

pub returns : goal.returns
returns c = λ size records h. (
  fills_fill (weight records) size records h (omega arith),
  λ subs p. ap (map payload_of) (fills_one size records subs (fill_from (weight records) size records) p (fills_fill (weight records) size records h (omega arith))),
)
