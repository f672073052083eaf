use Rattle.std.proofs.Common.{refl, sym}
use Rattle.sha2.proofs.Schedule256.{rounds_first}
use Rattle.oftp_digest.specs.Lanes.{lane, ring}
use Rattle.oftp_digest.proofs.LaneLemmas.{slice_index-ring}
use Rattle.oftp_digest.proofs.rounds.first_step.Goals as goal

pub returns : goal.returns
returns c j b h low window held =
    rounds_first b h (ring c.args.w.now j) (lane c.args.v j) c.args.t _ _ _ c.requires window held refl
    (sym (slice_index-ring c.args.w.now j c.args.t c.requires)) (c.round.ensures j low)
