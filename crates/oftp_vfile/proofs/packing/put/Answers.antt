use Rattle.std.proofs.Common.{◌∙◌, ap, ◌++◌, ◌∷◌, take}
use Rattle.oftp_vfile.proofs.PackingLemmas.{put_step}
use Rattle.oftp_vfile.proofs.packing.put.Goals as goal

pub returns : goal.returns
returns c =
    put_step c.args.out.now c.args.part.now _ c.args.at c.header_octet.result _ c.requires.room c.copy_from_slice.ensures.after
    ∙ ap (λ h. take c.args.at c.args.out.now ++ h ∷ c.args.part.now) c.header_octet.ensures
