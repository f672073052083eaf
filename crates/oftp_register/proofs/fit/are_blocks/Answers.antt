use Rattle.std.proofs.Common.{sym, subst}
use Rattle.oftp_vfile.specs.VirtualFile.{AreBlocks}
use Rattle.oftp_register.proofs.RowLemmas.{blocks_split, blocks_joined}
use Rattle.oftp_register.proofs.fit.are_blocks.Goals as goal
use Rattle.oftp_vfile.specs.declared.format.TheConstants.{BLOCK}

pub returns-then-is_last_block : goal.returns-then-is_last_block
returns-then-is_last_block c =
    let split = c.in-Some.ensures.cases in
    let last = c.is_last_block.ensures.0 c.if-is_last_block.true in (
      λ yes. subst (AreBlocks BLOCK) (sym split.0) (blocks_joined BLOCK c.in-Some.full.now c.in-Some.last.now last.0 last.1 (c.are_full_rows.ensures.0 yes)),
      λ blocks. c.are_full_rows.ensures.1 (blocks_split BLOCK c.in-Some.full.now c.in-Some.last.now (subst (AreBlocks BLOCK) split.0 blocks)).1,
    )

pub returns-else-is_last_block : goal.returns-else-is_last_block
returns-else-is_last_block c =
    let split = c.in-Some.ensures.cases in
    (λ passes. absurd (cc), λ blocks. c.is_last_block.ensures.1 (blocks_split BLOCK c.in-Some.full.now c.in-Some.last.now (subst (AreBlocks BLOCK) split.0 blocks)).0)
