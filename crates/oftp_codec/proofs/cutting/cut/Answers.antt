use Rattle.std.proofs.Common.{◌≡◌, ◌+◌, ◌++◌, ℕ, take, arith, sym, subst}
use Rattle.std.specs.List.{flat_map, AllByRecursion}
use Rattle.std.proofs.lemmas.Grind.{common_steps}
use Rattle.oftp_codec.specs.Header.{frame, IsCommand}
use Rattle.oftp_codec.specs.Stream.{IsRest, copied, joined}
use Rattle.oftp_codec.proofs.Fronts.{reads_early}
use Rattle.oftp_codec.proofs.cutting.cut.Goals as goal

pub returns-then-is_some : goal.returns-then-is_some
returns-then-is_some c =
    let before = c.loop-piece.invariant in
    let drained = c.in_ok-fault.ensures in
    let rest = c.drain.new.deframer.rest in
    let commands = copied c.drain.new.commands.items in
    let limit : c.feed.new.self.limit ≡ c.args.limit = grind arith in
    let whole : joined (take (c.loop-piece.piece-index + 1) c.args.pieces.now) ≡ flat_map frame commands ++ rest = grind (arith, common_steps) in
    let each = drained.each (subst (λ (n : ℕ). AllByRecursion (IsCommand n) (copied c.loop-piece.commands.items)) (sym limit) before.each) in
    reads_early c.args.limit (c.loop-piece.piece-index + 1) c.args.pieces.now commands rest c.in_ok-fault.fault whole
    (subst (λ (n : ℕ). AllByRecursion (IsCommand n) commands) limit each)
    (subst (λ (n : ℕ). IsRest n rest c.in_ok-fault.fault) limit drained.rest)
    (sym c.if-is_some.ensures)
