use Rattle.std.proofs.Common.{rules, ◌≡◌, ◌+◌, ◌*◌, ◌<◌, ℕ, Some, Ok, arith, sym, subst}
use Rattle.std.specs.List.{All}
use Rattle.std.proofs.lemmas.List.{get_or_default}
use Rattle.oftp_codec.specs.Stream.{front, sized, len_of, Finds}
use Rattle.oftp_codec.proofs.Fronts.{front_finds}
use Rattle.oftp_codec.proofs.deframer.frame_len.Goals as goal

pub returns-else-command-len-clause-found : goal.returns-else-command-len-clause-found
unfolding front sized
returns-else-command-len-clause-found c =
    let s = c.args.rest.now in
    let small : All (λ (x : ℕ). x < 256) s = λ k d h. omega (arith, get_or_default s k d 0 h, c.type_inv.rest k) in
    let found : Ok (Some (c.from.result * 65536 + c.from-in-16.result * 256 + c.from-in-16-2.result)) ≡ len_of (front c.args.limit s) = search rules in
    subst (Finds c.args.limit s) (sym found) (front_finds c.args.limit s small)
