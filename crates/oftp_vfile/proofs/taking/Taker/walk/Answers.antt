use Rattle.std.proofs.Common.{ℕ, List, Bool, ◌<◌, ◌≡◌, ◌∷◌, length, get_or, take, drop, arith, sym, subst, ap, ◌∙◌}
use Rattle.std.specs.List.{between}
use Rattle.std.proofs.lemmas.Slice.{first_rest}
use Rattle.oftp_vfile.specs.Subrecord.{count_in, has_end}
use Rattle.oftp_vfile.specs.Taking.{Walked, added}
use Rattle.oftp_vfile.proofs.TakingLemmas.{walked_more}
use Rattle.oftp_vfile.proofs.taking.Taker.walk.Goals as goal

pub loop-rest-preserved : goal.loop-rest-preserved
loop-rest-preserved c =
    let old = c.args.self.now in
    let mid = c.loop-rest.self in
    let new = c.add.new.self in
    let payload = c.args.payload.now in
    let rest = c.loop-rest.rest.now in
    let some : 0 < length rest = omega arith in
    let h : ℕ = get_or rest 0 0 in
    let after : List ℕ = between 1 (length rest) rest in
    let split : rest ≡ h ∷ after = first_rest rest 0 some in
    let w = subst (λ (x : List ℕ). Walked old mid payload x) split c.loop-rest.invariant in
    let front : c.split_at.result.0.now ≡ take (count_in h) after = c.split_at.ensures.front ∙ ap (λ n. take n after) c.count_in.ensures in
    let back : c.split_at.result.1.now ≡ drop (count_in h) after = c.split_at.ensures.back ∙ ap (λ n. drop n after) c.count_in.ensures in
    let grown = c.in_ok-add.ensures.ok ∙ ap (λ (b : Bool). added mid (record { ends = b; octets = c.split_at.result.0.now })) c.has_end.ensures
    ∙ ap (λ (x : List ℕ). added mid (record { ends = has_end h; octets = x })) front in
    let done = walked_more old mid new payload after h w (sym c.in_default-fault_at.ensures) (omega arith) grown in
    subst (λ (x : List ℕ). Walked old new payload x) (sym back) done
