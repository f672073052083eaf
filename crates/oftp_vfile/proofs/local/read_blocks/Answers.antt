use Rattle.std.proofs.Common.{ap, ◌∙◌, ◌++◌, ◌∷◌, [], List, ℕ}
use Rattle.oftp_vfile.proofs.LocalLemmas.{block_more, some_left}
use Rattle.oftp_vfile.proofs.local.read_blocks.Goals as goal

pub loop-rest-preserved : goal.loop-rest-preserved
loop-rest-preserved c =
    let l = c.loop-rest in
    let i = l.invariant in
    let some = some_left l.rest.now _ c.is_empty.ensures c.loop-rest-test.true in
    let pushed = c.in_ok-push.ensures.items ∙ ap (λ (x : List ℕ). l.rows.items ++ x ∷ []) (c.new.ensures ∙ c.in_ok-from_slice.ensures.items) in
    let rows = c.push.new.self.items in
    let cut = c.split_at in
    let more = block_more c.args.size c.min.result c.args.content.now l.rest.now cut.result.0.now cut.result.1.now l.rows.items rows pushed in
    let b = more cut.ensures.front cut.ensures.back c.min.ensures c.requires some i.joined (i.full some) in
    record { joined = b.0; blocks = b.1; full = b.2 }
