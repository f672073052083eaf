use Rattle.std.proofs.Common.{◌≡◌, ◌+◌, ◌*◌, ◌%◌, ◌∙◌, ap, arith, refl, slice_index}
use Rattle.sha2.specs.Sha256.{round_constants}
use Rattle.sha2.proofs.Schedule256.{IsRoundsAt_at, rounds_window, window_word_place}
use Rattle.oftp_digest.specs.Lanes.{lane, ring}
use Rattle.oftp_digest.proofs.LaneLemmas.{ring-slice_set}
use Rattle.oftp_digest.proofs.rounds.step.Goals as goal

pub returns : goal.returns
returns c j b h low held =
    let t = 16 * c.args.turn + c.args.place in
    let at : t % 16 ≡ c.args.place = omega arith in
    let before = ring c.args.w.now j in
    let after = ring c.next_word-word.new.w j in
    let word = c.next_word-word.ensures in
    let put = ap (λ w. ring w j) word.window ∙ ring-slice_set c.args.w.now c.args.place j c.next_word-word.result (omega arith) c.requires.place in
    let next = lane c.round.result j in
    IsRoundsAt_at b h after next (t + 1) (16 * c.args.turn + (c.args.place + 1)) (omega arith)
    (rounds_window b h before (lane c.args.v j) t (slice_index round_constants t) (slice_index c.next_word-word.result j) after next
    (omega arith) (omega arith) held.0 held.1 (word.value j low ∙ window_word_place before c.args.turn c.args.place) (rw at put) refl (c.round.ensures j low))
