use Rattle.std.proofs.Common.{◌≡◌, ◌+◌, ◌%◌, arith, refl}
use Rattle.oftp_digest.proofs.LaneLemmas.{slice_index-ring}
use Rattle.oftp_digest.proofs.rounds.next_word.Goals as goal

pub returns-clause-value : goal.returns-clause-value
returns-clause-value c j h =
    let place = c.args.place in
    let read = slice_index-ring c.args.w.now j in
    let here : place % 16 ≡ place = omega arith in
    rw (
      c.add-word.ensures j h,
      c.add.ensures j h,
      c.add-early.ensures j h,
      c.small_sigma1.ensures j h,
      c.small_sigma0.ensures j h,
      read ((place + 14) % 16) (omega arith),
      read ((place + 9) % 16) (omega arith),
      read ((place + 1) % 16) (omega arith),
      here,
      read place c.requires,
    ) refl
