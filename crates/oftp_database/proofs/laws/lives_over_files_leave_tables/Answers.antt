use Rattle.sqlite.specs.Files.{over_files}
use Rattle.oftp_store.specs.Shown.{shown}
use Rattle.oftp_database.proofs.Remembering.{blank_counts, left_inside}
use Rattle.oftp_database.proofs.laws.lives_over_files_leave_tables.Goals as goal

pub returns : goal.returns
returns c = λ began now acts over blank left clean r has.
    c.lives_leave_tables.ensures began.office.office now.office.office acts over
    (λ is_clean stands. left_inside (shown over_files began.office.office).register acts over now.office.counts (shown over_files now.office.office)
    (left is_clean (stands, blank_counts (shown over_files began.office.office).register began.office.counts blank)))
    clean r has
