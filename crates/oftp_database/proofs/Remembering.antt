-- What a life leaves over an office that remembers, it leaves over the office in it.
use Rattle.std.proofs.Common.{◌≡◌, ◌∙◌, sym, Bool, List, None, Some}
use Rattle.sqlite_trees.specs.declared.store.Store.{Ghosts}
use Rattle.oftp_register.specs.Offices.{View}
use Rattle.oftp_register.specs.Register.{Register}
use Rattle.oftp_store.specs.Shown.{shown}
use Rattle.oftp_store.specs.declared.office.SqlOffice.{SqlOffice}
use Rattle.oftp_listing.specs.Remembering.{AreCountsOf, IsBlank, remembering}
use Rattle.oftp_listing.specs.declared.counts.OctetCounts.{OctetCounts}
use Rattle.oftp_listing.specs.declared.remembering.RememberingOffice.{RememberingOffice}
use Rattle.oftp_life.specs.Acts.{Act}
use Rattle.oftp_life.specs.Lives.{HasLeft, IsLeft}
use Rattle.oftp_database.specs.Seen.{seen_over}

-- where nothing is remembered, all that is remembered is true of each register
pub blank_counts : (r : Register) (counts : OctetCounts) → IsBlank counts → AreCountsOf r counts
blank_counts r counts blank which n units is = absurd (let no : Some units ≡ None = sym is ∙ blank which n in cc)

pub left_inside : (first : Register) (acts : List Act) (over : Bool) (counts : OctetCounts) (v : View) → IsLeft first acts over (remembering counts v) → IsLeft first acts over v
left_inside first acts over counts v h =
    let life = h.leaves in
    record {
      leaves = record {
        changes = life.changes;
        least = life.least;
        made = life.made;
        covers = life.covers;
        leaves = record { kept = life.leaves.kept; few = life.leaves.few; register = life.leaves.register; left = life.leaves.left };
      };
      rests = λ is. let rests = h.rests is in record { changes = rests.changes; reached = rests.reached; stands = rests.stands.0; left = rests.left };
    }

-- the same over a database, where the life began with nothing remembered
pub left_over : {S : Type 0} (g : Ghosts S) (began now : RememberingOffice (SqlOffice S g)) (acts : List Act) (over : Bool) → IsBlank began.counts
    → HasLeft (seen_over g) began acts over now → HasLeft (shown g) began.office acts over now.office
left_over g began now acts over blank left = λ is_clean stands.
    let first = (shown g began.office).register in
    left_inside first acts over now.counts (shown g now.office) (left is_clean (stands, blank_counts first began.counts blank))
