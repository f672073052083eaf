use Rattle.std.proofs.Common.{ℕ, List, refl, sym, subst}
use Rattle.oftp_vfile.specs.declared.format.Format.{Format}
use Rattle.oftp_vfile.specs.LocalForm.{IsLocal}
use Rattle.oftp_vfile.specs.VirtualFile.{IsLongest}
use Rattle.oftp_vfile.proofs.LocalLemmas.{blocks_local, fixed_local, fixed_no, one_file}
use Rattle.oftp_vfile.proofs.local.VFile.from_local.Goals as goal
use Rattle.oftp_vfile.proofs.local.VFile.from_local.Goals.{in-Fixed+in_ok-rows-in-Fixed, in-Variable+in_ok-rows-in-Variable, in-Unstructured+in_ok-rows-in-Unstructured}

-- the rows that were read are the content's
is_file : (c : goal.After-new) → IsLocal c.args.format c.args.longest c.args.content.now c.new.result
is_file c =
    let longest = c.args.longest in
    let content = c.args.content.now in
    let there = c.is_local.ensures.yes c.if-not-is_local.false in
    let rows : IsLocal c.args.format longest content c.match-format.rows.items = elim c.match-format.branch [
      | in-Fixed+in_ok-rows-in-Fixed w ↦
          let h = subst (λ (x : Format). IsLongest x longest) w.in-Fixed.is c.requires in
          let even = fixed_no longest content there.0 (subst (λ (x : Format). IsLocal x longest content there.0) w.in-Fixed.is there.1) in
          let read = w.in_ok-rows-in-Fixed.ensures in
          let rows = w.in_ok-rows-in-Fixed.rows.items in
          let fixed = fixed_local longest content rows h.0 even read.0 read.1 in
          rw w.rows-is (subst (λ (x : Format). IsLocal x longest content rows) (sym w.in-Fixed.is) fixed)
      | in-Variable+in_ok-rows-in-Variable w ↦
          rw w.rows-is (subst (λ (x : Format). IsLocal x longest content w.in_ok-rows-in-Variable.rows.items) (sym w.in-Variable.is) w.in_ok-rows-in-Variable.ensures.ok)
      | in-Unstructured+in_ok-rows-in-Unstructured w ↦
          let read = w.in_ok-rows-in-Unstructured.ensures in
          rw w.rows-is (blocks_local c.args.format longest content w.in_ok-rows-in-Unstructured.rows.items w.in-Unstructured.is read.0 read.1)
    ] in
    subst (λ (x : List (List ℕ)). IsLocal c.args.format longest content x) (sym c.new.ensures) rows

pub returns-clause-file : goal.returns-clause-file
returns-clause-file c = (refl, is_file c)

pub returns-clause-read : goal.returns-clause-read
returns-clause-read c = λ rows i. (one_file c.args.format c.args.longest c.args.content.now c.new.result rows c.requires (is_file c) i, tt)
