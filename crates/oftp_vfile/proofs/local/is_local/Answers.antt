use Rattle.std.proofs.Common.{◌%◌, length, sym, subst}
use Rattle.std.proofs.lemmas.Bool.{eqb-true, eq-eqb}
use Rattle.oftp_vfile.specs.declared.format.Format.{Format}
use Rattle.oftp_vfile.specs.LocalForm.{IsLocal}
use Rattle.oftp_vfile.specs.VirtualFile.{IsLongest}
use Rattle.oftp_vfile.proofs.LocalLemmas.{fixed_yes, fixed_no, stream_local}
use Rattle.oftp_vfile.proofs.local.is_local.Goals as goal

pub returns-in-Fixed-clause-yes : goal.returns-in-Fixed-clause-yes
returns-in-Fixed-clause-yes c = λ e.
    let longest = c.args.longest in
    let h = subst (λ (x : Format). IsLongest x longest) c.in-Fixed.is c.requires in
    let r = fixed_yes longest c.args.content.now h.0 (eqb-true (length c.args.content.now % longest) 0 e) in
    (r.0, subst (λ (x : Format). IsLocal x longest c.args.content.now r.0) (sym c.in-Fixed.is) r.1)

pub returns-in-Fixed-clause-no : goal.returns-in-Fixed-clause-no
returns-in-Fixed-clause-no c = λ rows i.
    let longest = c.args.longest in
    let local = subst (λ (x : Format). IsLocal x longest c.args.content.now rows) c.in-Fixed.is i in
    eq-eqb (length c.args.content.now % longest) 0 (fixed_no longest c.args.content.now rows local)

pub returns-in-Unstructured-clause-yes : goal.returns-in-Unstructured-clause-yes
returns-in-Unstructured-clause-yes c = λ _. stream_local c.args.format c.args.longest c.args.content.now c.in-Unstructured.is
