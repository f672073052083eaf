use Rattle.std.proofs.Common.{◌≡◌, ◌≤◌, ap, sym, subst, ◌∙◌, ◌++◌, ◌∷◌, [], List, ℕ, length, All}
use Rattle.std.proofs.lemmas.List.Elements.{All-push}
use Rattle.oftp_vfile.specs.declared.format.Format.TheVariants.{Variable}
use Rattle.oftp_vfile.specs.LocalForm.{local_of}
use Rattle.oftp_vfile.proofs.LocalLemmas.{goes_on, goes_wrong, some_left, read_more}
use Rattle.oftp_vfile.proofs.local.read_records.Goals as goal

pub returns-in_default-clause-err : goal.returns-in_default-clause-err
returns-in_default-clause-err c =
    λ _ rows i. goes_wrong c.args.longest c.args.content.now c.loop-rest.rest.now c.loop-rest.invariant.goes (some_left _ _ c.is_empty.ensures c.loop-rest-test.true) c.in_default.ensures.none rows i

pub loop-rest-preserved : goal.loop-rest-preserved
loop-rest-preserved c =
    let l = c.loop-rest in
    let i = l.invariant in
    let rest = l.rest.now in
    let row = c.in-Some.record.now in
    let behind = c.in-Some.behind.now in
    let longest = c.args.longest in
    let content = c.args.content.now in
    let found = c.in-Some.ensures.found in
    let pushed : c.push.new.self.items ≡ l.rows.items ++ row ∷ [] = c.in_ok-push.ensures.items ∙ ap (λ (x : List ℕ). l.rows.items ++ x ∷ []) (c.new.ensures ∙ c.in_ok-from_slice.ensures.items) in
    record {
      goes = goes_on longest content rest row behind c.requires i.goes found;
      short = subst (λ (x : List (List ℕ)). All (λ (r : List ℕ). length r ≤ longest) x) (sym pushed) (All-push (λ (r : List ℕ). length r ≤ longest) l.rows.items row i.short found.1);
      joined = read_more longest content rest row behind l.rows.items i.joined found.0 ∙ ap (λ (x : List (List ℕ)). local_of Variable x ++ behind) (sym pushed);
    }
