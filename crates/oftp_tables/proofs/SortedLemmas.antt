-- What a query over one table with ORDER BY returns.
use Rattle.std.proofs.Common.{◌≡◌, ℕ, cond, List, [], ◌∷◌, map, flat_map, Less, sym, ap, subst, ◌∙◌}
use Rattle.std.specs.List.{list_all}
use Rattle.std.specs.List.Sorted.{IsPermutation}
use Rattle.std.proofs.lemmas.List.Sorted.{IsPermutation-trans}
use Rattle.std.proofs.lemmas.Cmp.{on_total}
use Rattle.sqlite_value.specs.declared.keys.Key.{Key}
use Rattle.sqlite_sql.proofs.QueryLemmas.{key_cmp_total}
use Rattle.sqlite_keyed.proofs.SortLemmas.{sorted_unique}
use Rattle.sqlite_trees.specs.Tree.{IsAscending}
use Rattle.sqlite.specs.Order.{Row}
use Rattle.sqlite.specs.Tree.{Trees}
use Rattle.sqlite.specs.Term.{Term, Env, holds}
use Rattle.sqlite.specs.Query.{Query, IsAnswer, Output, output, output_cmp, page}
use Rattle.sqlite.specs.Program.{overlay}
use Rattle.oftp_tables.proofs.QueryLemmas.{plain_query, no_overlay}

abbrev pub ordered_query : ℕ → List Term → List Term → List (Term × Key) → Term → Query
ordered_query tree filter project order limit = record (plain_query tree filter project) { order = order; limit = limit }

-- the rows that pass, each under the parameters
abbrev pub found : List Term → Row → List Row → List Env
found filter params = flat_map (λ r. cond (list_all (holds (params ∷ r ∷ [])) filter) ((params ∷ r ∷ []) ∷ []) [])

-- the rows have one order without ties, so this is the result
pub answers_in_order : (db : Trees) (tree : ℕ) (filter project : List Term) (order : List (Term × Key)) (limit : Term) (params : Row) (rows : List Row) (wanted : List Output)
    → IsAnswer (ordered_query tree filter project order limit) (overlay db []) params rows
    → IsAscending (λ a b. output_cmp (ordered_query tree filter project order limit) a b ≡ Less) wanted
    → IsPermutation wanted (map (output (ordered_query tree filter project order limit)) (found filter params (db tree)))
    → rows ≡ page (ordered_query tree filter project order limit) params (map (λ (o : Output). o.1) wanted)
answers_in_order db tree filter project order limit params rows wanted a rising same =
    let q = ordered_query tree filter project order limit in
    let staged : a.staged ≡ found filter params (db tree) = a.grouped ∙ ap (found filter params) (no_overlay db tree) in
    let kept : map (output q) (found filter params (db tree)) ≡ a.kept = sym (a.distinct ∙ ap (map (output q)) staged) in
    let there : IsPermutation wanted a.ordered = IsPermutation-trans wanted a.kept a.ordered (subst (IsPermutation wanted) kept same) a.same in
    let order_is : a.ordered ≡ wanted = sorted_unique (output_cmp q) (on_total (λ (o : Output). o.0) (key_cmp_total (map (λ k. k.1) order) 0)) wanted a.ordered rising there a.sorted in
    a.shown ∙ ap (λ (os : List Output). page q params (map (λ (o : Output). o.1) os)) order_is
