-- The list of objects determines the schema, so opening after a crash finds the tables that the office made.
use Rattle.std.proofs.Common.{◌≡◌, ◌+◌, ◌≤◌, ℕ, zero, suc, pos, true, false, List, [], ◌∷◌, length, map, filter, slice_get, Some, inl, inr, refl, sym, ap, subst, ◌∙◌, arith}
use Rattle.std.specs.List.{AllByRecursion, AllZip}
use Rattle.std.specs.Char.{to_ascii_lowercase}
use Rattle.std.proofs.lemmas.Map.Text.{is_eq-slice_cmp}
use Rattle.std.proofs.lemmas.Slice.Eq.{bytes_eq-Decides}
use Rattle.sqlite.specs.declared.types.Value.{Value}
use Rattle.sqlite.specs.declared.types.Value.TheVariants.{Null, Int, Real, Text, Blob}
use Rattle.sqlite.specs.Order.{Row, column}
use Rattle.sqlite.specs.Tree.{Trees}
use Rattle.sqlite_trees.specs.Tree.{IsAscending}
use Rattle.sqlite_schema.specs.Names.{same_name}
use Rattle.sqlite_trees.specs.Objects.{catalog_tree}
use Rattle.sqlite_rules.specs.Lists.{Has}
use Rattle.sqlite_rules.proofs.ListLemmas.{all_has}
use Rattle.sqlite.specs.Table.{Table}
use Rattle.sqlite.specs.Schema.{Schema}
use Rattle.sqlite_schema.specs.declared.schema.Index.{Index}
use Rattle.sqlite_schema.specs.declared.schema.View.{View as Stored}
use Rattle.sqlite_catalog.specs.Listing.{IsSound, IsTableRow, IsIndexRow, IsViewRow, IsDefined, automatic, is_view_row, is_table_row, is_index_row}
use Rattle.oftp_tables.specs.Schema.{first_schema, office_schema, no_schema}
use Rattle.oftp_tables.proofs.WriteLemmas.{same_value}

zip_same : {A B : Type 0} (R S : A → B → Type 0) → ((x : A) (y z : B) → R x y → S x z → y ≡ z) → (xs : List A) (ys zs : List B) → AllZip R xs ys → AllZip S xs zs → ys ≡ zs
zip_same R S same [] [] [] p q = refl
zip_same R S same [] [] (z ∷ zs) p q = absurd q
zip_same R S same [] (y ∷ ys) zs p q = absurd p
zip_same R S same (x ∷ xs) [] zs p q = absurd p
zip_same R S same (x ∷ xs) (y ∷ ys) [] p q = absurd q
zip_same R S same (x ∷ xs) (y ∷ ys) (z ∷ zs) p q =
    let one : y ≡ z = same x y z p.0 q.0 in
    cc (zip_same R S same xs ys zs p.1 q.1)

same_tree : (v : Value) (m n : ℕ) → v ≡ Int (pos (m + 1)) → v ≡ Int (pos (n + 1)) → m ≡ n
same_tree v m n p q =
    let both : Int (pos (m + 1)) ≡ Int (pos (n + 1)) = sym p ∙ q in
    let next : m + 1 ≡ n + 1 = cc in
    omega (arith, next)

same_words : (v : Value) (s t : List ℕ) → v ≡ Text s → v ≡ Text t → s ≡ t
same_words v s t p q = let both : Text s ≡ Text t = sym p ∙ q in cc

table_same : (row : Row) (t u : Table) → IsTableRow row t → IsTableRow row u → t ≡ u
table_same row t u p q =
    let tree = same_tree _ t.tree u.tree p.described.id q.described.id in
    let text = same_words _ p.sql q.sql p.sql_is q.sql_is in
    let made : p.defined.0 ≡ q.defined.0 = same_value (sym p.defined.1 ∙ ap Rattle.sqlite.specs.Compile.table_defined_by text ∙ q.defined.1) in
    p.defined.2 ∙ ap (λ n. let it : Table = record p.defined.0 { tree = n } in it) tree ∙ ap (λ (m : Table). let it : Table = record m { tree = u.tree } in it) made ∙ sym q.defined.2

one_unique : (us : List (List ℕ)) (at : ℕ) (key : List ℕ) → length us ≤ 1 → slice_get us at ≡ Some key → at ≡ 0
one_unique [] at key few h = absurd (let e = h in cc)
one_unique (u ∷ us) zero key few h = refl
one_unique (u ∷ []) (suc at) key few h = absurd (let e = h in cc)
one_unique (u ∷ v ∷ us) (suc at) key few h = absurd (omega (arith, few))

named_itself : (name : List ℕ) → same_name name name ≡ true
unfolding same_name
named_itself name = is_eq-slice_cmp (map to_ascii_lowercase name) (map to_ascii_lowercase name) ∙ (bytes_eq-Decides (map to_ascii_lowercase name) (map to_ascii_lowercase name)).1 refl

apart : (a b : List ℕ) → a ≡ b → same_name a b ≡ false → ⊥
apart a b is no_match = let both = sym (named_itself a) ∙ ap (same_name a) is ∙ no_match in let e : true ≡ false = both in cc

one_table : (ts : List Table) (a b : Table) → IsAscending (λ (s t : Table). same_name s.name t.name ≡ false) ts → Has ts a → Has ts b → a.name ≡ b.name → a ≡ b
one_table [] a b named p q is = absurd p
one_table (t ∷ ts) a b named (inl p) (inl q) is = p ∙ sym q
one_table (t ∷ ts) a b named (inl p) (inr q) is = absurd (apart t.name b.name (sym (ap (λ (x : Table). x.name) p) ∙ is) (all_has _ ts b named.0 q))
one_table (t ∷ ts) a b named (inr p) (inl q) is = absurd (apart t.name a.name (sym (ap (λ (x : Table). x.name) q) ∙ sym is) (all_has _ ts a named.0 p))
one_table (t ∷ ts) a b named (inr p) (inr q) is = one_table ts a b named.1 p q is

defined_same : (t : Table) (i j : Index) (v : Value) → length t.uniques ≤ 1 → i.tree ≡ j.tree → IsDefined t i v → IsDefined t j v → i ≡ j
defined_same t i j Null few tree p q =
    let here = one_unique t.uniques p.0 p.1 few p.2 in
    let there = one_unique t.uniques q.0 q.1 few q.2 in
    let keys : Some p.1 ≡ Some q.1 = sym p.2 ∙ ap (slice_get t.uniques) (here ∙ sym there) ∙ q.2 in
    let key : p.1 ≡ q.1 = cc in
    p.3 ∙ ap (λ n. automatic t n p.1 i.tree) (here ∙ sym there) ∙ ap (λ k. automatic t q.0 k i.tree) key ∙ ap (automatic t q.0 q.1) tree ∙ sym q.3
defined_same t i j (Int n) few tree p q = absurd p
defined_same t i j (Real x) few tree p q = absurd p
defined_same t i j (Text sql) few tree p q =
    let made : p.0 ≡ q.0 = same_value (sym p.1 ∙ q.1) in
    p.2 ∙ ap (λ n. let it : Index = record p.0 { tree = n; table = t.tree } in it) tree ∙ ap (λ (m : Index). let it : Index = record m { tree = j.tree; table = t.tree } in it) made ∙ sym q.2
defined_same t i j (Blob b) few tree p q = absurd p

index_same : (ts : List Table) → IsAscending (λ (s t : Table). same_name s.name t.name ≡ false) ts → AllByRecursion (λ (t : Table). length t.uniques ≤ 1) ts → (row : Row) (i j : Index)
    → IsIndexRow ts row i → IsIndexRow ts row j → i ≡ j
index_same ts named few row i j p q =
    let owner = same_words _ p.table.name q.table.name p.described.owner_is q.described.owner_is in
    let table : p.table ≡ q.table = one_table ts p.table q.table named p.listed q.listed owner in
    defined_same q.table i j (column row 4) (all_has _ ts q.table few q.listed) (same_tree _ i.tree j.tree p.described.id q.described.id)
    (subst (λ t. IsDefined t i (column row 4)) table p.defined) q.defined

no_views : (rows : List Row) (ws : List Stored) → AllZip IsViewRow rows [] → AllZip IsViewRow rows ws → ws ≡ []
no_views [] [] p q = refl
no_views [] (w ∷ ws) p q = absurd q
no_views (r ∷ rows) ws p q = absurd p

schema_is : (ours s : Schema) (db : Trees) → ours.views ≡ [] → AllByRecursion (λ (t : Table). length t.uniques ≤ 1) ours.tables → IsSound ours db → IsSound s db → s ≡ ours
schema_is ours s db unviewed few ours_is theirs =
    let p = ours_is.lists.listed in
    let q = theirs.lists.listed in
    let objects = db catalog_tree in
    let tables : s.tables ≡ ours.tables = zip_same IsTableRow IsTableRow table_same (filter is_table_row objects) s.tables ours.tables q.tables p.tables in
    let theirs_indexes : AllZip (IsIndexRow ours.tables) (filter is_index_row objects) s.indexes = subst (λ ts. AllZip (IsIndexRow ts) (filter is_index_row objects) s.indexes) tables q.indexes in
    let indexes : s.indexes ≡ ours.indexes =
    zip_same (IsIndexRow ours.tables) (IsIndexRow ours.tables) (index_same ours.tables p.named few) (filter is_index_row objects) s.indexes ours.indexes theirs_indexes p.indexes in
    let views : s.views ≡ [] = no_views (filter is_view_row objects) s.views (subst (λ ws. AllZip IsViewRow (filter is_view_row objects) ws) unviewed p.views) q.views in
    ap (λ ts. let it : Schema = record { tables = ts; indexes = s.indexes; views = s.views } in it) tables
    ∙ ap (λ is. let it : Schema = record { tables = ours.tables; indexes = is; views = s.views } in it) indexes
    ∙ ap (λ ws. let it : Schema = record { tables = ours.tables; indexes = ours.indexes; views = ws } in it) (views ∙ sym unviewed)

pub same_schema : (s : Schema) (db : Trees) → IsSound office_schema db → IsSound s db → s ≡ office_schema
same_schema s db = schema_is office_schema s db refl (omega arith, (omega arith, (omega arith, (omega arith, (omega arith, (omega arith, (omega arith, (omega arith, tt))))))))

pub same_first : (s : Schema) (db : Trees) → IsSound first_schema db → IsSound s db → s ≡ first_schema
same_first s db = schema_is first_schema s db refl (omega arith, (omega arith, (omega arith, (omega arith, (omega arith, (omega arith, (omega arith, tt)))))))

pub same_none : (s : Schema) (db : Trees) → IsSound no_schema db → IsSound s db → s ≡ no_schema
same_none s db = schema_is no_schema s db refl tt
