-- A table that is as wanted field by field is the wanted table.
use Rattle.std.proofs.Common.{◌≡◌, [], false, refl, sym, ap, subst, ◌∙◌}
use Rattle.sqlite.specs.Table.{Table}
use Rattle.sqlite_schema.specs.declared.schema.Stamps.{Stamps}
use Rattle.oftp_tables.specs.InsideShape.{AreAlike, HasNothingElse, table_of}
use Rattle.oftp_tables.specs.declared.wanted.Wanted.{Wanted}
use Rattle.oftp_tables.specs.declared.wanted.Wanted.TheVariants.{Numbered, Rows}

stamps_same : (s : Stamps) → s.places ≡ [] → s.terms ≡ [] → s.formats ≡ [] → s ≡ record { places = []; terms = []; formats = [] }
stamps_same s p t f =
    ap (λ x. let it : Stamps = record { places = x; terms = s.terms; formats = s.formats } in it) p ∙ ap (λ x. let it : Stamps = record { places = []; terms = x; formats = s.formats } in it) t
    ∙ ap (λ x. let it : Stamps = record { places = []; terms = []; formats = x } in it) f

table_same : (t u : Table) → AreAlike t u → HasNothingElse u → t ≡ u
table_same t u a e =
    let stamps : t.stamps ≡ u.stamps = stamps_same t.stamps a.nothing_else.places a.nothing_else.terms a.nothing_else.formats ∙ sym (stamps_same u.stamps e.places e.terms e.formats) in
    ap (λ x. let it : Table = record t { name = x } in it) a.name
    ∙ ap (λ x. let it : Table = record t { name = u.name; tree = x } in it) a.tree
    ∙ ap (λ x. let it : Table = record t { name = u.name; tree = u.tree; columns = x } in it) a.columns
    ∙ ap (λ x. let it : Table = record t { name = u.name; tree = u.tree; columns = u.columns; key = x } in it) a.key
    ∙ ap (λ x. let it : Table = record t { name = u.name; tree = u.tree; columns = u.columns; key = u.key; primary = x } in it) a.primary
    ∙ ap (λ x. let it : Table = record t { name = u.name; tree = u.tree; columns = u.columns; key = u.key; primary = u.primary; uniques = x } in it) a.uniques
    ∙ ap (λ x. let it : Table = record u { orders = x; checks = t.checks; references = t.references; computed = t.computed; stamps = t.stamps; is_counted = t.is_counted } in it) a.orders
    ∙ ap (λ x. let it : Table = record u { checks = x; references = t.references; computed = t.computed; stamps = t.stamps; is_counted = t.is_counted } in it) (a.nothing_else.checks ∙ sym e.checks)
    ∙ ap (λ x. let it : Table = record u { references = x; computed = t.computed; stamps = t.stamps; is_counted = t.is_counted } in it) a.references
    ∙ ap (λ x. let it : Table = record u { computed = x; stamps = t.stamps; is_counted = t.is_counted } in it) (a.nothing_else.computed ∙ sym e.computed)
    ∙ ap (λ x. let it : Table = record u { stamps = x; is_counted = t.is_counted } in it) stamps
    ∙ ap (λ x. let it : Table = record u { is_counted = x } in it) (a.nothing_else.counted ∙ sym e.counted)

alike : (t : Table) → HasNothingElse t → AreAlike t t
alike t e = record { name = refl; tree = refl; columns = refl; key = refl; primary = refl; uniques = refl; orders = refl; references = refl; nothing_else = e }

nothing : (t : Table) → t.checks ≡ [] → t.computed ≡ [] → t.stamps ≡ record { places = []; terms = []; formats = [] } → t.is_counted ≡ false → HasNothingElse t
nothing t c d s n =
    record { checks = c; computed = d; places = ap (λ (x : Stamps). x.places) s; terms = ap (λ (x : Stamps). x.terms) s; formats = ap (λ (x : Stamps). x.formats) s; counted = n }

pub nothing_else : (wanted : Wanted) → HasNothingElse (table_of wanted)
nothing_else (Numbered name tree columns unique parent) = nothing _ refl refl refl refl
nothing_else (Rows name tree parent) = nothing _ refl refl refl refl

pub alike_then : (t u : Table) → HasNothingElse u → AreAlike t u → t ≡ u
alike_then t u e a = table_same t u a e

pub same_then : (t u : Table) → HasNothingElse u → t ≡ u → AreAlike t u
same_then t u e is = subst (λ x. AreAlike x u) (sym is) (alike u e)
