-- How statements make up a transaction over the office's tables.
use Rattle.std.proofs.Common.{◌≡◌, ℕ, List, false, Result, Ok, Err, IsTrue, sym, subst}
use Rattle.std.specs.Result.{IsErrAnd}
use Rattle.sqlite_trees.specs.declared.store.Store.{Ghosts}
use Rattle.sqlite.specs.Held.{Held, state}
use Rattle.sqlite.specs.Order.{Row}
use Rattle.sqlite.specs.Tree.{Trees}
use Rattle.sqlite.specs.Effect.{Database}
use Rattle.sqlite.specs.State.{ExecutesInside, HasCleanDisk, Survives}
use Rattle.sqlite.specs.declared.error.Error.{Error}
use Rattle.sqlite.specs.declared.error.Error.TheVariants.{SqliteFailure}
use Rattle.sqlite.specs.declared.error.ErrorCode.TheVariants.{TransactionState}
use Rattle.oftp_tables.specs.Schema.{office_schema}
use Rattle.oftp_tables.proofs.RunLemmas.{nothing_runs, runs_fails, runs_then, runs_weaker, runs_whatever, statement_runs, tells}
use Rattle.oftp_tables.specs.Statements.{IsOffice, Moves, Performs, uncounted}

-- one statement and then another
pub moves_then : (P Q R : Trees → Trees → Type 0) → ((x y z : Trees) → P x y → Q y z → R x z) → (a b c : Database) → Moves P a b → Moves Q b c → Moves R a c
moves_then P Q R both a b c one two = record { schema = two.schema; made = both _ _ _ one.made two.made; store = two.store }

-- what a statement made is what was wanted
pub moves_as : (Made Wanted : Trees → Trees → Type 0) (old new : Database) → ((x y : Trees) → Made x y → Wanted x y) → Moves Made old new → Moves Wanted old new
moves_as Made Wanted old new weaker moved = record { schema = moved.schema; made = weaker _ _ moved.made; store = moved.store }

-- whatever their results
pub performs_whatever : {S T U : Type 0} (g : Ghosts S) (old new : Held S) (Made : Trees → Trees → Type 0) (x : T) (y : U) → Performs Made g old new (Ok x) → Performs Made g old new (Ok y)
performs_whatever g old new Made x y one = record { runs = runs_whatever IsOffice (Moves Made) (state g old) (state g new) x y one.runs; told = λ clean. tt }

-- the first of them failed
pub performs_fails : {S T U : Type 0} (g : Ghosts S) (old new : Held S) (Made Other : Trees → Trees → Type 0) (e : Error) → Performs {T = T} Made g old new (Err e)
    → Performs {T = U} Other g old new (Err e)
performs_fails g old new Made Other e one = record { runs = runs_fails IsOffice (Moves Made) (Moves Other) (state g old) (state g new) e e one.runs; told = one.told }

-- and `?` passed the error on
pub performs_passed : {S T : Type 0} (g : Ghosts S) (old new : Held S) (Made : Trees → Trees → Type 0) (e : Error) (result : Result T Error) → IsErrAnd result (λ (x : Error). x ≡ e)
    → Performs {T = T} Made g old new (Err e) → Performs Made g old new result
performs_passed g old new Made e (Ok x) is one = absurd is
performs_passed {T = T} g old new Made e (Err x) is one = subst (λ (x : Error). Performs {T = T} Made g old new (Err x)) (sym is) one

-- one statement, however many rows it changed
pub performs : {S : Type 0} (g : Ghosts S) (old new : Held S) (Made : Trees → Trees → Type 0) (sql : List ℕ) (params : Row) (count : Result ℕ Error)
    → ((state g old).in_transaction ≡ false → (count ≡ Err (SqliteFailure TransactionState)) × (new ≡ old))
    → (HasCleanDisk (state g new) → IsTrue (state g old).in_transaction → ExecutesInside 0 sql params (state g old) (state g new) count)
    → Survives (state g old) (state g new) (λ _. ⊥)
    → ((n : ℕ) → (state g old).now.schema ≡ office_schema → ExecutesInside 0 sql params (state g old) (state g new) (Ok n) → Moves Made (state g old).now (state g new).now)
    → Performs Made g old new (uncounted count)
performs g old new Made sql params count ended runs survives made =
    forgets count (record {
      runs = statement_runs g old new IsOffice (Moves Made) sql params _ count ended runs survives (λ n ours. made n ours.schema);
      told = λ clean. tells g sql params old new count ended (runs clean);
    })
  where
    forgets : (count : Result ℕ Error) → Performs Made g old new count → Performs Made g old new (uncounted count)
    forgets (Ok n) one = performs_whatever g old new Made n tt one
    forgets (Err e) one = performs_fails g old new Made Made e one

-- what statements made is what was wanted
pub performs_as : {S T : Type 0} (g : Ghosts S) (old new : Held S) (Made Wanted : Trees → Trees → Type 0) (result : Result T Error) → ((x y : Trees) → Made x y → Wanted x y)
    → Performs Made g old new result → Performs Wanted g old new result
performs_as g old new Made Wanted result weaker one = record {
  runs = runs_weaker IsOffice IsOffice (Moves Made) (Moves Wanted) (state g old) (state g new) result (λ d ours. ours) (λ d e ours. moves_as Made Wanted d e weaker) one.runs;
  told = one.told;
}

-- no statement
pub performs_nothing : {S T : Type 0} (g : Ghosts S) (s : Held S) (Made : Trees → Trees → Type 0) (x : T) → ((db : Trees) → Made db db) → Performs Made g s s (Ok x)
performs_nothing g s Made x same = record {
  runs = nothing_runs IsOffice (Moves Made) (state g s) (Ok x) (λ d ours. record { schema = ours.schema; made = same d.trees; store = ours.store });
  told = λ clean. tt;
}

-- some statements and then others
pub performs_then : {S T U : Type 0} (g : Ghosts S) (a b c : Held S) (P Q R : Trees → Trees → Type 0) (x : T) (result : Result U Error) → ((d e f : Trees) → P d e → Q e f → R d f)
    → Performs P g a b (Ok x) → Performs Q g b c result → Performs R g a c result
performs_then g a b c P Q R x result both one two = record {
  runs = runs_then IsOffice IsOffice (Moves P) (Moves Q) (Moves R) (state g a) (state g b) (state g c) x result (λ d e ours made. record { schema = made.schema; store = made.store })
      (moves_then P Q R both) one.runs two.runs;
  told = two.told;
}
