use Rattle.std.proofs.Common.{◌≡◌, ◌∙◌, ◌+◌, ◌<◌, ℕ, List, Some, ◌∷◌, ap, drop, false, get_or, if◌then◌else◌, length, sym, true}
use Rattle.std.specs.Borrow.{Bor}
use Rattle.std.specs.Str.{bytes_eq}
use Rattle.std.proofs.lemmas.List.{at_drop_more}
use Rattle.clap.specs.Words.{Text}
use Rattle.oftp_command_line.specs.Arguments.{named}
use Rattle.oftp_command_line.specs.Told.{names_in}
use Rattle.oftp_command_line.proofs.line.values.named.Goals as goal

-- one more name
next_name : {X : Type 0} (names : List (Bor Text × X)) (text : Text) (i : ℕ) (name : Bor Text × X) → i < length names → name ≡ get_or names i name
    → named (names_in (drop i names)) text ≡ (if bytes_eq text name.0.now then Some name.1 else named (names_in (drop (i + 1) names)) text)
next_name names text i name within is =
    at_drop_more (λ rest. named (names_in rest) text) names i name within ∙ ap (λ (one : Bor Text × _). named (names_in (one ∷ drop (i + 1) names)) text) (sym is)

pub returns-then-eq : goal.returns-then-eq
returns-then-eq g c =
    let name = c.loop-name-item.result in
    let hit : bytes_eq c.args.text.now name.0.now ≡ true = sym c.eq.ensures ∙ c.if-eq.true in
    let next = next_name c.args.names.now c.args.text.now c.loop-name.name-index name c.loop-name-test.true c.loop-name-item.is in
    sym (rw hit at next) ∙ c.loop-name.invariant

pub loop-name-preserved : goal.loop-name-preserved
loop-name-preserved g c =
    let name = c.loop-name-item.result in
    let miss : bytes_eq c.args.text.now name.0.now ≡ false = sym c.eq.ensures ∙ c.if-eq.false in
    let next = next_name c.args.names.now c.args.text.now c.loop-name.name-index name c.loop-name-test.true c.loop-name-item.is in
    sym (rw miss at next) ∙ c.loop-name.invariant
