use Rattle.std.proofs.Common.{◌≡◌, ◌∙◌, ◌+◌, ◌<◌, ℕ, List, Option, Some, ap, arith, drop, false, get_or, if◌then◌else◌, length, map, sym, true}
use Rattle.std.specs.Str.{bytes_eq}
use Rattle.std.proofs.lemmas.List.{at_drop_more, length-map}
use Rattle.clap.specs.Words.{Text}
use Rattle.oftp_command_line.specs.Arguments.{named}
use Rattle.oftp_command_line.specs.Line.{command_names}
use Rattle.oftp_command_line.specs.Told.{with_name}
use Rattle.oftp_command_line.specs.declared.line.commands.Name.{Name}
use Rattle.oftp_command_line.specs.declared.line.table.Declaration.{Declaration}
use Rattle.oftp_command_line.proofs.line.commands.Name.of.Goals as goal

-- one more command
next_command : (all : List Declaration) (text : Text) (i : ℕ) (d : Declaration) → map with_name all ≡ command_names → i < 28
    → named (map with_name (drop i all)) text
    ≡ (if bytes_eq text (get_or all i d).word.now then Some (get_or all i d).name else named (map with_name (drop (i + 1) all)) text)
next_command all text i d names within =
    let long : length all ≡ 28 = sym (length-map all with_name) ∙ ap length names in
    at_drop_more (λ rest. named (map with_name rest) text) all i d (omega (arith, long, within))

-- it has the name
hit : (all : List Declaration) (text : Text) (i : ℕ) (d : Declaration) (o : Option Name) → map with_name all ≡ command_names → i < 28
    → bytes_eq text (get_or all i d).word.now ≡ true → named (map with_name (drop i all)) text ≡ o → Some (get_or all i d).name ≡ o
hit all text i d o names within is so_far =
    let next = next_command all text i d names within in
    sym (rw is at next) ∙ so_far

-- it has another
missed : (all : List Declaration) (text : Text) (i : ℕ) (d : Declaration) (o : Option Name) → map with_name all ≡ command_names → i < 28
    → bytes_eq text (get_or all i d).word.now ≡ false → named (map with_name (drop i all)) text ≡ o → named (map with_name (drop (i + 1) all)) text ≡ o
missed all text i d o names within is so_far =
    let next = next_command all text i d names within in
    sym (rw is at next) ∙ so_far

pub loop-declaration-init : goal.loop-declaration-init
loop-declaration-init c = ap (λ names. named names c.args.word.now) c.declarations-all.ensures.names

pub returns-then-eq : goal.returns-then-eq
returns-then-eq c =
    hit c.declarations-all.result c.args.word.now c.loop-declaration.declaration-index _ _ c.declarations-all.ensures.names c.loop-declaration-test.true
    (sym c.eq.ensures ∙ c.if-eq.true) c.loop-declaration.invariant

pub loop-declaration-preserved : goal.loop-declaration-preserved
loop-declaration-preserved c =
    missed c.declarations-all.result c.args.word.now c.loop-declaration.declaration-index _ _ c.declarations-all.ensures.names c.loop-declaration-test.true
    (sym c.eq.ensures ∙ c.if-eq.false) c.loop-declaration.invariant
