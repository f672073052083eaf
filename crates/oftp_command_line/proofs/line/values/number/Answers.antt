use Rattle.std.proofs.Common.{◌≡◌, ◌∙◌, ◌<◌, ◌^◌, ℕ, Option, Some, None, ap, is_some, sym, unwrap_or}
use Rattle.std.specs.Prelude.{Result, Ok, Err}
use Rattle.std.specs.Str.Parse.{ExplainsUnsignedError, HasUnsignedDigitsIfOk, IsNumeral, ParsesUnsigned, digits_value, without_leading_plus}
use Rattle.clap.specs.Words.{ReadsOne, Text, found_of, rows_of}
use Rattle.clap.proofs.WalkLemmas.{one_text-rows}
use Rattle.oftp_command_line.specs.Arguments.{given}
use Rattle.oftp_command_line.proofs.line.values.number.Goals as goal

-- a text of digits that fits is parsed as its number
read_number : (E : Type 0) (G : Text → Result ℕ E → Type 0) → ((t : Text) (x : Result ℕ E) → G t x → ParsesUnsigned 64 10 t x) → (t : Text) (r : Option ℕ)
    → ReadsOne G t r → IsNumeral 10 (without_leading_plus t) → digits_value 10 (without_leading_plus t) < 2 ^ 64
    → r ≡ Some (digits_value 10 (without_leading_plus t))
read_number E G only t (Some v) read digits fits = ap Some (only t (Ok v) read).1
read_number E G only t None read digits fits = absurd (only t (Err read.0) read.1 (digits, fits))

pub unwrap-requires : goal.unwrap-requires
unwrap-requires c =
    let f = found_of c.args.matches.now in
    let id = c.args.id.now in
    let is = c.requires.1.1 in
    ap is_some (read_number _ (λ t x. ParsesUnsigned 64 10 t x × ExplainsUnsignedError 10 t x × HasUnsignedDigitsIfOk t x) (λ t x read. read.0) (given id (rows_of f))
    c.get_one.result (c.get_one.ensures.value (given id (rows_of f)) (one_text-rows f id ∙ is.text)) is.digits is.fits)

pub returns : goal.returns
returns c =
    let f = found_of c.args.matches.now in
    let id = c.args.id.now in
    let is = c.requires.1.1 in
    ap (λ o. unwrap_or o 0) (sym c.unwrap.ensures ∙ read_number _ (λ t x. ParsesUnsigned 64 10 t x × ExplainsUnsignedError 10 t x × HasUnsignedDigitsIfOk t x)
    (λ t x read. read.0) (given id (rows_of f)) c.get_one.result (c.get_one.ensures.value (given id (rows_of f)) (one_text-rows f id ∙ is.text)) is.digits is.fits)
