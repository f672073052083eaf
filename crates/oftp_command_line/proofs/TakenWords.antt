-- What a parse of a simple command says of `taken`.
use Rattle.std.proofs.Common.{◌≡◌, inl, inr, refl, ap, sym, true, List, [], ◌∷◌, Some, None}
use Rattle.clap.specs.Words.{App, HasKind, IsAmong, Kinds, Row, Text, HasMatchesOf, fault_of, found_of, is_simple, is_simple_and_free, kind_of, matches_of, rows_of}
use Rattle.clap.specs.Faults.{is_free_app}
use Rattle.clap.specs.Simple.{built}
use Rattle.clap.specs.declared.error.Error.{Error}
use Rattle.clap.specs.declared.error.kind.ErrorKind.TheVariants as kind
use Rattle.clap.specs.declared.parser.matches.ArgMatches.{ArgMatches}
use Rattle.clap.proofs.WalkLemmas.{both}
use Rattle.oftp_command_line.specs.Arguments.{taken, unless_any}

pub taken_some : (a : App) (words : List Text) (m : ArgMatches) → is_simple_and_free a ≡ true → fault_of a words ≡ []
    → HasMatchesOf a words m → taken a words ≡ Some (rows_of (found_of m))
unfolding taken
taken_some a words m simple none has =
    let rows = (has (both (is_simple a) (is_free_app (built a)) simple).0).0 in
    rw none (ap Some (sym rows))

among_some : (e : Error) (kinds : Kinds) (rows : List Row) → IsAmong (kind_of e) kinds → unless_any kinds rows ≡ None
among_some e [] rows h = absurd h
among_some e (k ∷ ks) rows h = refl

pub taken_none : (a : App) (words : List Text) (e : Error) → HasKind (fault_of a words) e → (kind_of e ≡ kind.OutOfMemory → ⊥) → taken a words ≡ None
unfolding taken
taken_none a words e (inl memory) other = absurd (other memory)
taken_none a words e (inr among) other = among_some e (fault_of a words) (matches_of a words) among
