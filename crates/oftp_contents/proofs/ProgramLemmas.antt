-- The first line end behind a version that has none, and a line that is too short for a sum.
use Rattle.std.proofs.Common.{◌≡◌, ◌==◌, ◌+◌, ◌<◌, ℕ, true, List, [], ◌∷◌, ◌++◌, None, length, take, drop, not, refl, ap, ◌∙◌, arith}
use Rattle.std.proofs.Math.Seq.{drop-append-add, take-append_seam}
use Rattle.std.proofs.lemmas.List.{length-take}
use Rattle.std.specs.List.{after_first, before_first, list_all, position_or_len}
use Rattle.oftp_contents.specs.Programs.{ProgramIsRead, sum_in}
use Rattle.oftp_contents.specs.declared.program.TheConstants.{SOURCES}

first_end : (version rest : List ℕ) → list_all (λ octet. not (octet == 10)) version ≡ true → position_or_len (λ octet. octet == 10) (version ++ (10 ∷ rest)) ≡ length version
first_end [] rest free = refl
first_end (octet ∷ version) rest free = grind (arith, first_end version rest)

-- what is before it, and what is behind it
version_is : (version rest : List ℕ) → list_all (λ octet. not (octet == 10)) version ≡ true → before_first (λ octet. octet == 10) (version ++ (10 ∷ rest)) ≡ version
version_is version rest free = ap (λ (n : ℕ). take n (version ++ (10 ∷ rest))) (first_end version rest free) ∙ take-append_seam version (10 ∷ rest)

line_is : (version rest : List ℕ) → list_all (λ octet. not (octet == 10)) version ≡ true → after_first (λ octet. octet == 10) (version ++ (10 ∷ rest)) ≡ rest
line_is version rest free = ap (λ (n : ℕ). drop (n + 1) (version ++ (10 ∷ rest))) (first_end version rest free) ∙ drop-append-add version (10 ∷ rest) 1

pub program_is_read : ProgramIsRead
program_is_read version sum free = (
  version_is version (SOURCES.now ++ sum) free,
  ap (λ (line : List ℕ). sum_in line) (line_is version (SOURCES.now ++ sum) free),
)

-- a line that is too short has no sum
pub short_line : (line : List ℕ) → length line < 8 → sum_in line ≡ None
short_line line short = grind (arith, length-take 8 line)
