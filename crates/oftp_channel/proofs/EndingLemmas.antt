-- Endings, each with one encoding.
use Rattle.std.proofs.Common.{◌≡◌, ℕ, ◌^◌, ◌<◌, List, ◌∷◌, ◌++◌, Option, Some, Result, Ok, Err, ok_or, IfOk, sym, ap, ◌∙◌, arith}
use Rattle.std.specs.Int.{w64, to_be_bytes}
use Rattle.oftp_io.specs.declared.port.Port.{Port}
use Rattle.oftp_channel.specs.Endings.{IsEnding, ending_label, labelled, spelled_ending}
use Rattle.oftp_channel.specs.Inputs.{Gave}
use Rattle.oftp_channel.specs.declared.ending.Ending.{Ending}
use Rattle.oftp_channel.proofs.InputLemmas.{front_of}
use Rattle.oftp_channel.proofs.SpellingLemmas.{regroup, same_long}

pub first : (x y : ℕ) (xs ys : List ℕ) → x ∷ xs ≡ y ∷ ys → (x ≡ y) × (xs ≡ ys)
first x y xs ys e = (cc, cc)

small_label : (e : Ending) → IsEnding e → (ending_label e).number < 2 ^ 64
small_label e is = grind arith

-- an ending whose encoding is at the front of the input has the kind and the number that were read
pub same_label : {X : Type 0} (remaining : X → Option (List ℕ)) (a b : Port X) (kind number : ℕ) (e : Ending) (heard more rest : List ℕ)
    → Gave remaining a b (kind ∷ to_be_bytes w64 number) → number < 2 ^ 64 → IsEnding e → remaining a.inner ≡ Some heard
    → heard ++ more ≡ spelled_ending e ++ rest → ending_label e ≡ labelled kind number
same_label remaining a b kind number e heard more rest h lt is s spelled =
    let l = front_of remaining a b (kind ∷ to_be_bytes w64 number) heard h s in
    let whole = regroup heard (kind ∷ to_be_bytes w64 number) l.0 more (spelled_ending e ++ rest) l.2 spelled in
    let f = first kind (ending_label e).kind (to_be_bytes w64 number ++ (l.0 ++ more)) (to_be_bytes w64 (ending_label e).number ++ rest) whole in
    let n = same_long number (ending_label e).number (l.0 ++ more) rest lt (small_label e is) f.1 in
    sym (ap (λ (k : ℕ). labelled k number) f.0 ∙ ap (λ (m : ℕ). labelled (ending_label e).kind m) n)

-- what is found is returned
pub found_alone : {T E : Type 0} (found : Option T) (fault : E) (result : Result T E) (told : T) → result ≡ ok_or found fault → found ≡ Some told → IfOk result (λ (x : T). x ≡ told)
found_alone found fault (Ok x) told p q = cc
found_alone found fault (Err x) told p q = tt
