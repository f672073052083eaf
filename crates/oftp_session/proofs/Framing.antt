-- A header and then a command are a frame, also of DATA.
use Rattle.std.proofs.Common.{◌≡◌, ℕ, ◌+◌, ◌<◌, List, ◌++◌, length, take, drop, [], ◌∷◌, ◌≤◌, false, refl, sym, ap, ◌∙◌, append_assoc, length-append, arith}
use Rattle.std.proofs.lemmas.List.{length-take-le, take-append-drop, take_at}
use Rattle.oftp_codec.specs.Header.{header_of, frame}
use Rattle.oftp_codec.specs.Spelling.{Canon, IsFit, is_data}
use Rattle.oftp_wire.specs.declared.command.Command.{Command}
use Rattle.oftp_wire.specs.declared.command.Command.TheVariants as command
use Rattle.oftp_codec.proofs.Room.{canon-data, canon_short}
use Rattle.oftp_session.specs.declared.frame.TheConstants.{COMMAND_ROOM}
use Rattle.oftp_session.specs.Phases.{frame_of}

framed_octets : (m rest head : List ℕ) (count : ℕ) → count ≡ length m → head ≡ header_of (count + 4) → take (count + 4) (head ++ (m ++ rest)) ≡ frame m
framed_octets m rest head count e h =
    let headed = ap (λ (x : List ℕ). x ++ (m ++ rest)) (h ∙ ap (λ (k : ℕ). header_of (k + 4)) e) in
    let whole : head ++ (m ++ rest) ≡ frame m ++ rest = headed ∙ sym (append_assoc (header_of (length m + 4)) m rest) in
    ap (take (count + 4)) whole ∙ take_at (frame m) rest (count + 4) (omega (arith, e, length-append (header_of (length m + 4)) m))

pub frame_spelled : (c : Command) (body old head : List ℕ) (count : ℕ) → count ≡ length (Canon c) → body ≡ Canon c ++ drop count old
    → head ≡ header_of (count + 4) → take (count + 4) (head ++ body) ≡ frame_of c
unfolding frame_of
frame_spelled c body old head count e b h = ap (λ (x : List ℕ). take (count + 4) (head ++ x)) b ∙ framed_octets (Canon c) (drop count old) head count e h

-- a payload after a header and the letter of DATA
pub data_framed : (head out rest : List ℕ) (count : ℕ) → head ≡ header_of (count + 5) ++ 68 ∷ [] → count ≤ length out
    → take (count + 5) (head ++ (out ++ rest)) ≡ frame_of (command.Data (take count out))
unfolding frame_of
data_framed head out rest count h within =
    let payload : List ℕ = take count out in
    let more : List ℕ = drop count out ++ rest in
    let split : out ++ rest ≡ payload ++ more = ap (λ (x : List ℕ). x ++ rest) (sym (take-append-drop count out)) ∙ append_assoc payload (drop count out) rest in
    let five : count + 5 ≡ count + 1 + 4 = omega arith in
    let whole : head ++ (out ++ rest) ≡ header_of (count + 1 + 4) ++ ((68 ∷ payload) ++ more) =
    ap (λ (x : List ℕ). x ++ (out ++ rest)) h ∙ ap (λ (x : List ℕ). header_of (count + 5) ++ (68 ∷ x)) split ∙ ap (λ n. header_of n ++ ((68 ∷ payload) ++ more)) five in
    ap (take (count + 5)) whole ∙ ap (λ n. take n (header_of (count + 1 + 4) ++ ((68 ∷ payload) ++ more))) five
    ∙ framed_octets (68 ∷ payload) more (header_of (count + 1 + 4)) (count + 1) (omega (arith, length-take-le count out within)) refl
    ∙ ap frame (sym (canon-data payload))

-- there is room for each command other than DATA
pub canon_fits : (c : Command) (n : ℕ) → n + 4 ≡ COMMAND_ROOM → n < length (Canon c) → IsFit c → is_data c ≡ false → ⊥
canon_fits c n e l fit command = let h = canon_short c fit command in omega (arith, h)
