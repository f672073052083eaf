-- What is heard of a side, by the frames of its octets.
use Rattle.std.proofs.Common.{◌≡◌, ℕ, ◌+◌, ◌-◌, ◌<◌, List, [], ◌∷◌, ◌++◌, length, take, drop, fold, Option, None, Some, refl, sym, ap, subst, ◌∙◌, append_assoc, append-nil, arith, length-append}
use Rattle.std.specs.List.{flat_map, All, AllByRecursion}
use Rattle.std.proofs.lemmas.Grind.{fold-append}
use Rattle.std.proofs.lemmas.List.{take_at, drop_at}
use Rattle.std.proofs.lemmas.List.Elements.{All-drop}
use Rattle.oftp_codec.specs.declared.frame_fault.FrameFault.{FrameFault}
use Rattle.oftp_codec.specs.declared.limits.TheConstants.{LONGEST_FRAME}
use Rattle.oftp_codec.specs.Header.{frame, header_of, IsCommand}
use Rattle.oftp_codec.specs.Stream.{Head, Whole, Waits, Bad, NoFrame, IsWithin, command_in, front, head_of, rest_fault}
use Rattle.oftp_codec.proofs.Streams.{IsTold, front_more, front_within}
use Rattle.oftp_codec.proofs.Fronts.{front_frame, front_rest}
use Rattle.oftp_register.specs.declared.entry.Identity.{Identity}
use Rattle.oftp_evidence.specs.declared.part.Part.{Part}
use Rattle.oftp_evidence.specs.Parts.{part_in}
use Rattle.oftp_evidence.specs.Sides.{SideParts, after_head, after_octet, new_side, octet_after, parts_in_all, said_parts, side_of}
use Rattle.oftp_evidence.specs.Laws.{FoundInCommands, OneHearing}

-- octets one behind another say what they say in two pieces
pub one_hearing : OneHearing
one_hearing s front back = fold-append after_octet s front back

-- a side whose search goes on
abbrev pub listening : Identity → List ℕ → List Part → SideParts
listening file rest found = record { file = file; rest = rest; fault = None; found = found }

frame_length : (m : List ℕ) → length (frame m) ≡ length m + 4
frame_length m = omega (arith, length-append (header_of (length m + 4)) m)

-- a frame is whole
frame_whole : (p m : List ℕ) → p ≡ frame m → IsCommand LONGEST_FRAME m → front LONGEST_FRAME p ≡ Whole (length m + 4)
frame_whole p m all small = ap (front LONGEST_FRAME) (all ∙ sym (append-nil (frame m))) ∙ front_frame LONGEST_FRAME m [] small

-- a part of a frame waits
part_waits : (h : Head) (p more m : List ℕ) → front LONGEST_FRAME p ≡ h → p ++ more ≡ frame m → IsCommand LONGEST_FRAME m → 0 < length more → h ≡ Waits
part_waits Waits p more m is all small some = refl
part_waits (Whole k) p more m is all small some =
    let same : Whole k ≡ Whole (length m + 4) =
    sym is ∙ sym (front_more LONGEST_FRAME p more (subst IsTold (sym is) tt)) ∙ frame_whole (p ++ more) m all small in
    let size : k ≡ length m + 4 = cc in
    let within : IsWithin (length p) (Whole k) = subst (IsWithin (length p)) is (front_within LONGEST_FRAME p) in
    let long : length p + length more ≡ length m + 4 = sym (length-append p more) ∙ ap length all ∙ frame_length m in
    absurd (omega (arith, size, within.1, long, some))
part_waits (Bad fault) p more m is all small some =
    let same : Bad fault ≡ Whole (length m + 4) =
    sym is ∙ sym (front_more LONGEST_FRAME p more (subst IsTold (sym is) tt)) ∙ frame_whole (p ++ more) m all small in
    absurd (let h : ⊥ = cc in h)

-- nothing is behind a frame, and its command is in it
frame_left : (m : List ℕ) → drop (length m + 4) (frame m) ≡ []
frame_left m = ap (drop (length m + 4)) (sym (append-nil (frame m))) ∙ drop_at (frame m) [] (length m + 4) (frame_length m)

frame_command : (m : List ℕ) → command_in (length m + 4) (frame m) ≡ m
frame_command m = ap (take (length m + 4 - 4)) (sym (append-nil m)) ∙ take_at m [] (length m + 4 - 4) (omega arith)

-- after its last octet
frame_ends : (p m : List ℕ) (file : Identity) (found : List Part) → p ≡ frame m → IsCommand LONGEST_FRAME m
    → after_head (listening file p found) (front LONGEST_FRAME p) ≡ listening file [] (found ++ said_parts (part_in file m))
frame_ends p m file found all small =
    ap (after_head (listening file p found)) (frame_whole p m all small)
    ∙ ap (λ (x : List ℕ). listening file (drop (length m + 4) x) (found ++ said_parts (part_in file (command_in (length m + 4) x)))) all
    ∙ ap (λ (x : List ℕ). listening file x (found ++ said_parts (part_in file (command_in (length m + 4) (frame m))))) (frame_left m)
    ∙ ap (λ (x : List ℕ). listening file [] (found ++ said_parts (part_in file x))) (frame_command m)

-- over the octets of a frame, of which some came before
over_frame : (os r m : List ℕ) (file : Identity) (found : List Part) → r ++ os ≡ frame m → IsCommand LONGEST_FRAME m → 0 < length os
    → fold after_octet (listening file r found) os ≡ listening file [] (found ++ said_parts (part_in file m))
over_frame [] r m file found all small some = absurd (omega (arith, some))
over_frame (o ∷ []) r m file found all small some = frame_ends (r ++ o ∷ []) m file found all small
over_frame (o ∷ p ∷ os) r m file found all small some =
    let here = r ++ o ∷ [] in
    let same : here ++ (p ∷ os) ≡ frame m = append_assoc r (o ∷ []) (p ∷ os) ∙ all in
    let waits = part_waits (front LONGEST_FRAME here) here (p ∷ os) m refl same small (omega arith) in
    ap (λ (h : Head). fold after_octet (after_head (listening file here found) h) (p ∷ os)) waits
    ∙ over_frame (p ∷ os) here m file found same small (omega arith)

-- over frames
over_frames : (file : Identity) (ms : List (List ℕ)) (found : List Part) → AllByRecursion (IsCommand LONGEST_FRAME) ms
    → fold after_octet (listening file [] found) (flat_map frame ms) ≡ listening file [] (found ++ parts_in_all file ms)
over_frames file [] found each = ap (listening file []) (sym (append-nil found))
over_frames file (m ∷ ms) found each =
    fold-append after_octet (listening file [] found) (frame m) (flat_map frame ms)
    ∙ ap (λ (s : SideParts). fold after_octet s (flat_map frame ms)) (over_frame (frame m) [] m file found refl each.0 (omega (arith, frame_length m)))
    ∙ over_frames file ms (found ++ said_parts (part_in file m)) each.1
    ∙ ap (listening file []) (append_assoc found (said_parts (part_in file m)) (parts_in_all file ms))

-- nothing is heard after an error
over_ended : (os : List ℕ) (s : SideParts) (fault : FrameFault) → s.fault ≡ Some fault → fold after_octet s os ≡ s
over_ended [] s fault is = refl
over_ended (o ∷ os) s fault is =
    let same : after_octet s o ≡ s = ap (λ (f : Option FrameFault). octet_after f s o) is in
    ap (λ (x : SideParts). fold after_octet x os) same ∙ over_ended os s fault is

not_whole : (fault : Option FrameFault) (k : ℕ) → head_of fault ≡ Whole k → ⊥
not_whole None k is = let h : ⊥ = cc in h
not_whole (Some fault) k is = let h : ⊥ = cc in h

-- no part of a rest without a frame is a frame
never_whole : (p more : List ℕ) (k : ℕ) → NoFrame LONGEST_FRAME (p ++ more) → All (λ c. c < 256) (p ++ more) → front LONGEST_FRAME p ≡ Whole k → ⊥
never_whole p more k none small is =
    not_whole (rest_fault LONGEST_FRAME (p ++ more)) k
    (sym (front_rest LONGEST_FRAME (p ++ more) small none) ∙ front_more LONGEST_FRAME p more (subst IsTold (sym is) tt) ∙ is)

-- after one octet of such a rest
rest_at : (h : Head) (here os : List ℕ) (file : Identity) (found : List Part) → front LONGEST_FRAME here ≡ h → NoFrame LONGEST_FRAME (here ++ os)
    → All (λ c. c < 256) (here ++ os) → (fold after_octet (listening file here found) os).found ≡ found
    → (fold after_octet (after_head (listening file here found) h) os).found ≡ found
rest_at Waits here os file found is none small again = again
rest_at (Whole k) here os file found is none small again = absurd (never_whole here os k none small is)
rest_at (Bad fault) here os file found is none small again =
    ap (λ (x : SideParts). x.found) (over_ended os (after_head (listening file here found) (Bad fault)) fault refl)

-- over such a rest
over_rest : (os r : List ℕ) (file : Identity) (found : List Part) → NoFrame LONGEST_FRAME (r ++ os) → All (λ c. c < 256) (r ++ os)
    → (fold after_octet (listening file r found) os).found ≡ found
over_rest [] r file found none small = refl
over_rest (o ∷ os) r file found none small =
    let here = r ++ o ∷ [] in
    let same : r ++ (o ∷ os) ≡ here ++ os = sym (append_assoc r (o ∷ []) os) in
    let no = subst (NoFrame LONGEST_FRAME) same none in
    let octets = subst (All (λ (c : ℕ). c < 256)) same small in
    rest_at (front LONGEST_FRAME here) here os file found refl no octets (over_rest os here file found no octets)

-- what is found in octets is what is found in their commands
pub found_in_commands : FoundInCommands
found_in_commands file octets commands rest small cut =
    let frames = flat_map frame commands in
    let behind : drop (length frames) octets ≡ rest = ap (drop (length frames)) cut.whole ∙ drop_at frames rest (length frames) refl in
    let small_rest = subst (All (λ (c : ℕ). c < 256)) behind (All-drop (λ (c : ℕ). c < 256) (length frames) octets small) in
    ap (λ (x : List ℕ). (side_of file x).found) cut.whole
    ∙ ap (λ (s : SideParts). s.found) (fold-append after_octet (new_side file) frames rest)
    ∙ ap (λ (s : SideParts). (fold after_octet s rest).found) (over_frames file commands [] cut.each)
    ∙ over_rest rest [] file (parts_in_all file commands) cut.last small_rest
