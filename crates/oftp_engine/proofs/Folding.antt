-- A run is the fold over the commands of the frames.
use Rattle.std.proofs.Common.{◌≡◌, ℕ, suc, ◌+◌, ◌-◌, ◌<◌, Bool, cond, ◌||◌, List, [], ◌∷◌, ◌++◌, length, drop, Option, None, Some, refl, ap, ◌∙◌, subst, arith, append_assoc, length-append}
use Rattle.std.proofs.lemmas.List.{drop_at, take_at}
use Rattle.std.proofs.lemmas.List.Elements.{All-drop}
use Rattle.std.specs.List.{All, AllByRecursion, flat_map}
use Rattle.oftp_session.specs.Phases.{is_over}
use Rattle.oftp_codec.specs.declared.frame_fault.FrameFault.{FrameFault}
use Rattle.oftp_codec.specs.Header.{frame, header_of, IsCommand}
use Rattle.oftp_codec.specs.Stream.{Whole, front, command_in, head_of, Reads}
use Rattle.oftp_codec.proofs.Fronts.{front_frame, front_rest}
use Rattle.oftp_codec.specs.declared.limits.TheConstants.{LONGEST_FRAME}
use Rattle.oftp_engine.specs.Runs.{Course, came_in, is_stopped, settled, on_front, next_in, run_by, run}
use Rattle.oftp_engine.specs.Frames.{with_fault, over_commands}
use Rattle.oftp_engine.proofs.Courses.{run_enough}

cond_else : (b : Bool) (d x y : Course) → x ≡ y → cond b d x ≡ cond b d y
cond_else b d x y e = ap (λ (z : Course). cond b d z) e

at_end : (go_on : List ℕ → Course → Course) (s : List ℕ) (d : Course) (fault : Option FrameFault) → on_front go_on s d (head_of fault) ≡ with_fault d fault
unfolding on_front
at_end go_on s d None = refl
at_end go_on s d (Some fault) = refl

pub frame_length : (m : List ℕ) → length (frame m) ≡ length m + 4
frame_length m = omega (arith, length-append (header_of (length m + 4)) m)

pub folds : (limit : Option ℕ) (commands : List (List ℕ)) (rest : List ℕ) (fault : Option FrameFault) (c : Course)
    → AllByRecursion (IsCommand LONGEST_FRAME) commands → front LONGEST_FRAME rest ≡ head_of fault
    → run limit (flat_map frame commands ++ rest) c ≡ over_commands limit commands fault c
unfolding run run_by next_in on_front
folds limit [] rest fault c each ends =
    let d = settled limit c in
    cond_else (is_over d.phase || is_stopped limit d) d _ _ (ap (on_front (run_by (length rest) limit) rest d) ends ∙ at_end (run_by (length rest) limit) rest d fault)
folds limit (m ∷ ms) rest fault c each ends =
    let d = settled limit c in
    let more = flat_map frame ms ++ rest in
    let s = frame m ++ more in
    let whole : front LONGEST_FRAME s ≡ Whole (length m + 4) = front_frame LONGEST_FRAME m more each.0 in
    let behind : drop (length m + 4) s ≡ more = drop_at (frame m) more (length m + 4) (frame_length m) in
    let first : command_in (length m + 4) s ≡ m = take_at m more (length m + 4 - 4) (omega arith) in
    let same : (frame m ++ flat_map frame ms) ++ rest ≡ s = append_assoc (frame m) (flat_map frame ms) rest in
    let step : on_front (run_by (length s) limit) s d (front LONGEST_FRAME s) ≡ over_commands limit ms fault (came_in d m) =
    ap (on_front (run_by (length s) limit) s d) whole
    ∙ ap (λ (x : List ℕ). run_by (length s) limit x (came_in d (command_in (length m + 4) s))) behind
    ∙ ap (λ (x : List ℕ). run_by (length s) limit more (came_in d x)) first
    ∙ run_enough (length s) (suc (length more)) limit more (came_in d m) (omega (arith, frame_length m, length-append (frame m) more)) (omega arith)
    ∙ folds limit ms rest fault (came_in d m) each.1 ends in
    ap (λ (x : List ℕ). run limit x c) same ∙ cond_else (is_over d.phase || is_stopped limit d) d _ _ step

pub folds_all : (limit : Option ℕ) (stream : List ℕ) (commands : List (List ℕ)) (fault : Option FrameFault) (c : Course)
    → All (λ octet. octet < 256) stream → Reads LONGEST_FRAME stream commands fault → run limit stream c ≡ over_commands limit commands fault c
folds_all limit stream commands fault c small h =
    let frames = flat_map frame commands in
    let whole : stream ≡ frames ++ h.rest = h.front.whole in
    let tail : drop (length frames) stream ≡ h.rest = ap (drop (length frames)) whole ∙ drop_at frames h.rest (length frames) refl in
    let rest_small = subst (All (λ (octet : ℕ). octet < 256)) tail (All-drop (λ (octet : ℕ). octet < 256) (length frames) stream small) in
    ap (λ (x : List ℕ). run limit x c) whole
    ∙ folds limit commands h.rest fault c h.front.each (front_rest LONGEST_FRAME h.rest rest_small h.front.last ∙ ap head_of h.fault_is)
