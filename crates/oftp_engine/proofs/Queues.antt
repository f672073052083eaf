-- The octets that are out of a queue of commands are read as those whose frames are whole.
use Rattle.std.proofs.Common.{◌≡◌, ℕ, zero, suc, ◌+◌, ◌*◌, ◌≤◌, ◌<◌, Bool, true, false, cond, ltb, ◌||◌, ◌==◌, List, [], ◌∷◌, ◌++◌, length, take, drop, map, fold, Option, None, Some, Result, Ok, Err, refl, sym, ap, ◌∙◌, subst, arith, append_assoc}
use Rattle.std.proofs.lemmas.List.{append-nil, drop-append-le, drop_at, take-append-drop, take-append-le, take_at}
use Rattle.std.proofs.lemmas.Bool.{ltb-false, ltb-true, lt-ltb}
use Rattle.std.proofs.lemmas.Grind.{flat_map-append}
use Rattle.std.specs.List.{AllByRecursion, flat_map}
use Rattle.std.specs.Option.{IfSome}
use Rattle.oftp_wire.specs.declared.command.Command.{Command}
use Rattle.oftp_wire.specs.declared.fault.WireFault.{WireFault}
use Rattle.oftp_codec.specs.declared.frame_fault.FrameFault.TheVariants.{BadHeader, BadLength}
use Rattle.oftp_wire.specs.declared.reason.SessionReason.{SessionReason}
use Rattle.oftp_wire.specs.declared.reason.SessionReason.TheVariants.{CommandNotRecognised, ProtocolViolation, ResourcesNotAvailable}
use Rattle.oftp_codec.specs.Header.{frame, IsCommand}
use Rattle.oftp_codec.specs.Kinds.{command_of}
use Rattle.oftp_wire.specs.Reasons.{reason_of}
use Rattle.oftp_codec.specs.Spelling.{Canon}
use Rattle.oftp_codec.specs.Stream.{Head, Whole, Waits, Bad, Front, NoFrame, front, length_fault, rest_fault, sized}
use Rattle.oftp_codec.proofs.Fronts.{front_frame, one_front}
use Rattle.oftp_codec.proofs.Room.{canon_some}
use Rattle.oftp_codec.proofs.SpellingLaws.{canon_spells, reads_spelled}
use Rattle.oftp_partners.specs.Fields.{IsBufferSize}
use Rattle.oftp_partners.specs.declared.partner.Partner.{Partner}
use Rattle.oftp_register.specs.declared.change.Cause.{Cause}
use Rattle.oftp_register.specs.declared.change.Change.{Change}
use Rattle.oftp_register.specs.Register.{Register}
use Rattle.oftp_register.specs.Changes.{apply, apply_all, go_on_by}
use Rattle.oftp_session.specs.Phases.{Phase, Step, esid_of, frame_of, is_over}
use Rattle.oftp_session.specs.Settings.{Setting}
use Rattle.oftp_session.specs.Steps.{opening}
use Rattle.oftp_session.proofs.Phases.{opening_suits}
use Rattle.oftp_codec.specs.declared.limits.TheConstants.{LONGEST_FRAME}
use Rattle.oftp_engine.specs.Frames.{over_commands}
use Rattle.oftp_engine.specs.Queues.{AreHeard, IsQueue, IsSayable, QueuesAreHeard, RunsAreHeard, RunsSayCommands, RunsSayQueues, SaysQueues, as_read, in_frames, over_queue}
use Rattle.oftp_engine.specs.Ranges.{IsSpellable, RangesAreKept, StartsInRange}
use Rattle.oftp_engine.specs.Runs.{Course, Output, advance, came_in, is_stopped, octets_of, refusal, run, settled, started, step_on, with_change, with_output}
use Rattle.oftp_engine.specs.Serving.{last_frame}
use Rattle.oftp_engine.proofs.Folding.{folds, frame_length}
use Rattle.oftp_engine.proofs.Sayable.{esid_sayable, spelled_fits}
use Rattle.oftp_engine.proofs.Spellable.{IsSpellableChange, apply_spellable, calls_keep, empty_spellable}
use Rattle.oftp_engine.proofs.Spells.{GoesOnInRange, IsInRange, came_in_range, fails_in_range, turned_in_range}
use Rattle.oftp_engine.proofs.Standing.{OfBuffer}
use Rattle.oftp_engine.proofs.EachStep.{run_keeps}

-- a beginning of a frame is no error

whole_of : (b p : Bool) (n k : ℕ) → cond b (Bad BadLength) (cond p Waits (Whole n)) ≡ Whole k → (b ≡ false) × (n ≡ k)
whole_of true p n k e = absurd (let h : ⊥ = cc in h)
whole_of false true n k e = absurd (let h : ⊥ = cc in h)
whole_of false false n k e = (refl, cc)

waits_by : (b p : Bool) (n : ℕ) → b ≡ false → p ≡ true
    → (cond b (Bad BadLength) (cond p Waits (Whole n)) ≡ Waits) × (cond b (Some BadLength) None ≡ None)
waits_by b p n out far = (
  ap (λ (x : Bool). cond x (Bad BadLength) (cond p Waits (Whole n))) out ∙ ap (λ (x : Bool). cond x Waits (Whole n)) far,
  ap (λ (x : Bool). cond x (Some BadLength) None) out,
)

sized_cut : (limit k : ℕ) (s more : List ℕ) → sized limit (s ++ more) ≡ Whole k → length s + 1 < k → (sized limit s ≡ Waits) × (length_fault limit s ≡ None)
unfolding sized
sized_cut limit k [] more e short = (refl, refl)
sized_cut limit k (x ∷ []) more e short = (refl, refl)
sized_cut limit k (x ∷ y ∷ []) more e short = (refl, refl)
sized_cut limit k (x ∷ y ∷ z ∷ rest) more e short =
    let n = x * 65536 + y * 256 + z in
    let is = whole_of (ltb n 5 || ltb limit n) (ltb (length (rest ++ more) + 4) n) n k e in
    waits_by (ltb n 5 || ltb limit n) (ltb (length rest + 4) n) n is.0 (lt-ltb (length rest + 4) n (omega (arith, is.1, short)))

headed : (b : Bool) (x : Head) (k : ℕ) → cond b x (Bad BadHeader) ≡ Whole k → (b ≡ true) × (x ≡ Whole k)
headed true x k e = (refl, e)
headed false x k e = absurd (let h : ⊥ = cc in h)

front_cut : (limit k : ℕ) (s more : List ℕ) → front limit (s ++ more) ≡ Whole k → length s < k → (front limit s ≡ Waits) × (rest_fault limit s ≡ None)
unfolding front
front_cut limit k [] more e short = (refl, refl)
front_cut limit k (first ∷ s) more e short =
    let is = headed (first == 16) (sized limit (s ++ more)) k e in
    let cut = sized_cut limit k s more is.1 (omega (arith, short)) in (
      ap (λ (b : Bool). cond b (sized limit s) (Bad BadHeader)) is.0 ∙ cut.0,
      ap (λ (b : Bool). cond b (length_fault limit s) (Some BadHeader)) is.0 ∙ cut.1,
    )

none_waits : (limit : ℕ) (s : List ℕ) → front limit s ≡ Waits → NoFrame limit s
none_waits limit s waits m more small e =
    let whole : front limit s ≡ Whole (length m + 4) = ap (front limit) e ∙ front_frame limit m more small in
    let h : ⊥ = cc in h

-- which commands of a queue are whole in its first octets, and the octets after them
record Cut (said : List Command) (octets : List ℕ) : Type 0 where
  heard : List Command
  lost : List Command
  rest : List ℕ
  all : said ≡ heard ++ lost
  whole : octets ≡ flat_map frame (map Canon heard) ++ rest
  each : AllByRecursion (IsCommand LONGEST_FRAME) (map Canon heard)
  waits : front LONGEST_FRAME rest ≡ Waits
  fine : rest_fault LONGEST_FRAME rest ≡ None
  same : as_read heard ≡ map Ok heard

spoken : (m : Command) → IsSayable m → IsCommand LONGEST_FRAME (Canon m)
spoken m h = (canon_some m, h.1)

cut_short : (m : Command) (ms : List Command) (octets lost : List ℕ) → IsSayable m
    → frame_of m ++ flat_map frame_of ms ≡ octets ++ lost → length octets < length (Canon m) + 4 → Cut (m ∷ ms) octets
unfolding frame_of
cut_short m ms octets lost fit e short =
    let here : front LONGEST_FRAME (octets ++ lost) ≡ Whole (length (Canon m) + 4) = ap (front LONGEST_FRAME) (sym e) ∙ front_frame LONGEST_FRAME (Canon m) (flat_map frame_of ms) (spoken m fit) in
    let cut = front_cut LONGEST_FRAME (length (Canon m) + 4) octets lost here short in
    record { heard = []; lost = m ∷ ms; rest = octets; all = refl; whole = refl; each = tt; waits = cut.0; fine = cut.1; same = refl }

with_first : (m : Command) (ms : List Command) (octets lost : List ℕ) → IsSayable m
    → frame_of m ++ flat_map frame_of ms ≡ octets ++ lost → length (Canon m) + 4 ≤ length octets
    → ((rest : List ℕ) → flat_map frame_of ms ≡ rest ++ lost → Cut ms rest) → Cut (m ∷ ms) octets
unfolding frame_of
with_first m ms octets lost fit e long go_on =
    let k = length (Canon m) + 4 in
    let whole = frame (Canon m) in
    let later = flat_map frame_of ms in
    let head : take k octets ≡ whole = sym (take-append-le k octets lost long) ∙ ap (take k) (sym e) ∙ take_at whole later k (frame_length (Canon m)) in
    let tail : later ≡ drop k octets ++ lost = sym (drop_at whole later k (frame_length (Canon m))) ∙ ap (drop k) e ∙ drop-append-le k octets lost long in
    let split : octets ≡ whole ++ drop k octets = sym (take-append-drop k octets) ∙ ap (λ (x : List ℕ). x ++ drop k octets) head in
    let behind = go_on (drop k octets) tail in
    let read : command_of (Canon m) ≡ Ok m = (reads_spelled m (Canon m)).1 (canon_spells m fit.0) in
    record {
      heard = m ∷ behind.heard;
      lost = behind.lost;
      rest = behind.rest;
      all = ap (λ (x : List Command). m ∷ x) behind.all;
      whole = split ∙ ap (λ (x : List ℕ). whole ++ x) behind.whole ∙ sym (append_assoc whole (flat_map frame (map Canon behind.heard)) behind.rest);
      each = (spoken m fit, behind.each);
      waits = behind.waits;
      fine = behind.fine;
      same = ap (λ (x : Result Command WireFault). x ∷ as_read behind.heard) read ∙ ap (λ (x : List (Result Command WireFault)). Ok m ∷ x) behind.same;
    }

nothing : (octets lost : List ℕ) → [] ≡ octets ++ lost → octets ≡ []
nothing [] lost e = refl
nothing (x ∷ octets) lost e = absurd (let h : ⊥ = cc in h)

cut_by : (b : Bool) (m : Command) (ms : List Command) (octets lost : List ℕ) → ltb (length octets) (length (Canon m) + 4) ≡ b → IsSayable m
    → frame_of m ++ flat_map frame_of ms ≡ octets ++ lost → ((rest : List ℕ) → flat_map frame_of ms ≡ rest ++ lost → Cut ms rest) → Cut (m ∷ ms) octets
cut_by true m ms octets lost is fit e go_on = cut_short m ms octets lost fit e (ltb-true _ _ is)
cut_by false m ms octets lost is fit e go_on = with_first m ms octets lost fit e (ltb-false _ _ is) go_on

cut_of : (said : List Command) (octets lost : List ℕ) → AllByRecursion IsSayable said → flat_map frame_of said ≡ octets ++ lost → Cut said octets
unfolding front
cut_of [] octets lost each e = record {
  heard = [];
  lost = [];
  rest = [];
  all = refl;
  whole = nothing octets lost e;
  each = tt;
  waits = refl;
  fine = refl;
  same = refl;
}
cut_of (m ∷ ms) octets lost each e =
    cut_by (ltb (length octets) (length (Canon m) + 4)) m ms octets lost refl each.0 e (λ rest is. cut_of ms rest lost each.1 is)

-- the session over what is heard

one_way : (b : Bool) (c : Course) → cond b c c ≡ c
one_way true c = refl
one_way false c = refl

over_heard : (limit : Option ℕ) (heard : List Command) (c : Course) → as_read heard ≡ map Ok heard
    → over_commands limit (map Canon heard) None c ≡ over_queue limit heard c
over_heard limit [] c same = let d = settled limit c in one_way (is_over d.phase || is_stopped limit d) d
over_heard limit (m ∷ ms) c same =
    let d = settled limit c in
    let read : command_of (Canon m) ≡ Ok m = cc in
    let behind : as_read ms ≡ map Ok ms = cc in
    let next : came_in d (Canon m) ≡ advance d (step_on d.setting d.phase d.register (Ok m)) =
    ap (λ (x : Result Command WireFault). advance d (step_on d.setting d.phase d.register x)) read in
    ap (λ (x : Course). cond (is_over d.phase || is_stopped limit d) d x)
    (ap (over_commands limit (map Canon ms) None) next ∙ over_heard limit ms (advance d (step_on d.setting d.phase d.register (Ok m))) behind)

pub queues_are_heard : QueuesAreHeard
queues_are_heard said octets lost each e =
    let cut = cut_of said octets lost each e in
    let front : Front LONGEST_FRAME octets (map Canon cut.heard) cut.rest = record { whole = cut.whole; each = cut.each; last = none_waits LONGEST_FRAME cut.rest cut.waits } in
    record {
      heard = cut.heard;
      lost = cut.lost;
      all = cut.all;
      frames = record { rest = cut.rest; front = front; fault_is = cut.fine };
      alone = λ commands fault reads.
          let one = one_front LONGEST_FRAME octets commands (map Canon cut.heard) reads.rest cut.rest reads.front front in
          (one.0, sym reads.fault_is ∙ ap (rest_fault LONGEST_FRAME) one.1 ∙ cut.fine);
      same = cut.same;
      session = λ limit c. ap (λ (x : List ℕ). run limit x c) cut.whole ∙ folds limit (map Canon cut.heard) cut.rest None c cut.each cut.waits ∙ over_heard limit cut.heard c cut.same;
    }

-- one more command
one_said : (said : List Command) (c : Command) → AllByRecursion IsSayable said → IsSayable c → AllByRecursion IsSayable (said ++ c ∷ [])
one_said [] c all say = (say, tt)
one_said (m ∷ ms) c all say = (all.0, one_said ms c all.1 say)

-- what a session sends

-- an output is the frame of a command, which under a premise a frame can hold
record IsFrame (Premise : Type 0) (o : Output) : Type 0 where
  command : Command
  is : o.octets ≡ frame_of command
  sayable : Premise → IsSayable command

abbrev AreFrames : Type 0 → List Output → Type 0
AreFrames Premise outputs = AllByRecursion (IsFrame Premise) outputs

one_more : (Premise : Type 0) (outputs : List Output) (o : Output) → AreFrames Premise outputs → IsFrame Premise o → AreFrames Premise (outputs ++ o ∷ [])
one_more Premise [] o all is = (is, tt)
one_more Premise (p ∷ outputs) o all is = (all.0, one_more Premise outputs o all.1 is)

first_ones : (Premise : Type 0) (outs later : List Output) → AreFrames Premise (outs ++ later) → AreFrames Premise outs
first_ones Premise [] later all = tt
first_ones Premise (o ∷ outs) later all = (all.0, first_ones Premise outs later all.1)

output_frames : (Premise : Type 0) (outputs : List Output) (o : Option Command) (n : ℕ) → AreFrames Premise outputs → (Premise → IfSome o IsSayable) → AreFrames Premise (with_output outputs o n)
output_frames Premise outputs None n all say = all
output_frames Premise outputs (Some command) n all say =
    one_more Premise outputs (record { octets = frame_of command; after = n }) all (record { command = command; is = refl; sayable = say })

change_ranges : (changes : List Change) (k : Option Change) → AllByRecursion IsSpellableChange changes → IfSome k IsSpellableChange → AllByRecursion IsSpellableChange (with_change changes k)
change_ranges changes None all new = all
change_ranges [] (Some k) all new = (new, tt)
change_ranges (x ∷ changes) (Some k) all new = (all.0, change_ranges changes (Some k) all.1 new)

-- a run so far: its outputs are frames, and under the premise it is in its ranges, and so are its changes
record IsSpoken (Premise : Type 0) (c : Course) : Type 0 where
  frames : AreFrames Premise c.outputs
  changes : Premise → AllByRecursion IsSpellableChange c.changes
  range : Premise → IsInRange c.setting c.phase c.register

step_spoken : (Premise : Type 0) (c : Course) (s : Step) → (IsInRange c.setting c.phase c.register → GoesOnInRange c.setting c.register s) → IsSpoken Premise c → IsSpoken Premise (advance c s)
unfolding advance
step_spoken Premise c s goes h = record {
  frames = output_frames Premise c.outputs s.output _ h.frames (λ premise. (goes (h.range premise)).said);
  changes = λ premise. change_ranges c.changes s.change (h.changes premise) (goes (h.range premise)).change;
  range = λ premise. (goes (h.range premise)).after;
}

came_spoken : (setting : Setting) (p : Phase) (r : Register) (octets : List ℕ) (read : Result Command WireFault) → command_of octets ≡ read → IsInRange setting p r
    → GoesOnInRange setting r (step_on setting p r read)
came_spoken setting p r octets (Ok c) is it = came_in_range setting p r c it (spelled_fits c octets ((reads_spelled c octets).0 is))
came_spoken setting p r octets (Err fault) is it = by (reason_of fault)
  where
    by : (reason : Option SessionReason) → GoesOnInRange setting r (refusal reason)
    by (Some reason) = fails_in_range setting p r reason it
    by None = fails_in_range setting p r CommandNotRecognised it

run_spoken : (Premise : Type 0) (limit : Option ℕ) (given : List ℕ) (c : Course) → IsSpoken Premise c → IsSpoken Premise (run limit given c)
run_spoken Premise limit given c h =
    run_keeps (IsSpoken Premise) (λ d it. step_spoken Premise d _ (turned_in_range d.setting d.phase d.register) it)
    (λ d octets it. step_spoken Premise d _ (came_spoken d.setting d.phase d.register octets (command_of octets) refl) it)
    (λ d it. step_spoken Premise d _ (fails_in_range d.setting d.phase d.register ProtocolViolation) it) limit given c h

start_range : (setting : Setting) (r : Register) → StartsInRange setting r → IsInRange setting (opening setting.called) r
start_range setting r h = record { book = h.book; called = h.called; suits = opening_suits r setting.called h.sound; buffer = by setting.called; spellable = h.spellable }
  where
    by : (called : Option Partner) → OfBuffer IsBufferSize (opening called)
    by None = tt
    by (Some partner) = tt

run_frames : (limit : Option ℕ) (setting : Setting) (given : List ℕ) (r : Register) → IsSpoken (StartsInRange setting r) (run limit given (started setting r))
run_frames limit setting given r =
    run_spoken (StartsInRange setting r) limit given (started setting r) (record { frames = tt; changes = λ starts. tt; range = start_range setting r })

-- the commands whose frames these are
record Spoken (Premise : Type 0) (outputs : List Output) : Type 0 where
  said : List Command
  each : map (λ (o : Output). o.octets) outputs ≡ map frame_of said
  joined : octets_of outputs ≡ flat_map frame_of said
  sayable : Premise → AllByRecursion IsSayable said

spoken_in : (Premise : Type 0) (outputs : List Output) → AreFrames Premise outputs → Spoken Premise outputs
spoken_in Premise [] all = record { said = []; each = refl; joined = refl; sayable = λ premise. tt }
spoken_in Premise (o ∷ outputs) all =
    let first = all.0 in
    let more = spoken_in Premise outputs all.1 in
    record {
      said = first.command ∷ more.said;
      each = ap (λ (x : List ℕ). x ∷ map (λ (o : Output). o.octets) outputs) first.is ∙ ap (λ (x : List (List ℕ)). frame_of first.command ∷ x) more.each;
      joined = ap (λ (x : List ℕ). x ++ octets_of outputs) first.is ∙ ap (λ (x : List ℕ). frame_of first.command ++ x) more.joined;
      sayable = λ premise. (first.sayable premise, more.sayable premise);
    }

pub runs_say_commands : RunsSayCommands
runs_say_commands limit setting given r = let its = spoken_in _ _ (run_frames limit setting given r).frames in (its.said, its.each, its.sayable)

module _ (Premise : Type 0) (outs : List Output) (its : Spoken Premise outs) where
  whole_queue : IsQueue (octets_of outs)
  whole_queue = record { said = its.said; lost = []; all = sym its.joined ∙ sym (append-nil (octets_of outs)) }

  cut_queue : (count : ℕ) → in_frames its.said ≡ take count (octets_of outs) ++ drop count (octets_of outs)
  cut_queue count = sym its.joined ∙ sym (take-append-drop count (octets_of outs))

  ended_queue : (count : ℕ) → in_frames (its.said ++ esid_of ResourcesNotAvailable ∷ []) ≡ (octets_of outs ++ take count last_frame) ++ drop count last_frame
  ended_queue count =
      let here = octets_of outs in
      let apart : flat_map frame_of (its.said ++ esid_of ResourcesNotAvailable ∷ []) ≡ here ++ last_frame =
      flat_map-append frame_of its.said (esid_of ResourcesNotAvailable ∷ []) ∙ ap (λ (x : List ℕ). x ++ (last_frame ++ [])) (sym its.joined)
      ∙ ap (λ (x : List ℕ). here ++ x) (append-nil last_frame) in
      let cut : here ++ last_frame ≡ (here ++ take count last_frame) ++ drop count last_frame =
      ap (λ (x : List ℕ). here ++ x) (sym (take-append-drop count last_frame)) ∙ sym (append_assoc here (take count last_frame) (drop count last_frame)) in
      apart ∙ cut

  says_queues : SaysQueues outs
  says_queues = record {
    whole = whole_queue;
    cut = λ count. record { said = its.said; lost = drop count (octets_of outs); all = cut_queue count };
    ended = λ count. record { said = its.said ++ esid_of ResourcesNotAvailable ∷ []; lost = drop count last_frame; all = ended_queue count };
  }

  are_heard : Premise → AreHeard outs
  are_heard premise =
      let all = its.sayable premise in
      record {
        said = its.said;
        frames = its.each;
        cut = λ count. queues_are_heard its.said (take count (octets_of outs)) (drop count (octets_of outs)) all (cut_queue count);
        ended = λ count. queues_are_heard (its.said ++ esid_of ResourcesNotAvailable ∷ []) (octets_of outs ++ take count last_frame) (drop count last_frame)
            (one_said its.said (esid_of ResourcesNotAvailable) all (esid_sayable ResourcesNotAvailable)) (ended_queue count);
      }

-- the commands of the first outputs of a run
first_said : (limit : Option ℕ) (setting : Setting) (given : List ℕ) (r : Register) (outs later : List Output)
    → (run limit given (started setting r)).outputs ≡ outs ++ later → Spoken (StartsInRange setting r) outs
first_said limit setting given r outs later e =
    spoken_in _ outs (first_ones _ outs later (subst (AreFrames (StartsInRange setting r)) e (run_frames limit setting given r).frames))

pub runs_say_queues : RunsSayQueues
runs_say_queues limit setting given r outs later e = says_queues _ outs (first_said limit setting given r outs later e)

pub runs_are_heard : RunsAreHeard
runs_are_heard limit setting given r outs later e starts = are_heard _ outs (first_said limit setting given r outs later e) starts

-- registers stay in their ranges

-- a refusal stays
stuck : (cause : Cause) (changes : List Change) (s : Register) → fold go_on_by (let e : Result Register Cause = Err cause in e) changes ≡ Ok s → ⊥
stuck cause [] s h = cc
stuck cause (k ∷ ks) s h = stuck cause ks s h

changes_keep : (n : ℕ) (changes : List Change) (r s : Register) → IsSpellable r → AllByRecursion IsSpellableChange changes → apply_all r (take n changes) ≡ Ok s → IsSpellable s
changes_keep zero changes r s it all h = let is : r ≡ s = cc in subst IsSpellable is it
changes_keep (suc n) [] r s it all h = let is : r ≡ s = cc in subst IsSpellable is it
changes_keep (suc n) (k ∷ ks) r s it all h = by (λ q now. changes_keep n ks q s now all.1) (apply r k) refl h
  where
    by : ((q : Register) → IsSpellable q → apply_all q (take n ks) ≡ Ok s → IsSpellable s) → (result : Result Register Cause) → apply r k ≡ result
        → fold go_on_by result (take n ks) ≡ Ok s → IsSpellable s
    by later (Ok q) e g = later q (apply_spellable r k q it all.0 e) g
    by later (Err cause) e g = absurd (stuck cause (take n ks) s g)

pub ranges_are_kept : RangesAreKept
ranges_are_kept = record {
  first = empty_spellable;
  sessions = λ limit setting given r s n starts h. changes_keep n _ r s starts.spellable ((run_frames limit setting given r).changes starts) h;
  calls = calls_keep;
}
