-- What a job over a database leaves, from the contracts of the engine.
use Rattle.std.proofs.Common.{◌≡◌, ◌∙◌, sym, ap, subst, refl, arith, ℕ, zero, suc, max, ◌+◌, ◌-◌, ◌≤◌, List, [], ◌∷◌, ◌++◌, length, take, Option, None, Some, Result, Ok, Err, inl, inr, length-append}
use Rattle.std.proofs.lemmas.Grind.{flat_map-append}
use Rattle.std.proofs.lemmas.List.{append-nil, take_all, take_at}
use Rattle.sqlite.specs.State.{State}
use Rattle.oftp_vfile.specs.declared.limits.Limits.{Limits}
use Rattle.oftp_partners.specs.Book.{BookData}
use Rattle.oftp_register.specs.declared.change.Change.{Change}
use Rattle.oftp_register.specs.Changes.{apply_all}
use Rattle.oftp_register.specs.Offices.{Only, View}
use Rattle.oftp_register.specs.Register.{Register}
use Rattle.oftp_register.specs.Soundness.{IsSound}
use Rattle.oftp_session.specs.Calls.{Makes}
use Rattle.oftp_session.specs.Settings.{Setting}
use Rattle.oftp_session.specs.declared.session.Ending.{Ending}
use Rattle.oftp_tables.specs.Tables.{register_in}
use Rattle.oftp_store.specs.Views.{view_of}
use Rattle.oftp_engine.specs.declared.operating.Operator.{Operator}
use Rattle.oftp_engine.specs.declared.operating.Told.{Told}
use Rattle.oftp_io.specs.declared.port.Port.{Port}
use Rattle.oftp_engine.specs.declared.serving.End.{End}
use Rattle.oftp_engine.specs.declared.serving.End.TheVariants.{Input}
use Rattle.oftp_engine.specs.declared.serving.RunFault.{RunFault}
use Rattle.oftp_engine.specs.declared.serving.RunFault.TheVariants as fault
use Rattle.oftp_engine.specs.Conversation.{ComesTo, Dialogue}
use Rattle.oftp_engine.specs.Jobs.{LeavesSome, call_share}
use Rattle.oftp_engine.specs.Operated.{Operates}
use Rattle.oftp_engine.specs.Operating.{Deed, IsDeed}
use Rattle.oftp_engine.specs.Parts.{IsLeft, JobLeaves, OfCall, course_of}
use Rattle.oftp_io.specs.Ports.{Wrote}
use Rattle.oftp_engine.specs.Runs.{Course, Output, answered, ended_as, octets_of, with_change}
use Rattle.oftp_engine.specs.Served.{IsPrefix, IsWhole, Serves}
use Rattle.oftp_engine.specs.Serving.{Took, last_frame, scene}
use Rattle.oftp_engine.proofs.Ending.{answered_most, run_sound}
use Rattle.oftp_engine.proofs.Jobs.{left_all, left_before, replay_one}
use Rattle.oftp_engine.proofs.PartRuns.{jobs_make_the_file, parts_make_the_file}
use Rattle.oftp_life.specs.LifeParts.{session_over}
use Rattle.oftp_life.proofs.LifeParts.{none_or_one}
use Rattle.oftp_durable.proofs.Counts.{no_answer_passes}
use Rattle.oftp_durable.specs.Headline.{ButForOffice, CallDone, CallLeaves, LeavesAlone, LeavesPrefix, SessionLeaves, StopsShort, as_served}

-- what the first outputs answered, where exactly these are out
answered_first : (outs later : List Output) → answered (outs ++ later) (length (octets_of outs)) ≡ answered outs (length (octets_of outs))
answered_first [] [] = refl
answered_first [] (o ∷ later) = refl
answered_first (o ∷ outs) later = by (answered_first outs later) (length (octets_of (o ∷ outs))) (length-append o.octets (octets_of outs))
  where
    by : answered (outs ++ later) (length (octets_of outs)) ≡ answered outs (length (octets_of outs)) → (n : ℕ) → n ≡ length o.octets + length (octets_of outs)
        → answered (o ∷ (outs ++ later)) n ≡ answered (o ∷ outs) n
    by same zero e = refl
    by same (suc n) e =
        let rest : suc n - length o.octets ≡ length (octets_of outs) = omega (arith, e) in
        ap (max o.after) (ap (answered (outs ++ later)) rest ∙ same ∙ sym (ap (answered outs) rest))

-- the octets of the first outputs are a beginning of those of all
first_octets : (all outs later : List Output) → all ≡ outs ++ later → octets_of outs ≡ take (length (octets_of outs)) (octets_of all)
first_octets all outs later e =
    sym (take_at (octets_of outs) (octets_of later) (length (octets_of outs)) refl)
    ∙ ap (take (length (octets_of outs))) (sym (flat_map-append (λ (o : Output). o.octets) outs later) ∙ sym (ap octets_of e))

-- nothing is out after these
no_more : (octets : List ℕ) → octets ≡ octets ++ take 0 last_frame
no_more octets = sym (append-nil octets)

-- the contracts of the engine for an office over a database
module _ (x : View) (limits : Limits) (faults : ℕ) (s : State) where
  abbrev y : View
  y = view_of limits faults s

  pub prefix_of : (changes : List Change) (least made : ℕ) → LeavesSome changes least made x.register y → LeavesPrefix limits s x.register changes least
  prefix_of changes least made h = record { made = made; left = h.left; register = h.register }

  -- all changes are made, and a crash leaves what the office has
  pub prefix_all : (changes : List Change) (least : ℕ) → least ≤ length changes → apply_all x.register changes ≡ Ok y.register → Only y.register y
      → LeavesPrefix limits s x.register changes least
  prefix_all changes least le made left = prefix_of changes least (length changes) (left_all changes least x y y.register le made (λ _. refl) left)

module _ {W : Type 0} (contents : W → Option (List ℕ)) (x : View) (a b : Port W) (limits : Limits) (faults : ℕ) (s : State) where
  abbrev now : View
  now = view_of limits faults s

  wrote_of : (octets wanted : List ℕ) → octets ≡ wanted → Took (scene contents x a) (scene contents now b) octets → Wrote contents a b wanted
  wrote_of octets wanted e t = subst (Wrote contents a b) e (record { contents = t.contents; moved = t.taken })

  -- a session

  module _ (setting : Setting) (given : List ℕ) (sound : IsSound x.register) where
    abbrev Served : Result End RunFault → Type 0
    Served result = SessionLeaves contents setting given x.register a b limits s result

    abbrev course : Option ℕ → Course
    course stop = course_of (session_over setting given stop) x.register

    few : (stop : Option ℕ) (out : ℕ) → answered (course stop).outputs out ≤ length (course stop).changes
    few stop out = answered_most (course stop).outputs out (length (course stop).changes) (run_sound stop setting given x.register sound).counted

    leaves_of : (result : Result End RunFault) (stop : Option ℕ) (out closing : ℕ) → StopsShort result stop closing
        → Wrote contents a b (take out (octets_of (course stop).outputs) ++ take closing last_frame)
        → LeavesPrefix limits s x.register (course stop).changes (answered (course stop).outputs out) → Served result
    leaves_of result stop out closing short wrote left = record {
      stop = stop;
      out = out;
      closing = closing;
      short = short;
      wrote = wrote;
      left = left;
      counts = no_answer_passes (session_over setting given stop) x.register sound;
      parts = λ file identity so brings db may.
          let q = left.left db may in
          let is : IsLeft (course stop) x.register q.register = record { count = q.count; most = q.most; replay = q.replay } in
          (q.register, q.holds, parts_make_the_file file identity (session_over setting given stop) x.register q.register sound so brings is);
    }

    session_whole : (result : Result End RunFault) → StopsShort result None 0 → IsWhole setting given (scene contents x a) (scene contents now b) → Served result
    session_whole result short h =
        let octets = octets_of (course None).outputs in
        let all = sym (ap (λ (o : List ℕ). o ++ take 0 last_frame) (take_all (length octets) octets (omega arith)) ∙ sym (no_more octets)) in
        leaves_of result None (length octets) 0 short (wrote_of octets (take (length octets) octets ++ take 0 last_frame) all h.out)
        (prefix_all x limits faults s (course None).changes (answered (course None).outputs (length octets)) (few None (length octets)) h.replay h.left)

    pub session_leaves : (result : Result End RunFault) → Serves setting given (scene contents x a) (scene contents now b) result → Served result
    session_leaves (Ok end) h = session_whole (Ok end) (refl, refl) h.all
    session_leaves (Err fault.Read) h = session_whole (Err fault.Read) (refl, refl) h.all
    session_leaves (Err fault.Write) h =
        let octets = take h.taken (octets_of (course (Some h.taken)).outputs) in
        leaves_of (Err fault.Write) (Some h.taken) h.taken 0 (refl, refl) (wrote_of octets (octets ++ take 0 last_frame) (no_more octets) h.out)
        (prefix_all x limits faults s (course (Some h.taken)).changes (answered (course (Some h.taken)).outputs h.taken) (few (Some h.taken) h.taken) h.replay h.left)
    session_leaves (Err fault.Office) h =
        let n = length (octets_of h.outs) in
        let same : answered h.outs n ≡ answered (course None).outputs n = sym (ap (λ (os : List Output). answered os n) h.outputs ∙ answered_first h.outs h.later) in
        leaves_of (Err fault.Office) None n h.count refl
        (wrote_of (octets_of h.outs ++ take h.count last_frame) _ (ap (λ (o : List ℕ). o ++ take h.count last_frame) (first_octets (course None).outputs h.outs h.later h.outputs)) h.out)
        (record { made = h.made; left = subst (λ (least : ℕ). (db : _) → s.may_leave db → IsPrefix now.holds (course None).changes x.register least h.made db) same h.left; register = h.register })
    session_leaves (Err fault.Memory) h =
        let n = length (octets_of h.outs) in
        let same : answered h.outs n ≡ answered (course None).outputs n = sym (ap (λ (os : List Output). answered os n) h.outputs ∙ answered_first h.outs h.later) in
        let octets = octets_of h.outs in
        let all = no_more octets ∙ ap (λ (o : List ℕ). o ++ take 0 last_frame) (first_octets (course None).outputs h.outs h.later h.outputs) in
        leaves_of (Err fault.Memory) None n 0 (refl, refl) (wrote_of octets (take n (octets_of (course None).outputs) ++ take 0 last_frame) all h.out)
        (record {
          made = h.made;
          left = λ db may. record {
            count = h.made;
            least = subst (λ (least : ℕ). least ≤ h.made) same h.kept;
            most = h.few;
            near = inl refl;
            register = now.register;
            replay = h.register;
            holds = h.left db may;
          };
          register = λ _. h.register;
        })

    pub conversation_leaves : (talk : Dialogue) (result : Result (Option Ending) RunFault) → ComesTo setting given talk (scene contents x a) (scene contents now b) result
        → Served (as_served result)
    conversation_leaves talk (Ok None) h = session_whole (Ok Input) (refl, refl) h.all
    conversation_leaves talk (Ok (Some end)) h = session_whole (Ok (ended_as end)) (refl, refl) h.all
    conversation_leaves talk (Err f) h = session_leaves (Err f) h

  pub session_alone : (setting : Setting) (given : List ℕ) (result : Result End RunFault) → Serves setting given (scene contents x a) (scene contents now b) result
      → ButForOffice result (LeavesAlone limits s (register_in limits s.now.trees))
  session_alone setting given (Ok end) h = record { has = (h.all.stands, refl); left = h.all.left }
  session_alone setting given (Err fault.Read) h = record { has = (h.all.stands, refl); left = h.all.left }
  session_alone setting given (Err fault.Write) h = record { has = (h.stands, refl); left = h.left }
  session_alone setting given (Err fault.Office) h = tt
  session_alone setting given (Err fault.Memory) h = record { has = (h.stands, refl); left = h.left }

  -- an operator's call

  module _ (book : BookData) (call : Operator) (sound : IsSound x.register) where
    abbrev Done : Type 0
    Done = CallDone contents book call x.register a b limits s

    deed_few : (deed : Deed) (out : ℕ) → answered (call_share x.register deed).outputs out ≤ length (with_change [] deed.change)
    deed_few deed out = answered_most (call_share x.register deed).outputs out (length (with_change [] deed.change)) (omega arith, tt)

    done_of : (deed : Deed) → IsDeed book x.register call deed → (out : ℕ) → Wrote contents a b (take out deed.line)
        → LeavesPrefix limits s x.register (with_change [] deed.change) (answered (call_share x.register deed).outputs out) → Done
    done_of deed is out wrote left = record {
      deed = deed;
      is = is;
      out = out;
      wrote = wrote;
      left = left;
      parts = λ file identity so db may.
          let q = left.left db may in
          let made = none_or_one deed.change x.register q.register q.count q.replay in
          let leaves : JobLeaves (OfCall book call) x.register q.register = elim made [ inl same ↦ inl same | inr done ↦ inr (deed, is, done) ] in
          (q.register, q.holds, jobs_make_the_file file identity (OfCall book call ∷ []) x.register q.register sound so (q.register, tt, leaves, refl));
    }

    all_made : (deed : Deed) → IsDeed book x.register call deed → (out : ℕ) → Wrote contents a b (take out deed.line)
        → Makes deed.change x.register now.register → Only now.register now → Done
    all_made deed is out wrote made left =
        done_of deed is out wrote
        (prefix_all x limits faults s (with_change [] deed.change) (answered (call_share x.register deed).outputs out) (deed_few deed out) (replay_one deed.change x.register now.register made) left)

    pub call_leaves : (result : Result Told RunFault) → Operates book call (scene contents x a) (scene contents now b) result
        → CallLeaves contents book call x.register a b limits s result
    call_leaves (Ok told) (deed, is, h) =
        let n = length deed.line in
        all_made deed is n (wrote_of deed.line (take n deed.line) (sym (take_all n deed.line (omega arith))) h.out) h.register h.left
    call_leaves (Err fault.Read) h = absurd h
    call_leaves (Err fault.Write) (deed, is, h) = all_made deed is h.count (wrote_of (take h.count deed.line) (take h.count deed.line) refl h.out) h.register h.left
    call_leaves (Err fault.Office) (deed, is, h) =
        let changes = with_change [] deed.change in
        let none = wrote_of [] [] refl h.out in
        elim h.cases [
          | inl before ↦ done_of deed is 0 none (prefix_of x limits faults s changes 0 0 (left_before deed.change x now before))
          | inr made ↦
              let all = replay_one deed.change x.register made.after made.made in
              done_of deed is 0 none (prefix_of x limits faults s changes 0 (length changes) (left_all changes 0 x now made.after (omega arith) all made.register made.left))
        ]
    call_leaves (Err fault.Memory) (needs, h) = record {
      wrote = wrote_of [] [] refl h.out;
      left = record { has = (h.stands, h.register); left = subst (λ (r : Register). Only r now) h.register h.left };
    }

  pub call_alone : (book : BookData) (call : Operator) (result : Result Told RunFault) → Operates book call (scene contents x a) (scene contents now b) result
      → ButForOffice result (LeavesAlone limits s (register_in limits s.now.trees))
  call_alone book call (Ok told) (deed, is, h) = record { has = (h.stands, refl); left = h.left }
  call_alone book call (Err fault.Read) h = absurd h
  call_alone book call (Err fault.Write) (deed, is, h) = record { has = (h.stands, refl); left = h.left }
  call_alone book call (Err fault.Office) h = tt
  call_alone book call (Err fault.Memory) (needs, h) = record { has = (h.stands, refl); left = h.left }
