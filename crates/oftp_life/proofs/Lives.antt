-- What holds of a life after each of its calls.
use Rattle.std.proofs.Common.{◌≡◌, ◌∙◌, ap, sym, subst, refl, arith, Bool, take, ℕ, ◌+◌, ◌≤◌, inl, inr, true, false, List, [], ◌∷◌, ◌++◌, length, length-take-le, Option, None, Some, Result, Ok, Err, IfErr, OnOk, ◌≢◌}
use Rattle.std.specs.Bool.{⊤}
use Rattle.oftp_partners.specs.Book.{BookData}
use Rattle.oftp_register.specs.declared.change.Change.{Change}
use Rattle.oftp_register.specs.declared.office.OfficeFault.{OfficeFault}
use Rattle.oftp_register.specs.Changes.{apply_all}
use Rattle.oftp_register.specs.Offices.{LooksUp, Only, View}
use Rattle.oftp_register.specs.Register.{Register}
use Rattle.oftp_register.specs.Soundness.{IsSound}
use Rattle.oftp_session.specs.Calls.{Makes}
use Rattle.oftp_session.specs.Standings.{Broken}
use Rattle.oftp_session.specs.Settings.{Setting}
use Rattle.oftp_io.specs.declared.port.Port.{Port}
use Rattle.oftp_engine.specs.Conversation.{ComesSoFar, Dialogue, HasHeard, HeardMore, IsFresh, IsOwn}
use Rattle.oftp_engine.specs.Jobs.{LeavesSome, Stop}
use Rattle.oftp_engine.specs.Operated.{Operates}
use Rattle.oftp_engine.specs.Operating.{Deed, IsDeed}
use Rattle.oftp_engine.specs.Runs.{answered, octets_of, with_change}
use Rattle.oftp_engine.specs.Served.{IsBrokenOff, IsOfficeFault, IsOutOfMemory, IsWhole, broken_off, whole}
use Rattle.oftp_engine.specs.Serving.{Scene, Took, last_frame, scene}
use Rattle.oftp_engine.specs.declared.operating.Operator.{Operator}
use Rattle.oftp_engine.specs.declared.operating.Told.{Told}
use Rattle.oftp_engine.specs.declared.serving.Going.{Going}
use Rattle.oftp_engine.specs.declared.serving.Going.TheVariants as going
use Rattle.oftp_engine.specs.declared.serving.RunFault.{RunFault}
use Rattle.oftp_engine.specs.declared.serving.RunFault.TheVariants as fault
use Rattle.oftp_engine.proofs.Conversations.{heard_more, heard_none, listens_kept, looked, sends_kept}
use Rattle.oftp_engine.proofs.Openings.{let_in_live, opened_heard}
use Rattle.oftp_engine.specs.Openings.{of_caller}
use Rattle.oftp_engine.specs.declared.serving.Admission.TheVariants.{LetIn}
use Rattle.oftp_life.specs.Openings.{HasHeardOf}
use Rattle.oftp_engine.proofs.Jobs.{leaves_from, left_all, left_before, replay_on, replay_one}
use Rattle.oftp_life.specs.Acts.{Act, Conversed, Ordered}
use Rattle.oftp_life.specs.Noted.{with_call, with_heard}
use Rattle.oftp_life.specs.Outboxes.{contents_of, octets_out}
use Rattle.oftp_life.specs.declared.outbox.Outbox.{Outbox}
use Rattle.oftp_life.specs.Reaches.{ActMakes, ActStops, CallMakes, Reaches}
use Rattle.oftp_life.specs.Lives.{HasLeft, HasConversed, Holds, IsLeft, IsSession, LifeLeaves, Lives, Rests, after_look, ends_life, has_ceased, has_failed, is_over_at, stage_of}
use Rattle.oftp_life.specs.declared.stage.Stage.{Stage}
use Rattle.oftp_life.specs.declared.stage.Stage.TheVariants as stage

-- lemmas of lists of jobs, for no job in particular
no_octets : ⊤ → Option (List ℕ)
no_octets x = None

module _ (book : BookData) where
  pub replay_behind : (r s : Register) (before more : List Change) → apply_all r before ≡ Ok s → apply_all r (before ++ more) ≡ apply_all s more
  replay_behind = replay_on no_octets no_octets book

  pub leaves_behind : (r s : Register) (new : View) (before changes : List Change) (least made : ℕ) → apply_all r before ≡ Ok s
      → LeavesSome changes least made s new → LeavesSome (before ++ changes) (length before + least) (length before + made) r new
  leaves_behind = leaves_from no_octets no_octets book

-- the changes of an act are all accepted
pub act_replays : (act : Act) (r : Register) (changes : List Change) (now : Register) → ActMakes act r changes now → apply_all r changes ≡ Ok now
act_replays (Conversed setting heard said) r changes now h = h.replay
act_replays (Ordered book call) r changes now h = h.replay

pub book_in : Act → BookData
book_in (Conversed setting heard said) = setting.book
book_in (Ordered book call) = book

-- all changes of a life are accepted
pub reaches_replays : (first : Register) (acts : List Act) (changes : List Change) (now : Register) → Reaches first acts changes now → apply_all first changes ≡ Ok now
reaches_replays first [] changes now (none, same) = ap (apply_all first) none ∙ ap Ok (sym same)
reaches_replays first (act ∷ acts) changes now h =
    ap (apply_all first) h.all
    ∙ replay_behind (book_in act) first h.at h.before h.more (reaches_replays first acts h.before h.at h.reached)
    ∙ act_replays act h.at h.more now h.makes

-- nothing is done yet
pub rests_first : (now : View) → now.stands → Only now.register now → Rests now.register [] now
rests_first now stands left = record { changes = []; reached = (refl, refl); stands = stands; left = left }

-- a life that rests leaves what the headline says; `old` is any view of the first register
pub rests_leave : (old : View) (acts : List Act) (now : View) → Rests old.register acts now → LifeLeaves old.register acts now
rests_leave old acts now h = record {
  changes = h.changes;
  least = length h.changes;
  made = length h.changes;
  covers = inl (now.register, h.reached, refl);
  leaves = left_all h.changes (length h.changes) old now now.register (omega arith) (reaches_replays old.register acts h.changes now.register h.reached) (λ _. refl) h.left;
}

pub lives_leave : (over : Bool) (old : View) (acts : List Act) (now : View) → Lives over old.register acts now → IsLeft old.register acts over now
lives_leave true old acts now h = record { leaves = h; rests = λ e. absurd (let no : true ≡ false = e in cc) }
lives_leave false old acts now h = record { leaves = rests_leave old acts now h; rests = λ e. h }

pub lives_as : (over over' : Bool) (first : Register) (acts acts' : List Act) (now : View) → over' ≡ over → acts' ≡ acts → Lives over first acts now → Lives over' first acts' now
lives_as over over' first acts acts' now p q h = subst (λ (x : Bool). Lives x first acts' now) (sym p) (subst (λ (x : List Act). Lives over first x now) (sym q) h)

-- one more act
module _ (first : Register) (acts : List Act) (before : List Change) (at : Register) (reached : Reaches first acts before at) where
  rests_behind : (act : Act) (changes : List Change) (now : View) → ActMakes act at changes now.register → now.stands → Only now.register now → Rests first (act ∷ acts) now
  rests_behind act changes now makes stands left = record {
    changes = before ++ changes;
    reached = record { before = before; at = at; reached = reached; more = changes; makes = makes; all = refl };
    stands = stands;
    left = left;
  }

  stops_behind : (act : Act) (stop : Stop) (now : View) → ActStops act at stop → LeavesSome stop.changes stop.answered stop.made at now → LifeLeaves first (act ∷ acts) now
  stops_behind act stop now stops leaves = record {
    changes = before ++ stop.changes;
    least = length before + stop.answered;
    made = length before + stop.made;
    covers = inr (record {
      last = act;
      earlier = acts;
      are = refl;
      before = before;
      at = at;
      reached = reached;
      stop = stop;
      stops = stops;
      all = refl;
      count = refl;
    });
    leaves = leaves_behind (book_in act) first at now before stop.changes stop.answered stop.made (reaches_replays first acts before at reached) leaves;
  }

-- a session, after these acts: it said these octets, all that went out between the two scenes
module _ (first : Register) (acts : List Act) (before : List Change) (setting : Setting) (heard said : List ℕ) (a b : Scene) (reached : Reaches first acts before a.office.register)
    (out : (octets : List ℕ) → Took a b octets → said ≡ octets) where
  abbrev last : Act
  last = Conversed setting heard said

  abbrev from : Register
  from = a.office.register

  whole_rests : IsWhole setting heard a b → Rests first (last ∷ acts) b.office
  whole_rests h =
      rests_behind first acts before from reached last (whole setting heard from).changes b.office
      (record { how = inl (record { stop = None; are = refl; out = out (octets_of (whole setting heard from).outputs) h.out }); replay = h.replay }) h.stands h.left

  broken_rests : IsBrokenOff setting heard a b → Rests first (last ∷ acts) b.office
  broken_rests h =
      rests_behind first acts before from reached last (broken_off setting h.taken heard from).changes b.office
      (record { how = inl (record { stop = Some h.taken; are = refl; out = out (take h.taken (octets_of (broken_off setting h.taken heard from).outputs)) h.out }); replay = h.replay }) h.stands h.left

  short_rests : IsOutOfMemory setting heard a b → Rests first (last ∷ acts) b.office
  short_rests h =
      rests_behind first acts before from reached last (take h.made (whole setting heard from).changes) b.office
      (record {
        how = inr (record {
          outs = h.outs;
          made = h.made;
          stopped = h.stopped;
          are = refl;
          kept = subst (λ (n : ℕ). answered h.outs (length (octets_of h.outs)) ≤ n) (sym (length-take-le h.made (whole setting heard from).changes h.few)) h.kept;
          out = out (octets_of h.outs) h.out;
        });
        replay = h.register;
      }) h.stands h.left

  fault_leaves : IsOfficeFault setting heard a b → LifeLeaves first (last ∷ acts) b.office
  fault_leaves h =
      let stop : Stop = record { changes = (whole setting heard from).changes; answered = answered h.outs (length (octets_of h.outs)); made = h.made } in
      stops_behind first acts before from reached last stop b.office
      (record {
        outs = h.outs;
        later = h.later;
        outputs = h.outputs;
        closing = h.count;
        out = out (octets_of h.outs ++ take h.count last_frame) h.out;
        changes = refl;
        least = refl;
        stopped = h.stopped;
      })
      (record { kept = h.kept; few = h.few; register = h.register; left = h.left })

-- a session that went on with this result stands as the result says
holds_at : {O : Type 0} (view : O → View) (result : Result Going RunFault) (first : Register) (acts : List Act) (office now : O) (out : Port Outbox) (dialogue : Dialogue)
    → HasConversed view first acts office now out dialogue result → Holds view (stage_of result) first acts office now out dialogue
holds_at view (Ok going.Waits) first acts office now out dialogue h = h
holds_at view (Ok going.Sends) first acts office now out dialogue h = h
holds_at view (Ok (going.Ended ending)) first acts office now out dialogue h = h
holds_at view (Err f) first acts office now out dialogue h = h

-- What it has done it has done too over the office that it has later. So it is with another box that has handed out the same octets.
conversed_later : {O : Type 0} (view : O → View) (result : Result Going RunFault) (first : Register) (acts : List Act) (office now later : O) (here there : Port Outbox) (dialogue : Dialogue)
    → octets_out there.inner ≡ octets_out here.inner → (h : HasConversed view first acts office now here dialogue result)
    → ComesSoFar h.setting h.heard dialogue (scene contents_of (view office) h.front) (scene contents_of (view later) there) result
    → HasConversed view first acts office later there dialogue result
conversed_later view result first acts office now later here there dialogue out h comes = record {
  setting = h.setting;
  heard = h.heard;
  earlier = h.earlier;
  are = h.are ∙ ap (λ (x : List ℕ). let acts' : List Act = Conversed h.setting h.heard x ∷ h.earlier in acts') (sym out);
  changes = h.changes;
  reached = h.reached;
  own = h.own;
  front = h.front;
  nothing = h.nothing;
  comes = comes;
}

module _ {O : Type 0} (view : O → View) (first : Register) (office now : O) (front out : Port Outbox) (nothing : octets_out front.inner ≡ []) where
  abbrev a : Scene
  a = scene contents_of (view office) front

  abbrev b : Scene
  b = scene contents_of (view now) out

  abbrev said : List ℕ
  said = octets_out out.inner

  -- a session that went on with this result
  pub session_holds : (acts : List Act) (before : List Change) (setting : Setting) (heard : List ℕ) (dialogue : Dialogue) → Reaches first acts before (view office).register
      → (result : Result Going RunFault) → IfErr result IsOwn → ComesSoFar setting heard dialogue a b result
      → Holds view (stage_of result) first (Conversed setting heard said ∷ acts) office now out dialogue
  session_holds acts before setting heard dialogue reached result own h =
      holds_at view result first (Conversed setting heard said ∷ acts) office now out dialogue
      (record { setting = setting; heard = heard; earlier = acts; are = refl; changes = before; reached = reached; own = own; front = front; nothing = nothing; comes = h })

  -- all that went out since the session began is in the box
  all_out : (octets : List ℕ) → Took a b octets → said ≡ octets
  all_out octets took = took.contents ∙ ap (λ (x : List ℕ). x ++ octets) nothing

  -- a session that is cut where it stands, or has ended
  pub comes_live : (acts : List Act) (before : List Change) (setting : Setting) (heard : List ℕ) (dialogue : Dialogue) → Reaches first acts before (view office).register
      → (result : Result Going RunFault) → IfErr result IsOwn → ComesSoFar setting heard dialogue a b result → Lives (ends_life result) first (Conversed setting heard said ∷ acts) (view now)
  comes_live acts before setting heard dialogue reached (Ok going.Waits) own h = whole_rests first acts before setting heard said a b reached all_out h.all
  comes_live acts before setting heard dialogue reached (Ok going.Sends) own h = short_rests first acts before setting heard said a b reached all_out h.between
  comes_live acts before setting heard dialogue reached (Ok (going.Ended ending)) own h = whole_rests first acts before setting heard said a b reached all_out h.all
  comes_live acts before setting heard dialogue reached (Err fault.Read) own h = absurd own
  comes_live acts before setting heard dialogue reached (Err fault.Write) own h = broken_rests first acts before setting heard said a b reached all_out h
  comes_live acts before setting heard dialogue reached (Err fault.Office) own h = fault_leaves first acts before setting heard said a b reached all_out h
  comes_live acts before setting heard dialogue reached (Err fault.Memory) own h = short_rests first acts before setting heard said a b reached all_out h

module _ {O : Type 0} (view : O → View) (first : Register) (office now : O) (out : Port Outbox) where
  conversed_lives : (acts : List Act) (dialogue : Dialogue) (result : Result Going RunFault) → HasConversed view first acts office now out dialogue result
      → Lives (ends_life result) first acts (view now)
  conversed_lives acts dialogue result h =
      subst (λ (x : List Act). Lives (ends_life result) first x (view now)) (sym h.are)
      (comes_live view first office now h.front out h.nothing h.earlier h.changes h.setting h.heard dialogue h.reached result h.own h.comes)

  pub session_lives : (stage' : Stage) (acts : List Act) (dialogue : Dialogue) → Holds view stage' first acts office now out dialogue → Lives (is_over_at stage') first acts (view now)
  session_lives stage.Waits acts dialogue h = conversed_lives acts dialogue (Ok going.Waits) h
  session_lives stage.Sends acts dialogue h = conversed_lives acts dialogue (Ok going.Sends) h
  session_lives (stage.Ended ending) acts dialogue h = conversed_lives acts dialogue (Ok (going.Ended ending)) h
  session_lives (stage.Failed f) acts dialogue h = conversed_lives acts dialogue (Err f) h
  session_lives stage.Lost acts dialogue h = h

-- a session that heard more
module _ {O : Type 0} (view : O → View) where
  unbroken_open : (result : Result Going RunFault) (dialogue : Dialogue) → OnOk result (dialogue.seen.standing ≢ Broken) → has_ceased (stage_of result) ≡ false
      → dialogue.seen.standing ≢ Broken
  unbroken_open (Ok going.Waits) dialogue h e = h
  unbroken_open (Ok going.Sends) dialogue h e = h
  unbroken_open (Ok (going.Ended ending)) dialogue h e = h
  unbroken_open (Err f) dialogue h e = absurd (let no : true ≡ false = e in cc)

  -- what a session that can go on has done
  record SoFar (first : Register) (acts : List Act) (before now : O) (out : Port Outbox) (dialogue : Dialogue) : Type 0 where
    result : Result Going RunFault
    conversed : HasConversed view first acts before now out dialogue result
    heard : HasHeard conversed.setting conversed.heard dialogue (scene contents_of (view before) conversed.front) (scene contents_of (view now) out)

  so_far : (stage' : Stage) → has_ceased stage' ≡ false → (first : Register) (acts : List Act) (before now : O) (out : Port Outbox) (dialogue : Dialogue)
      → Holds view stage' first acts before now out dialogue → SoFar first acts before now out dialogue
  so_far stage.Waits e first acts before now out dialogue h = record { result = Ok going.Waits; conversed = h; heard = h.comes.heard }
  so_far stage.Sends e first acts before now out dialogue h = record { result = Ok going.Sends; conversed = h; heard = h.comes.heard }
  so_far (stage.Ended ending) e first acts before now out dialogue h = absurd (let no : true ≡ false = e in cc)
  so_far (stage.Failed f) e first acts before now out dialogue h = absurd (let no : true ≡ false = e in cc)
  so_far stage.Lost e first acts before now out dialogue h = absurd (let no : true ≡ false = e in cc)

  -- what a conversation comes to, from any scene
  abbrev pub GoesOn : (old new : O) (here there : Port Outbox) (dialogue then : Dialogue) → Result Going RunFault → Type 0
  GoesOn old new here there dialogue then result =
      (first : O) (front : Port Outbox) (setting : Setting) (given : List ℕ) → HasHeard setting given dialogue (scene contents_of (view first) front) (scene contents_of (view old) here)
      → ComesSoFar setting given then (scene contents_of (view first) front) (scene contents_of (view new) there) result

  pub take_session : (began office old new : O) (here there : Port Outbox) (acts : List Act) (dialogue more then : Dialogue) (stage' : Stage) (octets : List ℕ)
      → IsSession view began acts office old here dialogue stage' → has_ceased stage' ≡ false → HeardMore dialogue more octets
      → (result : Result Going RunFault) → IfErr result IsOwn → OnOk result (then.seen.standing ≢ Broken) → ((view new).clean → (view old).clean)
      → ((view new).clean → GoesOn old new here there more then result)
      → IsSession view began (with_heard acts octets (octets_out there.inner)) office new there then (stage_of result)
  take_session began office old new here there acts dialogue more then stage' octets is live heard result own unbroken early goes = record {
    unbroken = unbroken_open result then unbroken;
    holds = λ clean stood.
        let first = (view began).register in
        let far = so_far stage' live first acts office old here dialogue (is.holds (early clean) stood) in
        let h = far.conversed in
        let given = h.heard ++ octets in
        let on = heard_more h.setting h.heard octets dialogue more (scene contents_of (view office) h.front) (scene contents_of (view old) here) far.heard heard in
        let done = session_holds view first office new h.front there h.nothing h.earlier h.changes h.setting given then h.reached result own (goes clean office h.front h.setting given on) in
        subst (λ (x : List Act). Holds view (stage_of result) first x office new there then) (sym (ap (λ (x : List Act). with_heard x octets (octets_out there.inner)) h.are)) done;
  }

  -- a session that began
  pub begin_session : (sound : (o : O) → (view o).clean → (view o).stands → IsSound (view o).register) (began old new : O) (here there : Port Outbox) → octets_out here.inner ≡ []
      → (acts : List Act) (dialogue then : Dialogue) (setting : Setting) → ((view old).clean → (view began).stands → Rests (view began).register acts (view old)) → IsFresh setting dialogue
      → (result : Result Going RunFault) → IfErr result IsOwn → OnOk result (then.seen.standing ≢ Broken) → ((view new).clean → (view old).clean)
      → ((view new).clean → GoesOn old new here there dialogue then result)
      → IsSession view began (Conversed setting [] (octets_out there.inner) ∷ acts) old new there then (stage_of result)
  begin_session sound began old new here there nothing acts dialogue then setting rests fresh result own unbroken early goes = record {
    unbroken = unbroken_open result then unbroken;
    holds = λ clean stood.
        let was = early clean in
        let h = rests was stood in
        let none = heard_none setting dialogue (scene contents_of (view old) here) fresh (sound old was h.stands) h.stands in
        session_holds view (view began).register old new here there nothing acts h.changes setting [] then h.reached result own (goes clean old here setting [] none);
  }

  -- a session of a caller that was let in
  pub admit_session : (sound : (o : O) → (view o).clean → (view o).stands → IsSound (view o).register) (began old new : O) (here there : Port Outbox)
      → (acts : List Act) (dialogue then : Dialogue) (book : BookData) (heard : List ℕ) → ((view old).clean → (view began).stands → Rests (view began).register acts (view old))
      → HasHeardOf book heard here dialogue LetIn
      → (result : Result Going RunFault) → IfErr result IsOwn → OnOk result (then.seen.standing ≢ Broken) → ((view new).clean → (view old).clean)
      → ((view new).clean → GoesOn old new here there dialogue then result)
      → IsSession view began (Conversed (of_caller book) heard (octets_out there.inner) ∷ acts) old new there then (stage_of result)
  admit_session sound began old new here there acts dialogue then book heard rests guest result own unbroken early goes = record {
    unbroken = unbroken_open result then unbroken;
    holds = λ clean stood.
        let was = early clean in
        let h = rests was stood in
        let setting = of_caller book in
        let on = opened_heard contents_of book heard dialogue guest.front here (view old) (sound old was h.stands) h.stands guest.judged.opened (let_in_live book heard (sym guest.judged.verdict)) in
        session_holds view (view began).register old new guest.front there guest.nothing acts h.changes setting heard then h.reached result own (goes clean old guest.front setting heard on);
  }

  pub session_as : (began office office' now : O) (out : Port Outbox) (acts acts' : List Act) (dialogue : Dialogue) (stage' stage'' : Stage)
      → acts' ≡ acts → office' ≡ office → stage'' ≡ stage' → IsSession view began acts office now out dialogue stage' → IsSession view began acts' office' now out dialogue stage''
  session_as began office office' now out acts acts' dialogue stage' stage'' p q r h =
      subst (λ (x : Stage). IsSession view began acts' office' now out dialogue x) (sym r)
      (subst (λ (x : O). IsSession view began acts' x now out dialogue stage') (sym q)
      (subst (λ (x : List Act). IsSession view began x office now out dialogue stage') (sym p) h))

  pub session_left : (began office now : O) (out : Port Outbox) (acts : List Act) (dialogue : Dialogue) (stage' : Stage) → IsSession view began acts office now out dialogue stage'
      → HasLeft view began acts (is_over_at stage') now
  session_left began office now out acts dialogue stage' is = λ clean stood.
      lives_leave (is_over_at stage') (view began) acts (view now) (session_lives view (view began).register office now out stage' acts dialogue (is.holds clean stood))

-- a port whose box has handed out the same octets, and that has the same counts
pub same_scene : (v : View) (here there : Port Outbox) → octets_out there.inner ≡ octets_out here.inner → there.moved ≡ here.moved → there.faults ≡ here.faults
    → scene contents_of v here ≡ scene contents_of v there
same_scene v here there p q r =
    ap (λ (x : List ℕ). let s : Scene = record { office = v; contents = Some x; taken = here.moved; told = here.faults } in s) (sym p)
    ∙ ap (λ (x : ℕ). let s : Scene = record { office = v; contents = contents_of there.inner; taken = x; told = here.faults } in s) (sym q)
    ∙ ap (λ (x : ℕ). let s : Scene = record { office = v; contents = contents_of there.inner; taken = there.moved; told = x } in s) (sym r)

module _ {O : Type 0} (view : O → View) (first : Register) (office now : O) (here there : Port Outbox) (acts : List Act) (dialogue : Dialogue)
    (out : octets_out there.inner ≡ octets_out here.inner) (same : scene contents_of (view now) here ≡ scene contents_of (view now) there) where
  conversed_same : (result : Result Going RunFault) → HasConversed view first acts office now here dialogue result → HasConversed view first acts office now there dialogue result
  conversed_same result h =
      conversed_later view result first acts office now now here there dialogue out h
      (subst (λ (s : Scene). ComesSoFar h.setting h.heard dialogue (scene contents_of (view office) h.front) s result) same h.comes)

  holds_same : (stage' : Stage) → Holds view stage' first acts office now here dialogue → Holds view stage' first acts office now there dialogue
  holds_same stage.Waits h = conversed_same (Ok going.Waits) h
  holds_same stage.Sends h = conversed_same (Ok going.Sends) h
  holds_same (stage.Ended ending) h = conversed_same (Ok (going.Ended ending)) h
  holds_same (stage.Failed f) h = conversed_same (Err f) h
  holds_same stage.Lost h = h

pub session_same : {O : Type 0} (view : O → View) (began office now : O) (here there : Port Outbox) (acts : List Act) (dialogue : Dialogue) (stage' : Stage)
    → octets_out there.inner ≡ octets_out here.inner → there.moved ≡ here.moved → there.faults ≡ here.faults → IsSession view began acts office now here dialogue stage'
    → IsSession view began acts office now there dialogue stage'
session_same view began office now here there acts dialogue stage' p q r is = record {
  unbroken = is.unbroken;
  holds = λ clean stood. holds_same view (view began).register office now here there acts dialogue p (same_scene (view now) here there p q r) stage' (is.holds clean stood);
}

-- an operator's call

-- what its change makes of the register of an office
call_makes : (book : BookData) (call : Operator) (deed : Deed) (r now : Register) → IsDeed book r call deed → Makes deed.change r now
    → CallMakes book call r (with_change [] deed.change) now
call_makes book call deed r now is made = record { deed = deed; is = is; are = refl; replay = replay_one deed.change r now made }

module _ (old : View) (acts : List Act) (book : BookData) (call : Operator) (a b : Scene) (rests : Rests old.register acts a.office) where
  abbrev act : Act
  act = Ordered book call

  abbrev at : Register
  at = a.office.register

  call_rests : (deed : Deed) → IsDeed book at call deed → Makes deed.change at b.office.register → b.office.stands → Only b.office.register b.office
      → Rests old.register (act ∷ acts) b.office
  call_rests deed is made =
      rests_behind old.register acts rests.changes at rests.reached act (with_change [] deed.change) b.office (call_makes book call deed at b.office.register is made)

  call_stops : (deed : Deed) → IsDeed book at call deed → (made : ℕ) → LeavesSome (with_change [] deed.change) 0 made at b.office → LifeLeaves old.register (act ∷ acts) b.office
  call_stops deed is made leaves =
      stops_behind old.register acts rests.changes at rests.reached act (record { changes = with_change [] deed.change; answered = 0; made = made }) b.office
      (record { deed = deed; is = is; changes = refl; least = refl }) leaves

  pub call_lives : (result : Result Told RunFault) → Operates book call a b result → Lives (ends_life result) old.register (with_call book call acts result) b.office
  call_lives (Ok told) (deed, is, h) = call_rests deed is h.register h.stands h.left
  call_lives (Err fault.Read) h = absurd h
  call_lives (Err fault.Write) (deed, is, h) = call_rests deed is h.register h.stands h.left
  call_lives (Err fault.Office) (deed, is, h) =
      let changes = with_change [] deed.change in
      elim h.cases [
        | inl before ↦ call_stops deed is 0 (left_before deed.change a.office b.office before)
        | inr made ↦ call_stops deed is (length changes)
            (left_all changes 0 a.office b.office made.after (omega arith) (replay_one deed.change at made.after made.made) made.register made.left)
      ]
  -- nothing was done
  call_lives (Err fault.Memory) (needs, h) = record {
    changes = rests.changes;
    reached = subst (λ (r : Register). Reaches old.register acts rests.changes r) (sym h.register) rests.reached;
    stands = h.stands;
    left = h.left;
  }

-- a look-up

module _ {T : Type 0} (Tells : Register → T → Type 0) (old before new : View) (result : Result T OfficeFault) (looks : LooksUp Tells before new result) (clean : new.clean) (acts : List Act) where
  look_rests : Rests old.register acts before → new.stands → Rests old.register acts new
  look_rests h stands =
      let same = looks.register clean h.stands (new.opens stands) in
      record {
        changes = h.changes;
        reached = subst (λ (r : Register). Reaches old.register acts h.changes r) (sym same) h.reached;
        stands = stands;
        left = subst (λ (r : Register). Only r new) (sym same) (looks.left clean h.stands);
      }

  look_leaves : Rests old.register acts before → LifeLeaves old.register acts new
  look_leaves h = record {
    changes = h.changes;
    least = length h.changes;
    made = length h.changes;
    covers = inl (before.register, h.reached, refl);
    leaves = left_all h.changes (length h.changes) old new before.register (omega arith) (reaches_replays old.register acts h.changes before.register h.reached)
        (looks.register clean h.stands) (looks.left clean h.stands);
  }

-- a life that looked something up
look_lives : {T : Type 0} (Tells : Register → T → Type 0) (old before new : View) (result : Result T OfficeFault) → LooksUp Tells before new result → new.clean → (acts : List Act)
    → Rests old.register acts before → Lives (has_failed result) old.register acts new
look_lives Tells old before new (Ok x) looks clean acts h = look_rests Tells old before new (Ok x) looks clean acts h (looks.stays clean h.stands)
look_lives Tells old before new (Err f) looks clean acts h = look_leaves Tells old before new (Err f) looks clean acts h

-- the same of a life whose look-ups say by their result whether it is over
pub look_life : {O T : Type 0} (view : O → View) (Tells : Register → T → Type 0) (began old new : O) (acts : List Act) (over over' : Bool) (result : Result T OfficeFault)
    → over ≡ false → over' ≡ has_failed result → LooksUp Tells (view old) (view new) result
    → ((view old).clean → (view began).stands → Lives over (view began).register acts (view old))
    → (view new).clean → (view began).stands → Lives over' (view began).register acts (view new)
look_life view Tells began old new acts over over' result live ends looks lives clean stood =
    let first = (view began).register in
    lives_as (has_failed result) over' first acts acts (view new) ends refl
    (look_lives Tells (view began) (view old) (view new) result looks clean acts
    (subst (λ (b : Bool). Lives b first acts (view old)) live (lives (looks.clean clean) stood)))

-- a session that looked something up while it could go on
module _ {O T : Type 0} (view : O → View) (Tells : Register → T → Type 0) (began office old new : O) (out : Port Outbox) (acts : List Act) (dialogue : Dialogue) where
  abbrev first : Register
  first = (view began).register

  look_fails : (stage' : Stage) → is_over_at stage' ≡ false → (f : OfficeFault) → LooksUp Tells (view old) (view new) (let r : Result T OfficeFault = Err f in r) → (view new).clean
      → Holds view stage' first acts office old out dialogue → LifeLeaves first acts (view new)
  look_fails stage' not_over f looks clean h =
      look_leaves Tells (view began) (view old) (view new) (Err f) looks clean acts
      (subst (λ (x : Bool). Lives x first acts (view old)) not_over (session_lives view first office old out stage' acts dialogue h))

  look_holds : (stage' : Stage) → has_ceased stage' ≡ false → (result : Result T OfficeFault) → LooksUp Tells (view old) (view new) result → (view new).clean
      → Holds view stage' first acts office old out dialogue → Holds view (after_look stage' result) first acts office new out dialogue
  look_holds stage.Waits e (Ok x) looks clean h =
      let same = looked Tells (view old) (view new) (Ok x) looks refl clean h.comes.all.stands in
      conversed_later view (Ok going.Waits) first acts office old new out out dialogue refl h
      (listens_kept h.setting h.heard dialogue (scene contents_of (view office) h.front) (scene contents_of (view old) out) (view new) same h.comes)
  look_holds stage.Sends e (Ok x) looks clean h =
      let same = looked Tells (view old) (view new) (Ok x) looks refl clean h.comes.between.stands in
      conversed_later view (Ok going.Sends) first acts office old new out out dialogue refl h
      (sends_kept h.setting h.heard dialogue (scene contents_of (view office) h.front) (scene contents_of (view old) out) (view new) same h.comes)
  look_holds stage.Waits e (Err f) looks clean h = look_fails stage.Waits refl f looks clean h
  look_holds stage.Sends e (Err f) looks clean h = look_fails stage.Sends refl f looks clean h
  look_holds (stage.Ended ending) e result looks clean h = absurd (let no : true ≡ false = e in cc)
  look_holds (stage.Failed f) e result looks clean h = absurd (let no : true ≡ false = e in cc)
  look_holds stage.Lost e result looks clean h = absurd (let no : true ≡ false = e in cc)

  pub look_session : (stage' after : Stage) (result : Result T OfficeFault) → has_ceased stage' ≡ false → after ≡ after_look stage' result → LooksUp Tells (view old) (view new) result
      → IsSession view began acts office old out dialogue stage' → IsSession view began acts office new out dialogue after
  look_session stage' after result live stands looks is = record {
    unbroken = λ e. is.unbroken live;
    holds = λ clean stood.
        subst (λ (x : Stage). Holds view x first acts office new out dialogue) (sym stands)
        (look_holds stage' live result looks clean (is.holds (looks.clean clean) stood));
  }
