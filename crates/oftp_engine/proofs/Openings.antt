-- The opening of a session with a caller: the answer to its first command, and that any office can go on from there.
use Rattle.std.proofs.Common.{◌≡◌, ◌≢◌, ◌∙◌, ap, sym, subst, refl, ℕ, false, List, [], ◌++◌, length, take, drop, Option, None, Some, Result, Ok, Err, is_ok, is_some, append_assoc, length-append}
use Rattle.std.specs.Result.{OnOk}
use Rattle.std.specs.Option.{option_copied}
use Rattle.std.specs.Borrow.{Bor}
use Rattle.std.proofs.lemmas.Bool.{false≢true}
use Rattle.std.proofs.lemmas.List.{append-nil, drop-append-le, take-append-drop}
use Rattle.oftp_codec.proofs.Streams.{IsTold, front_more, front_within, next_err, next_none, next_some}
use Rattle.oftp_codec.specs.Kinds.{command_of}
use Rattle.oftp_wire.specs.Reasons.{reason_of}
use Rattle.oftp_codec.specs.Stream.{Bad, Head, IsWithin, Stream, Waits, Whole, command_in, front, left_of, next_of, past, with_fault}
use Rattle.oftp_wire.specs.declared.command.Command.{Command}
use Rattle.oftp_wire.specs.declared.command.Command.TheVariants as command
use Rattle.oftp_wire.specs.declared.command.Mode.{Mode}
use Rattle.oftp_wire.specs.declared.command.Ssid.{Ssid}
use Rattle.oftp_wire.specs.declared.fault.WireFault.{WireFault}
use Rattle.oftp_codec.specs.declared.frame_fault.FrameFault.{FrameFault}
use Rattle.oftp_wire.specs.declared.reason.SessionReason.{SessionReason}
use Rattle.oftp_wire.specs.declared.reason.SessionReason.TheVariants.{ProtocolViolation}
use Rattle.oftp_partners.specs.Book.{BookData}
use Rattle.oftp_register.specs.Offices.{View}
use Rattle.oftp_register.specs.Register.{Register}
use Rattle.oftp_register.specs.Soundness.{IsSound}
use Rattle.oftp_session.proofs.Recalling.{ended_recalls}
use Rattle.oftp_session.specs.Callers.{AfterAlone, greeting}
use Rattle.oftp_session.specs.Calls.{Proceeds, Seen, Stands}
use Rattle.oftp_session.specs.Opening.{Agreement, came_awaiting_ssid, opened_step, ssid_verdict}
use Rattle.oftp_session.specs.Phases.{Phase, AwaitingSsid, AwaitingRtr, AwaitingStart, AwaitingEnd, EndedHere, EndedThere, GivingWay, InitiatorOpening, ListenerIdle, Receiving, ResponderOpening, Sending, SpeakerIdle, Step, ending_of, esid_of, fails, frame_of, framed, is_over, register_after, unexpected}
use Rattle.oftp_session.specs.Recalling.{Recalls, RecallsAt}
use Rattle.oftp_session.specs.Settings.{Setting}
use Rattle.oftp_session.specs.Standings.{Broken, Standing, StandsIn}
use Rattle.oftp_session.specs.Steps.{Suits, came, turned}
use Rattle.oftp_session.specs.declared.session.Ending.{Ending}
use Rattle.oftp_session.specs.declared.session.Ending.TheVariants.{Own}
use Rattle.oftp_io.proofs.Bytes.{appends_on, count_on}
use Rattle.oftp_io.proofs.Puts.{same_on}
use Rattle.oftp_io.specs.declared.port.Port.{Port}
use Rattle.oftp_io.specs.Ports.{Sent, SentAll}
use Rattle.oftp_codec.specs.declared.limits.TheConstants.{LONGEST_FRAME}
use Rattle.oftp_engine.specs.declared.serving.Admission.{Admission}
use Rattle.oftp_engine.specs.declared.serving.Admission.TheVariants.{LetIn, SentAway, Undecided}
use Rattle.oftp_engine.specs.declared.serving.RunFault.{RunFault}
use Rattle.oftp_engine.specs.Conversation.{Dialogue, HasHeard, HeardMore, IsFresh}
use Rattle.oftp_engine.specs.Openings.{Answered, HasOpened, IsAccepted, IsGreeted, IsJudged, OpenedAt, admission_at, admission_by, admission_of, answer_at, answer_to, of_caller, phase_after, said_after}
use Rattle.oftp_engine.specs.Progress.{Comes, Leads, Went}
use Rattle.oftp_engine.specs.Runs.{Course, advance, octets_of, refusal, run, started, step_on}
use Rattle.oftp_engine.specs.Serving.{Scene, scene}
use Rattle.oftp_engine.proofs.Phases.{step_proceeds}
use Rattle.oftp_engine.proofs.Progress.{command_more, leads_frame, leads_on, leads_step, leads_turn, octets_step}

-- what was sent, one frame after another

pub sent_on : {W : Type 0} (contents : W → Option (List ℕ)) (a b d : Port W) (xs ys : List ℕ) → SentAll contents a b xs → SentAll contents b d ys → SentAll contents a d (xs ++ ys)
sent_on contents a b d xs ys p q = record {
  wrote = record {
    contents = appends_on (contents a.inner) (contents b.inner) (contents d.inner) xs ys p.wrote.contents q.wrote.contents;
    moved = count_on a.moved b.moved d.moved (length xs) (length ys) (length (xs ++ ys)) p.wrote.moved q.wrote.moved (length-append xs ys);
  };
  faults = q.faults ∙ p.faults;
  same = same_on a b d p.same q.same;
}

-- what a session remembers that has forgotten all is true
forgets : (seen : Seen) (r : Register) → seen.response_due ≡ None → Recalls seen r
unfolding RecallsAt
forgets seen r none = λ to e given is. absurd (let no : ⊥ = cc in no)

-- a step for which no office was asked, and the write of its frame
pub sent_alone : {T W : Type 0} (contents : W → Option (List ℕ)) (a d : Port W) (step : Step) (old new : Seen) (said : List ℕ) (result : Result T RunFault)
    → said ≡ framed step.output → AfterAlone step old new → Sent contents a d said (is_ok result) → OnOk result (Answered contents step old new a d)
sent_alone contents a d step old new said (Ok x) same after sent = record {
  setting = after.setting;
  stands = after.stands;
  recalls = λ r. forgets new r after.forgets;
  out = subst (SentAll contents a d) same sent;
}
sent_alone contents a d step old new said (Err f) same after sent = tt

-- an end, and the write of its ESID
pub sent_refusal : {T W : Type 0} (contents : W → Option (List ℕ)) (a d : Port W) (reason : SessionReason) (old new : Seen) (result : Result T RunFault)
    → new.setting ≡ old.setting → OnOk result (Stands (EndedHere reason) new) → Sent contents a d (frame_of (esid_of reason)) (is_ok result)
    → OnOk result (Answered contents (fails reason) old new a d)
sent_refusal contents a d reason old new (Ok x) setting over sent = record {
  setting = setting;
  stands = over;
  recalls = λ r. ended_recalls reason new r over;
  out = sent;
}
sent_refusal contents a d reason old new (Err f) setting over sent = tt

pub made_ok : {T P : Type 0} (r : Result T RunFault) (x : T) → r ≡ Ok x → OnOk r P → P
made_ok {T = T} {P = P} r x e h = subst (λ (y : Result T RunFault). OnOk y P) e h

-- the greeting of a session that had heard nothing
pub greeted_none : {W : Type 0} (contents : W → Option (List ℕ)) (a d : Port W) (book : BookData) (old new : Dialogue) → IsFresh (of_caller book) old → new.stream ≡ old.stream
    → Answered contents greeting old.seen new.seen a d → IsGreeted contents book [] new a d
greeted_none contents a d book old new fresh same made = record {
  setting = made.setting ∙ fresh.setting;
  stands = made.stands;
  recalls = made.recalls;
  rest = ap (λ (s : Stream). s.rest) same ∙ fresh.rest;
  limit = ap (λ (s : Stream). s.limit) same ∙ fresh.limit;
  told = ap (λ (s : Stream). s.told) same ∙ fresh.told;
  out = made.out;
}

-- a caller that has sent nothing is undecided
pub greeted_undecided : {W : Type 0} (contents : W → Option (List ℕ)) (book : BookData) (talk : Dialogue) (before now : Port W) → IsGreeted contents book [] talk before now
    → IsJudged contents book [] talk before now Undecided
unfolding front
greeted_undecided contents book talk before now g = record {
  verdict = refl;
  opened = record {
    setting = g.setting;
    stands = g.stands;
    recalls = g.recalls;
    rest = g.rest;
    limit = g.limit;
    told = λ live. g.told;
    out = subst (SentAll contents before now) (sym (append-nil (framed greeting.output))) g.out;
  };
}

-- what `next` found in the stream of a caller that was greeted
module _ {W : Type 0} (contents : W → Option (List ℕ)) (book : BookData) (octets : List ℕ) (old : Seen) (s after : Stream) (before here : Port W)
    (g : IsGreeted contents book octets (record { seen = old; stream = s }) before here) (left : after ≡ left_of s s.told) where
  abbrev setting : Setting
  setting = of_caller book

  at_front : (h : Head) → front s.limit s.rest ≡ h → front LONGEST_FRAME octets ≡ h
  at_front h e = sym (ap (λ (n : ℕ). front n s.rest) g.limit ∙ ap (front LONGEST_FRAME) g.rest) ∙ e

  -- by the beginning of what the caller sent
  judged_at : (h : Head) → front LONGEST_FRAME octets ≡ h → (talk : Dialogue) (now : Port W) (admission : Admission) → admission ≡ admission_at (answer_at setting octets h)
      → OpenedAt contents book octets h talk before now → IsJudged contents book octets talk before now admission
  judged_at h e talk now admission is opened = record {
    verdict = is ∙ ap (λ (x : Head). admission_at (answer_at setting octets x)) (sym e);
    opened = subst (λ (x : Head). OpenedAt contents book octets x talk before now) (sym e) opened;
  }

  -- no command is whole
  pub undecided : (f : Option (Bor (List ℕ))) → Ok (option_copied f) ≡ next_of s s.told → f ≡ None → IsJudged contents book octets (record { seen = old; stream = after }) before here Undecided
  undecided f e h =
      let none = next_none s (sym e ∙ ap (λ (x : Option (Bor (List ℕ))). Ok (option_copied x)) h) in
      let same : after ≡ s = left ∙ none.1 in
      judged_at Waits (at_front Waits none.0) (record { seen = old; stream = after }) here Undecided refl (record {
        setting = g.setting;
        stands = g.stands;
        recalls = g.recalls;
        rest = ap (λ (x : Stream). x.rest) same ∙ g.rest;
        limit = ap (λ (x : Stream). x.limit) same ∙ g.limit;
        told = λ live. ap (λ (x : Stream). x.told) same ∙ g.told;
        out = subst (SentAll contents before here) (sym (append-nil (framed greeting.output))) g.out;
      })

  -- the first command was answered
  pub decided : (f : Option (Bor (List ℕ))) (o : Bor (List ℕ)) → Ok (option_copied f) ≡ next_of s s.told → f ≡ Some o → (new : Seen) (now : Port W) (admission : Admission)
      → ((p : Phase) → Stands p new → admission ≡ admission_by (ending_of p)) → Answered contents (answer_to old.setting (command_of o.now)) old new here now
      → IsJudged contents book octets (record { seen = new; stream = after }) before now admission
  decided f o e h new now admission shows answered =
      let read = next_some s o.now (sym e ∙ ap (λ (x : Option (Bor (List ℕ))). Ok (option_copied x)) h) in
      let n = read.0 in
      let same : after ≡ past s n = left ∙ read.3 in
      let said : command_in n octets ≡ o.now = sym (ap (command_in n) g.rest) ∙ read.2 in
      let step = answer_to setting (command_of (command_in n octets)) in
      let made : Answered contents step old new here now =
      subst (λ (x : List ℕ). Answered contents (answer_to setting (command_of x)) old new here now) (sym said)
      (subst (λ (x : Setting). Answered contents (answer_to x (command_of o.now)) old new here now) g.setting answered) in
      judged_at (Whole n) (at_front (Whole n) read.1) (record { seen = new; stream = after }) now admission (shows step.phase made.stands) (record {
        setting = made.setting ∙ g.setting;
        stands = made.stands;
        recalls = made.recalls;
        rest = ap (λ (x : Stream). x.rest) same ∙ ap (drop n) g.rest;
        limit = ap (λ (x : Stream). x.limit) same ∙ g.limit;
        told = λ live. ap (λ (x : Stream). x.told) same ∙ g.told;
        out = sent_on contents before here now (framed greeting.output) (framed step.output) g.out made.out;
      })

  -- there was no header where one is expected
  pub no_frame : (x : FrameFault) → Err x ≡ next_of s s.told → (new : Seen) (now : Port W) → Answered contents (fails ProtocolViolation) old new here now
      → IsJudged contents book octets (record { seen = new; stream = after }) before now (SentAway (Own ProtocolViolation))
  no_frame x e new now made =
      let bad = next_err s x g.told (sym e) in
      let same : after ≡ with_fault s x = left ∙ bad.1 in
      judged_at (Bad x) (at_front (Bad x) bad.0) (record { seen = new; stream = after }) now (SentAway (Own ProtocolViolation)) refl (record {
        setting = made.setting ∙ g.setting;
        stands = made.stands;
        recalls = made.recalls;
        rest = ap (λ (x : Stream). x.rest) same ∙ g.rest;
        limit = ap (λ (x : Stream). x.limit) same ∙ g.limit;
        told = λ live. absurd (false≢true (sym live));
        out = sent_on contents before here now (framed greeting.output) (framed (fails ProtocolViolation).output) g.out made.out;
      })

-- no answer changes a register
unexpected_quiet : (c : Command) → (unexpected c).change ≡ None
unfolding unexpected
unexpected_quiet (command.Esid esid) = refl
unexpected_quiet _ = refl

opened_quiet : (book : BookData) (letter : Mode) (verdict : Result Agreement SessionReason) → (opened_step (of_caller book) letter verdict).change ≡ None
opened_quiet book letter (Ok a) = refl
opened_quiet book letter (Err reason) = refl

refusal_quiet : (reason : Option SessionReason) → (refusal reason).change ≡ None
refusal_quiet (Some reason) = refl
refusal_quiet None = refl

answer_quiet : (book : BookData) (c : Result Command WireFault) → (answer_to (of_caller book) c).change ≡ None
unfolding came_awaiting_ssid
answer_quiet book (Ok (command.Ssid ssid)) = opened_quiet book ssid.mode (ssid_verdict (of_caller book) ssid)
answer_quiet book (Ok other) = unexpected_quiet other
answer_quiet book (Err fault) = refusal_quiet (reason_of fault)

-- the answer is the session's step, from each register
step_alone : (known : Setting) (r : Register) (c : Result Command WireFault) → step_on known AwaitingSsid r c ≡ answer_to known c
unfolding came
step_alone known r (Ok c) = refl
step_alone known r (Err fault) = refl

-- the run of a session with a caller, from a register
module _ (book : BookData) (r : Register) (sound : IsSound r) where
  abbrev caller : Setting
  caller = of_caller book

  abbrev first : Course
  first = started caller r

  abbrev greeted : Course
  greeted = advance first greeting

  greets : (s : List ℕ) → Leads first s greeted s
  unfolding turned
  greets s = leads_turn first s refl

  suits_greeted : Suits AwaitingSsid r
  suits_greeted = record { sound = sound; holds = tt }

  module _ (s : List ℕ) (n : ℕ) (whole : front LONGEST_FRAME s ≡ Whole n) where
    abbrev arrived : Result Command WireFault
    arrived = command_of (command_in n s)

    abbrev reply : Step
    reply = answer_to caller arrived

    reply_proceeds : Proceeds r reply
    reply_proceeds = subst (Proceeds r) (step_alone caller r arrived) (step_proceeds caller AwaitingSsid r arrived suits_greeted)

    same_register : register_after r reply.change ≡ r
    same_register = ap (register_after r) (answer_quiet book arrived)

    replies : Leads greeted s (advance greeted reply) (drop n s)
    unfolding advance
    replies =
        leads_step greeted reply s (drop n s) (take n s) (sym (take-append-drop n s)) (λ suits. reply_proceeds)
        (λ more limit stopped. leads_frame greeted s n refl refl whole more limit stopped
        ∙ ap (λ (x : Step). run limit (drop n s ++ more) (advance greeted x)) (step_alone caller r arrived))

-- Any office that is sound and open can go on from there.
module _ {W : Type 0} (contents : W → Option (List ℕ)) (book : BookData) (octets : List ℕ) (talk : Dialogue) (before now : Port W) (v : View) (sound : IsSound v.register) (stood : v.stands) where
  abbrev old : Scene
  old = scene contents v before

  abbrev new : Scene
  new = scene contents v now

  abbrev start : Course
  start = started (of_caller book) v.register

  opens_at : (h : Head) → front LONGEST_FRAME octets ≡ h → OpenedAt contents book octets h talk before now → is_over (phase_after (answer_at (of_caller book) octets h)) ≡ false
      → Comes start octets talk.stream.rest talk.seen old new
  unfolding advance
  opens_at (Whole n) e o live =
      let step = reply book v.register sound octets n e in
      let c = greeted book v.register sound in
      let at = advance c step in
      record {
        at = at;
        went = subst (λ (t : List ℕ). Went start octets at t old new) (sym o.rest) (record {
          leads = leads_on start c at octets octets (drop n octets) (greets book v.register sound octets) (replies book v.register sound octets n e);
          between = framed greeting.output ++ framed step.output;
          outputs = octets_step c step ∙ ap (λ (x : List ℕ). x ++ framed step.output) (octets_step start greeting)
              ∙ append_assoc (octets_of start.outputs) (framed greeting.output) (framed step.output);
          took = record { contents = o.out.wrote.contents; taken = o.out.wrote.moved };
          stands = λ h. h;
          faults = refl;
          told = o.out.faults;
        });
        now = record {
          setting = o.setting;
          stands = o.stands;
          recalls = o.recalls at.register;
          register = sym (same_register book v.register sound octets n e);
          suits = (reply_proceeds book v.register sound octets n e).suits;
        };
      }
  opens_at Waits e o live =
      let c = greeted book v.register sound in
      record {
        at = c;
        went = subst (λ (t : List ℕ). Went start octets c t old new) (sym o.rest) (record {
          leads = greets book v.register sound octets;
          between = framed greeting.output ++ [];
          outputs = octets_step start greeting ∙ ap (λ (x : List ℕ). octets_of start.outputs ++ x) (sym (append-nil (framed greeting.output)));
          took = record { contents = o.out.wrote.contents; taken = o.out.wrote.moved };
          stands = λ h. h;
          faults = refl;
          told = o.out.faults;
        });
        now = record {
          setting = o.setting;
          stands = o.stands;
          recalls = o.recalls c.register;
          register = refl;
          suits = suits_greeted book v.register sound;
        };
      }
  opens_at (Bad fault) e o live = absurd (false≢true (sym live))

  pub opened_heard : HasOpened contents book octets talk before now → is_over (phase_after (answer_at (of_caller book) octets (front LONGEST_FRAME octets))) ≡ false
      → HasHeard (of_caller book) octets talk old new
  opened_heard o live = record {
    sound = sound;
    stood = stood;
    come = opens_at (front LONGEST_FRAME octets) refl o live;
    limit = o.limit;
    told = o.told live;
  }

-- who is let in

ends_away : (e : Option Ending) → admission_by e ≡ LetIn → e ≡ None
ends_away None h = refl
ends_away (Some ending) h = absurd (let no : SentAway ending ≡ LetIn = h in let none : ⊥ = cc in none)

live_at : (answer : Option Step) → admission_at answer ≡ LetIn → is_over (phase_after answer) ≡ false
live_at None h = refl
live_at (Some step) h = ap (λ (e : Option Ending). is_some e) (ends_away (ending_of step.phase) h)

unexpected_away : (c : Command) → admission_by (ending_of (unexpected c).phase) ≡ LetIn → ⊥
unfolding unexpected
unexpected_away (command.Esid esid) h = cc
unexpected_away _ h = cc

refusal_away : (reason : Option SessionReason) → admission_by (ending_of (refusal reason).phase) ≡ LetIn → ⊥
refusal_away (Some reason) h = cc
refusal_away None h = cc

agreed_in : (book : BookData) (letter : Mode) (verdict : Result Agreement SessionReason) → admission_by (ending_of (opened_step (of_caller book) letter verdict).phase) ≡ LetIn
    → (a : Agreement) × (verdict ≡ Ok a)
agreed_in book letter (Ok a) h = (a, refl)
agreed_in book letter (Err reason) h = absurd (let no : ⊥ = cc in no)

accepted_by : (book : BookData) (c : Result Command WireFault) → admission_by (ending_of (answer_to (of_caller book) c).phase) ≡ LetIn
    → (ssid : Ssid) × (a : Agreement) × (c ≡ Ok (command.Ssid ssid)) × (ssid_verdict (of_caller book) ssid ≡ Ok a)
unfolding came_awaiting_ssid
accepted_by book (Ok (command.Ssid ssid)) h = let a = agreed_in book ssid.mode (ssid_verdict (of_caller book) ssid) h in (ssid, a.0, refl, a.1)
accepted_by book (Ok other) h = absurd (unexpected_away other h)
accepted_by book (Err fault) h = absurd (refusal_away (reason_of fault) h)

accepted_at : (book : BookData) (octets : List ℕ) (h : Head) → front LONGEST_FRAME octets ≡ h → admission_at (answer_at (of_caller book) octets h) ≡ LetIn → IsAccepted book octets
accepted_at book octets (Whole n) e is =
    let a = accepted_by book (command_of (command_in n octets)) is in
    record { count = n; whole = e; ssid = a.0; is = a.2; agreement = a.1; verdict = a.3 }
accepted_at book octets Waits e is = absurd (let no : ⊥ = cc in no)
accepted_at book octets (Bad fault) e is = absurd (let no : ⊥ = cc in no)

-- a caller is let in only where its first command is an SSID that the book accepts
pub let_in_accepted : (book : BookData) (octets : List ℕ) → admission_of book octets ≡ LetIn → IsAccepted book octets
let_in_accepted book octets is = accepted_at book octets (front LONGEST_FRAME octets) refl is

in_by : (book : BookData) (ssid : Ssid) (verdict : Result Agreement SessionReason) (a : Agreement) → verdict ≡ Ok a
    → admission_by (ending_of (opened_step (of_caller book) ssid.mode verdict).phase) ≡ LetIn
in_by book ssid verdict a is = subst (λ (x : Result Agreement SessionReason). admission_by (ending_of (opened_step (of_caller book) ssid.mode x).phase) ≡ LetIn) (sym is) refl

-- and wherever it is
pub accepted_let_in : (book : BookData) (octets : List ℕ) → IsAccepted book octets → admission_of book octets ≡ LetIn
unfolding came_awaiting_ssid
accepted_let_in book octets a =
    ap (λ (h : Head). admission_at (answer_at (of_caller book) octets h)) a.whole
    ∙ ap (λ (c : Result Command WireFault). admission_by (ending_of (answer_to (of_caller book) c).phase)) a.is
    ∙ in_by book a.ssid (ssid_verdict (of_caller book) a.ssid) a.agreement a.verdict

-- who waits, and who is let in, has a session that isn't over
pub let_in_live : (book : BookData) (octets : List ℕ) → admission_of book octets ≡ LetIn → is_over (phase_after (answer_at (of_caller book) octets (front LONGEST_FRAME octets))) ≡ false
let_in_live book octets is = live_at (answer_at (of_caller book) octets (front LONGEST_FRAME octets)) is

-- a session in a phase isn't broken
pub stands_unbroken : (p : Phase) (s : Standing) → StandsIn p s → s ≢ Broken
stands_unbroken ResponderOpening s h broken = let no : ⊥ = cc in no
stands_unbroken InitiatorOpening s h broken = let no : ⊥ = cc in no
stands_unbroken AwaitingSsid s h broken = let no : ⊥ = cc in no
stands_unbroken (ListenerIdle contact) s h broken = let no : ⊥ = cc in no
stands_unbroken (Receiving contact f) s h broken = let is = h.1 in let no : ⊥ = cc in no
stands_unbroken (SpeakerIdle contact done) s h broken = let no : ⊥ = cc in no
stands_unbroken (GivingWay contact) s h broken = let no : ⊥ = cc in no
stands_unbroken (AwaitingRtr contact number) s h broken = let no : ⊥ = cc in no
stands_unbroken (AwaitingStart contact offer) s h broken = let no : ⊥ = cc in no
stands_unbroken (Sending contact t) s h broken = let is = h.1 in let no : ⊥ = cc in no
stands_unbroken (AwaitingEnd contact t) s h broken = let no : ⊥ = cc in no
stands_unbroken (EndedHere reason) s h broken = let no : ⊥ = cc in no
stands_unbroken (EndedThere reason) s h broken = let no : ⊥ = cc in no

-- More octets arrive.

ends_decided : (e : Option Ending) → admission_by e ≡ Undecided → ⊥
ends_decided None h = cc
ends_decided (Some ending) h = cc

waits_at : (book : BookData) (octets : List ℕ) (h : Head) → front LONGEST_FRAME octets ≡ h → admission_at (answer_at (of_caller book) octets h) ≡ Undecided → front LONGEST_FRAME octets ≡ Waits
waits_at book octets (Whole n) e is = absurd (ends_decided (ending_of (answer_to (of_caller book) (command_of (command_in n octets))).phase) is)
waits_at book octets Waits e is = e
waits_at book octets (Bad fault) e is = absurd (let no : ⊥ = cc in no)

-- a caller that is undecided has sent no whole command
module _ {W : Type 0} (contents : W → Option (List ℕ)) (book : BookData) (octets : List ℕ) (talk : Dialogue) (before now : Port W) (j : IsJudged contents book octets talk before now Undecided) where
  pub undecided_opened : OpenedAt contents book octets Waits talk before now
  undecided_opened = subst (λ (h : Head). OpenedAt contents book octets h talk before now) (waits_at book octets (front LONGEST_FRAME octets) refl (sym j.verdict)) j.opened

  pub undecided_stands : Stands AwaitingSsid talk.seen
  undecided_stands = undecided_opened.stands

module _ {W : Type 0} (contents : W → Option (List ℕ)) (book : BookData) (octets more : List ℕ) (talk new : Dialogue) (before now : Port W) (heard : HeardMore talk new more) where
  -- of a caller that is undecided
  pub greeted_more : IsJudged contents book octets talk before now Undecided → IsGreeted contents book (octets ++ more) new before now
  greeted_more j =
      let o = undecided_opened contents book octets talk before now j in
      record {
        setting = ap (λ (s : Seen). s.setting) heard.seen ∙ o.setting;
        stands = subst (Stands AwaitingSsid) (sym heard.seen) o.stands;
        recalls = λ r. subst (λ (s : Seen). Recalls s r) (sym heard.seen) (o.recalls r);
        rest = heard.rest ∙ ap (λ (x : List ℕ). x ++ more) o.rest;
        limit = heard.limit ∙ o.limit;
        told = heard.told ∙ o.told refl;
        out = subst (SentAll contents before now) (append-nil (framed greeting.output)) o.out;
      }

  -- of one that was let in
  in_more : (n : ℕ) → front LONGEST_FRAME octets ≡ Whole n → admission_at (answer_at (of_caller book) octets (Whole n)) ≡ LetIn → OpenedAt contents book octets (Whole n) talk before now
      → IsJudged contents book (octets ++ more) new before now LetIn
  in_more n whole is o =
      let within : IsWithin (length octets) (Whole n) = subst (IsWithin (length octets)) whole (front_within LONGEST_FRAME octets) in
      let on : front LONGEST_FRAME (octets ++ more) ≡ Whole n = front_more LONGEST_FRAME octets more (subst IsTold (sym whole) tt) ∙ whole in
      let same : answer_at (of_caller book) (octets ++ more) (Whole n) ≡ answer_at (of_caller book) octets (Whole n) =
      ap (λ (x : List ℕ). let step : Option Step = Some (answer_to (of_caller book) (command_of x)) in step) (command_more n octets more within.0 within.1) in
      let rest : drop n (octets ++ more) ≡ drop n octets ++ more = drop-append-le n octets more within.1 in
      record {
        verdict = sym (ap (λ (h : Head). admission_at (answer_at (of_caller book) (octets ++ more) h)) on ∙ ap admission_at same ∙ is);
        opened = subst (λ (h : Head). OpenedAt contents book (octets ++ more) h new before now) (sym on) (record {
          setting = ap (λ (s : Seen). s.setting) heard.seen ∙ o.setting;
          stands = subst (Stands (phase_after (answer_at (of_caller book) (octets ++ more) (Whole n)))) (sym heard.seen)
              (subst (λ (a : Option Step). Stands (phase_after a) talk.seen) (sym same) o.stands);
          recalls = λ r. subst (λ (s : Seen). Recalls s r) (sym heard.seen) (o.recalls r);
          rest = heard.rest ∙ ap (λ (x : List ℕ). x ++ more) o.rest ∙ sym rest;
          limit = heard.limit ∙ o.limit;
          told = λ live. heard.told ∙ o.told (sym (ap (λ (a : Option Step). is_over (phase_after a)) same) ∙ live);
          out = subst (λ (a : Option Step). SentAll contents before now (framed greeting.output ++ said_after a)) (sym same) o.out;
        });
      }

  in_at : (h : Head) → front LONGEST_FRAME octets ≡ h → admission_at (answer_at (of_caller book) octets h) ≡ LetIn → OpenedAt contents book octets h talk before now
      → IsJudged contents book (octets ++ more) new before now LetIn
  in_at (Whole n) e is o = in_more n e is o
  in_at Waits e is o = absurd (let no : ⊥ = cc in no)
  in_at (Bad fault) e is o = absurd (let no : ⊥ = cc in no)

  pub let_in_more : IsJudged contents book octets talk before now LetIn → IsJudged contents book (octets ++ more) new before now LetIn
  let_in_more j = in_at (front LONGEST_FRAME octets) refl (sym j.verdict) j.opened
