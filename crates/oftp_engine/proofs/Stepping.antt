-- From a session's call and a write to a step.
use Rattle.std.proofs.Common.{◌≡◌, ℕ, ◌<◌, Bool, false, true, List, [], length, take, Option, None, Some, Result, Ok, Err, refl, sym, ap, ◌∙◌, subst, arith, inl, inr, ◌⊎◌, is_ok}
use Rattle.std.specs.Result.{IfErr, OnOk}
use Rattle.std.proofs.lemmas.List.{take_all}
use Rattle.oftp_wire.specs.declared.reason.SessionReason.{SessionReason}
use Rattle.oftp_register.specs.declared.change.Cause.{Cause}
use Rattle.oftp_session.specs.Phases.{frame_of}
use Rattle.oftp_session.specs.Phases.{esid_of}
use Rattle.oftp_register.specs.declared.change.Change.{Change}
use Rattle.oftp_register.specs.Register.{Register}
use Rattle.std.specs.Result.{result_unwrap_or}
use Rattle.oftp_register.specs.Offices.{View, Only, WithOrWithout}
use Rattle.oftp_session.specs.declared.session.Out.{Out}
use Rattle.oftp_session.specs.declared.session.SessionFault.{SessionFault}
use Rattle.oftp_session.specs.declared.session.SessionFault.TheVariants as session
use Rattle.oftp_session.specs.Phases.{EndedHere, Phase, Sending, Step, Transfer, fails, register_after}
use Rattle.oftp_session.specs.declared.state.Contact.{Contact}
use Rattle.oftp_session.specs.Standings.{At, Awaits, Broken, Offers, Receives, Sends, Standing, StandsIn, is_sending}
use Rattle.oftp_session.proofs.Recalling.{ended_recalls}
use Rattle.oftp_session.proofs.Standings.{phase_sent}
use Rattle.oftp_session.specs.Steps.{Suits}
use Rattle.oftp_session.specs.Settings.{Setting}
use Rattle.oftp_session.specs.Recalling.{Recalls}
use Rattle.oftp_session.specs.Calls.{Makes, IsMade, IsBefore, IsAfter, IsBroken, IsUndone, Does, DoesNot, Seen, Stands, said as said_of}
use Rattle.oftp_io.proofs.Bytes.{appends_none}
use Rattle.oftp_io.specs.declared.port.Port.{Port}
use Rattle.oftp_engine.specs.declared.serving.RunFault.{RunFault}
use Rattle.oftp_engine.specs.declared.serving.RunFault.TheVariants as fault
use Rattle.oftp_io.specs.Ports.{Sent}
use Rattle.oftp_engine.specs.Runs.{Course, advance}
use Rattle.oftp_engine.specs.Serving.{last_frame, Scene, scene, Took}
use Rattle.oftp_engine.specs.Progress.{IsAt}
use Rattle.oftp_engine.specs.Conversation.{IsOwn}
use Rattle.oftp_engine.specs.InsideServing.{BrokeOff, LastWords, run_fault, NotMade, NoMemory, Stepped, StepFails, StaysBefore, StaysAfter}

pub last_from : {W : Type 0} (contents : W → Option (List ℕ)) (a d : Port W) (said : List ℕ) (all : Bool) → said ≡ last_frame → Sent contents a d said all → LastWords contents a d
last_from contents a d said all e s = (all, subst (λ (x : List ℕ). Sent contents a d x all) e s)

ok_of : Result (List ℕ) SessionFault → List ℕ
ok_of (Ok x) = x
ok_of (Err fault) = []

pub ok_same : (x y : List ℕ) → (let r : Result (List ℕ) SessionFault = Ok x in r) ≡ Ok y → x ≡ y
unfolding ok_of
ok_same x y e = ap ok_of e

-- the register and what a crash leaves, after a step that was made
pub made_register : (change : Option Change) (r new : Register) → Makes change r new → new ≡ register_after r change
made_register None r new h = h
made_register (Some k) r new h = sym (ap (λ (x : Result Register Cause). result_unwrap_or x r) h)

-- a call that made its step, and the write of its frame
pub stepped_ok : {T W : Type 0} (contents : W → Option (List ℕ)) (a d : Port W) (x y : View) (c : Course) (step : Step) (seen : Seen) (said : List ℕ) (result : Result T RunFault) →
    seen.setting ≡ c.setting → IsMade step.change step.output x y said → x.register ≡ c.register → Suits step.phase (register_after c.register step.change) →
    Stands step.phase seen → Recalls seen y.register → Sent contents a d said (is_ok result) → IfErr result (λ f. f ≡ fault.Write) →
    Stepped c step seen (scene contents x a) (scene contents y d) result
unfolding advance
stepped_ok contents a d x y c step seen said (Ok t) setting made same suits stands recalls sent err =
    let makes : Makes step.change c.register y.register = subst (λ (r : Register). Makes step.change r y.register) same made.register in
    let after : y.register ≡ register_after c.register step.change = made_register step.change c.register y.register makes in
    record {
      now = record { setting = setting; stands = stands; recalls = subst (Recalls seen) after recalls; register = after; suits = suits };
      took = subst (Took (scene contents x a) (scene contents y d)) made.said (record { contents = sent.wrote.contents; taken = sent.wrote.moved });
      stands = λ _. made.stands;
      faults = made.faults;
      told = sent.faults;
    }
stepped_ok contents a d x y c step seen said (Err f) setting made same suits stands recalls sent err =
    let makes : Makes step.change c.register y.register = subst (λ (r : Register). Makes step.change r y.register) same made.register in
    let old = scene contents x a in
    let new = scene contents y d in
    subst (StepFails c step old new) (sym err) (record {
      count = sent.count;
      short = subst (λ (z : List ℕ). sent.count < length z) made.said sent.short;
      took = subst (λ (z : List ℕ). Took old new (take sent.count z)) made.said (record { contents = sent.wrote.contents; taken = sent.wrote.moved });
      register = made_register step.change c.register y.register makes;
      stands = λ _. made.stands;
      faults = made.faults;
      told = sent.faults;
    })

-- an ESID of the engine, which doesn't use the office
module _ {T W : Type 0} (contents : W → Option (List ℕ)) (a d : Port W) (x : View) (before seen : Seen) (reason : SessionReason) (result : Result T RunFault)
    (setting : seen.setting ≡ before.setting)
    (over : OnOk result (Stands (EndedHere reason) seen)) (sent : Sent contents a d (frame_of (esid_of reason)) (is_ok result))
    (err : IfErr result (λ f. f ≡ fault.Write)) (c : Course) (at : IsAt c before (scene contents x a)) where
  refused : (told : Result T RunFault) → OnOk told (Stands (EndedHere reason) seen) → Sent contents a d (frame_of (esid_of reason)) (is_ok told)
      → IfErr told (λ f. f ≡ fault.Write) → Stepped c (fails reason) seen (scene contents x a) (scene contents x d) told
  unfolding advance
  refused (Ok t) stands out wrong = record {
    now = record {
      setting = setting ∙ at.setting;
      stands = stands;
      recalls = ended_recalls reason seen c.register stands;
      register = at.register;
      suits = record { sound = at.suits.sound; holds = tt };
    };
    took = record { contents = out.wrote.contents; taken = out.wrote.moved };
    stands = λ h. h;
    faults = refl;
    told = out.faults;
  }
  refused (Err f) stands out wrong = subst (StepFails c (fails reason) (scene contents x a) (scene contents x d)) (sym wrong) (record {
    count = out.count;
    short = out.short;
    took = record { contents = out.wrote.contents; taken = out.wrote.moved };
    register = at.register;
    stands = λ h. h;
    faults = refl;
    told = out.faults;
  })

  pub stepped_refuse : Stepped c (fails reason) seen (scene contents x a) (scene contents x d) result
  stepped_refuse = refused result over sent err

-- if a session is at a course, what holds at the session's own book and register holds at the course's
pub at_course : (P : Setting → Register → Type 0) (c : Course) (seen : Seen) (now : Scene) → IsAt c seen now → P seen.setting now.office.register → P c.setting c.register
at_course P c seen now at h = subst (λ (r : Register). P c.setting r) at.register (subst (λ (setting : Setting). P setting now.office.register) at.setting h)

-- a call that failed by an error of the office, and the last frame
broken_cases : (x y : View) (c : Course) (step : Step) → x.register ≡ c.register → IsBefore step.change x y ⊎ IsAfter step.change x y → StaysBefore c step y ⊎ StaysAfter c step y
unfolding advance
broken_cases x y c step same (inl h) = inl (record {
  same = λ s. h.register s ∙ same;
  left = subst (λ (r : Register). WithOrWithout step.change r y) same h.left;
})
broken_cases x y c step same (inr h) =
    let makes : Makes step.change c.register h.after = subst (λ (r : Register). Makes step.change r h.after) same h.made in
    let now : h.after ≡ register_after c.register step.change = made_register step.change c.register h.after makes in
    inr (record { same = λ s. h.register s ∙ now; left = subst (λ (r : Register). Only r y) now h.left })

pub stepped_office : {W : Type 0} (contents : W → Option (List ℕ)) (a d : Port W) (x y : View) (c : Course) (step : Step) →
    IsBroken step.change x y → x.register ≡ c.register → LastWords contents a d →
    NotMade c step (scene contents x a) (scene contents y d)
stepped_office contents a d x y c step broken same last = at last.0 last.1
  where
    whole : take (length last_frame) last_frame ≡ last_frame
    whole = take_all (length last_frame) last_frame (omega arith)

    at : (all : Bool) → Sent contents a d last_frame all → NotMade c step (scene contents x a) (scene contents y d)
    at true s = record {
      count = length last_frame;
      took = subst (Took (scene contents x a) (scene contents y d)) (sym whole) (record { contents = s.wrote.contents; taken = s.wrote.moved });
      said = inl (refl, s.faults);
      cases = broken_cases x y c step same broken.cases;
      faults = broken.faults;
    }
    at false s = record {
      count = s.count;
      took = record { contents = s.wrote.contents; taken = s.wrote.moved };
      said = inr (s.short, s.faults);
      cases = broken_cases x y c step same broken.cases;
      faults = broken.faults;
    }

-- a call that ran out of memory
pub stepped_memory : {W : Type 0} (contents : W → Option (List ℕ)) (a : Port W) (x y : View) (c : Course) → IsUndone x y → x.register ≡ c.register
    → NoMemory c (scene contents x a) (scene contents y a)
stepped_memory contents a x y c h same =
    let took : Took (scene contents x a) (scene contents y a) [] = record { contents = appends_none (contents a.inner); taken = omega arith } in
    record { took = took; register = h.register ∙ same; stands = λ _. h.stands; faults = h.faults; told = refl }

-- a call of a session that is at a course makes the course's next step, and the engine does the rest
module _ {W : Type 0} (contents : W → Option (List ℕ)) (a d : Port W) (x y : View) (c : Course) (seen : Seen) (step : Setting → Register → Step)
    (at : IsAt c seen (scene contents x a)) where
  here : (P : Step → Type 0) → P (step seen.setting x.register) → P (step c.setting c.register)
  here P h = at_course (λ (setting : Setting) (r : Register). P (step setting r)) c seen (scene contents x a) at h

  -- the step is made
  pub called_ok : {T : Type 0} (next : Seen) (out : Out) (result : Result T RunFault) →
      next.setting ≡ seen.setting → Does (step seen.setting x.register) x y (Ok (said_of out)) →
      Suits (step c.setting c.register).phase (register_after c.register (step c.setting c.register).change) →
      Stands (step seen.setting x.register).phase next → Recalls next y.register → Sent contents a d (said_of out) (is_ok result) → IfErr result (λ f. f ≡ fault.Write) →
      Stepped c (step c.setting c.register) next (scene contents x a) (scene contents y d) result
  called_ok next out result setting made suits stands recalls sent err =
      stepped_ok contents a d x y c (step c.setting c.register) next (said_of out) result (setting ∙ at.setting)
      (here (λ (s : Step). IsMade s.change s.output x y (said_of out)) made) at.register suits (here (λ (s : Step). Stands s.phase next) stands) recalls sent err

  -- it isn't made
  pub called_err : (f : SessionFault) → DoesNot (step seen.setting x.register).change x y f → BrokeOff contents a d f
      → StepFails c (step c.setting c.register) (scene contents x a) (scene contents y d) (run_fault f)
  called_err session.Ended h broke = absurd h
  called_err session.Office h broke = stepped_office contents a d x y c (step c.setting c.register) (here (λ (s : Step). IsBroken s.change x y) h) at.register broke
  called_err session.Memory h broke =
      subst (λ (p : Port W). NoMemory c (scene contents x a) (scene contents y p)) (sym broke) (stepped_memory contents a x y c h at.register)

-- a session that sends a file is in the phase of a file that is sent
pub sends_at : (p : Phase) (s : Standing) → StandsIn p s → is_sending s ≡ true → (contact : Contact) × (transfer : Transfer) × (p ≡ Sending contact transfer)
sends_at p (At q) h e = absurd (let no : ⊥ = cc in no)
sends_at p (Receives contact reception) h e = absurd (let no : ⊥ = cc in no)
sends_at p (Offers contact offering) h e = absurd (let no : ⊥ = cc in no)
sends_at p (Sends contact shipment) h e = let found = phase_sent p contact shipment h in (contact, found.0, sym found.1)
sends_at p (Awaits contact number) h e = absurd (let no : ⊥ = cc in no)
sends_at p Broken h e = absurd (let no : ⊥ = cc in no)

-- an error of the session isn't one of the reader
pub run_fault_own : (f : SessionFault) → IsOwn (run_fault f)
run_fault_own session.Ended = tt
run_fault_own session.Office = tt
run_fault_own session.Memory = tt
