-- Over a run, and over jobs in order, a file that comes in parts is what its parts carry.
use Rattle.std.proofs.Common.{◌≡◌, ℕ, zero, suc, ◌+◌, ◌≤◌, ◌&&◌, ◌||◌, not, Bool, true, false, cond, List, [], ◌∷◌, length, take, Option, None, Some, Result, Ok, Err, refl, ap, sym, ◌∙◌, subst, inl, inr, arith}
use Rattle.std.specs.Prelude.{codes, is_some, nat_le}
use Rattle.oftp_codec.specs.Kinds.{command_of}
use Rattle.oftp_wire.specs.Reasons.{reason_of}
use Rattle.oftp_wire.specs.declared.command.Command.{Command}
use Rattle.oftp_wire.specs.declared.fault.WireFault.{WireFault}
use Rattle.oftp_codec.specs.declared.frame_fault.FrameFault.{FrameFault}
use Rattle.oftp_wire.specs.declared.reason.SessionReason.{SessionReason}
use Rattle.oftp_wire.specs.declared.reason.SessionReason.TheVariants.{CommandNotRecognised, ProtocolViolation}
use Rattle.oftp_partners.specs.Book.{BookData, partner_at}
use Rattle.oftp_partners.specs.declared.partner.Partner.{Partner}
use Rattle.oftp_vfile.specs.declared.format.Format.{Format}
use Rattle.oftp_register.specs.declared.change.Cause.{Cause}
use Rattle.oftp_register.specs.declared.change.Change.{Change}
use Rattle.oftp_register.specs.declared.change.Change.TheVariants as change
use Rattle.oftp_register.specs.declared.entry.Identity.{Identity}
use Rattle.oftp_register.specs.declared.entry.IncomingState.TheVariants.{Open}
use Rattle.oftp_register.specs.declared.entry.ResponseKind.{ResponseKind}
use Rattle.oftp_register.specs.declared.entry.ResponseKind.TheVariants.{EndResponse, NegativeEndResponse}
use Rattle.oftp_register.specs.Register.{Register, Incoming}
use Rattle.oftp_register.specs.ByIdentity.{WasStarted, in_at}
use Rattle.oftp_register.specs.Changes.{apply, apply_all, is_outgoing, new_incoming, started_in}
use Rattle.oftp_register.specs.Soundness.{IsFile, IsFit, IsResponse, IsSound}
use Rattle.oftp_register.proofs.ByIdentityLemmas.{started_view}
use Rattle.oftp_register.proofs.KeepLemmas.{apply_keeps}
use Rattle.oftp_register.proofs.NumberLemmas.{mapped_ok}
use Rattle.oftp_session.specs.Settings.{Setting}
use Rattle.oftp_session.specs.Phases.{Step, fails, is_over, register_after}
use Rattle.oftp_session.specs.Steps.{Suits, has_turn, opening, turned, turns_due}
use Rattle.oftp_session.specs.Calls.{Allows, Makes, Proceeds}
use Rattle.oftp_session.proofs.Proceeding.{turned_proceeds}
use Rattle.oftp_engine.specs.declared.operating.Operator.{Operator}
use Rattle.oftp_engine.specs.declared.operating.Operator.TheVariants as operator
use Rattle.oftp_engine.specs.declared.operating.Refusal.TheVariants.{Duplicate, Field, Limit, Unknown}
use Rattle.oftp_engine.specs.Frames.{with_fault, over_commands}
use Rattle.oftp_engine.specs.declared.submitting.Submission.{Submission}
use Rattle.oftp_engine.specs.Operating.{Deed, IsDeed, IsFileOf, decided, identity_of, is_too_big, makes, refuses, registered, submitted}
use Rattle.oftp_engine.proofs.Offers.{is_file}
use Rattle.oftp_engine.specs.Parts.{AreParts, BringsParts, File, IsLeft, IsOpenWith, IsPart, IsSoFar, JobData, JobsMakeTheFile, LeaveAll, JobLeaves, MayDo, NoCountPasses, OfCall, PartsMakeTheFile, OfSession, SessionData, course_of, rows_here}
use Rattle.oftp_engine.specs.Runs.{Course, advance, came_in, is_stopped, refusal, settled, started, step_on, turned_in, turns}
use Rattle.oftp_engine.specs.Progress.{Sound}
use Rattle.oftp_engine.proofs.Courses.{grows_step, sound_start}
use Rattle.oftp_engine.proofs.Folding.{folds_all}
use Rattle.oftp_engine.proofs.PartChanges.{part_change}
use Rattle.oftp_engine.proofs.PartSteps.{IsPartPhase, IsPartStep, StepGrounds, came_part, turned_part}
use Rattle.oftp_engine.proofs.Phases.{fails_proceed, step_proceeds}
use Rattle.oftp_engine.proofs.Prefixes.{AfterEach, after_all, after_more}

-- a register in which the file is in an allowed state
pub record IsSoIn (file : File) (identity : Identity) (r : Register) : Type 0 where
  pub sound : IsSound r
  pub so_far : IsSoFar file (in_at r identity)

-- a course from a register: the file is in an allowed state after each prefix of the changes
pub record IsPartCourse (file : File) (identity : Identity) (start : Register) (c : Course) : Type 0 where
  pub sound : Sound start c
  pub phase : IsPartPhase file identity c.phase
  pub before : AfterEach (IsSoIn file identity) start c.changes

module _ (file : File) (identity : Identity) (start : Register) where
  -- the register now
  part_now : (c : Course) → IsPartCourse file identity start c → IsSoIn file identity c.register
  part_now c h = after_all (IsSoIn file identity) start c.changes c.register h.sound.replay h.before

  -- a step
  part_made : (r : Register) (change : Option Change) → IsSoIn file identity r → Allows r change → StepGrounds file identity r change → IsSound (register_after r change)
      → IsSoIn file identity (register_after r change)
  part_made r None so allowed grounds sound = so
  part_made r (Some change) so allowed grounds sound =
      record { sound = sound; so_far = part_change file identity r (register_after r (Some change)) so.so_far change so.sound grounds allowed }

  part_step : (c : Course) (step : Step) → (Suits c.phase c.register → Proceeds c.register step)
      → (Suits c.phase c.register → IsSoFar file (in_at c.register identity) → IsPartPhase file identity c.phase → IsPartStep file identity c.register step)
      → IsPartCourse file identity start c → IsPartCourse file identity start (advance c step)
  unfolding advance
  part_step c step proceeds parts h =
      let suits = h.sound.suits in
      let p = proceeds suits in
      let was = part_now c h in
      let part = parts suits was.so_far h.phase in
      let sound = (grows_step c step proceeds).sound start h.sound in
      let now = part_made c.register step.change was p.allowed part.grounds p.suits.sound in
      record {
        sound = sound;
        phase = part.phase;
        before = after_more (IsSoIn file identity) start c.changes step.change (register_after c.register step.change) sound.replay now h.before;
      }

  -- the turns that are due
  part_turns : (n : ℕ) (limit : Option ℕ) (c : Course) → IsPartCourse file identity start c → IsPartCourse file identity start (turns n limit c)
  unfolding turns
  part_turns zero limit c h = h
  part_turns (suc n) limit c h =
      let step = part_step c (turned c.setting c.phase c.register) (turned_proceeds c.setting c.phase c.register)
      (λ suits so was. turned_part file identity c.register c.setting c.phase was) h in
      either (has_turn c.phase && not (is_stopped limit c)) (turns n limit (turned_in c)) c (part_turns n limit (turned_in c) step) h
    where
      either : (b : Bool) (x y : Course) → IsPartCourse file identity start x → IsPartCourse file identity start y → IsPartCourse file identity start (cond b x y)
      either true x y h k = h
      either false x y h k = k

  part_settled : (limit : Option ℕ) (c : Course) → IsPartCourse file identity start c → IsPartCourse file identity start (settled limit c)
  unfolding settled
  part_settled limit c h = part_turns (turns_due c.phase) limit c h

  -- a command that arrives
  fails_so : (r : Register) (reason : SessionReason) → IsPartStep file identity r (fails reason)
  fails_so r reason = record { grounds = tt; phase = tt }

  refusal_so : (r : Register) (reason : Option SessionReason) → IsPartStep file identity r (refusal reason)
  refusal_so r None = fails_so r CommandNotRecognised
  refusal_so r (Some reason) = fails_so r reason

  part_came : (c : Course) (m : List ℕ) → IsPart file identity c.phase (command_of m) → IsPartCourse file identity start c → IsPartCourse file identity start (came_in c m)
  part_came c m part h =
      part_step c (step_on c.setting c.phase c.register (command_of m)) (step_proceeds c.setting c.phase c.register (command_of m)) (λ suits so was. by suits so was (command_of m) part) h
    where
      by : Suits c.phase c.register → IsSoFar file (in_at c.register identity) → IsPartPhase file identity c.phase → (found : Result Command WireFault) → IsPart file identity c.phase found
          → IsPartStep file identity c.register (step_on c.setting c.phase c.register found)
      by suits so was (Ok command) part = came_part file identity c.register c.setting c.phase command suits so was part
      by suits so was (Err fault) part = refusal_so c.register (reason_of fault)

  part_rest : (c : Course) (fault : Option FrameFault) → IsPartCourse file identity start c → IsPartCourse file identity start (with_fault c fault)
  part_rest c None h = h
  part_rest c (Some fault) h =
      part_step c (fails ProtocolViolation) (fails_proceed c.phase c.register ProtocolViolation) (λ suits so was. fails_so c.register ProtocolViolation) h

  part_over : (limit : Option ℕ) (commands : List (List ℕ)) (fault : Option FrameFault) (c : Course) → AreParts file identity limit commands c
      → IsPartCourse file identity start c → IsPartCourse file identity start (over_commands limit commands fault c)
  part_over limit [] fault c parts h = by (is_over d.phase || is_stopped limit d)
    where
      d : Course
      d = settled limit c

      by : (b : Bool) → IsPartCourse file identity start (cond b d (with_fault d fault))
      by true = part_settled limit c h
      by false = part_rest d fault (part_settled limit c h)
  part_over limit (m ∷ ms) fault c parts h =
      by (λ p k. part_over limit ms fault (came_in (settled limit c) m) p k) (is_over (settled limit c).phase || is_stopped limit (settled limit c)) refl
    where
      d : Course
      d = settled limit c

      by : (AreParts file identity limit ms (came_in d m) → IsPartCourse file identity start (came_in d m) → IsPartCourse file identity start (over_commands limit ms fault (came_in d m)))
          → (b : Bool) → (is_over d.phase || is_stopped limit d) ≡ b → IsPartCourse file identity start (cond b d (over_commands limit ms fault (came_in d m)))
      by later true e = part_settled limit c h
      by later false e = let p = parts e in later p.1 (part_came d m p.0 (part_settled limit c h))

-- a session before its first step
first_course : (file : File) (identity : Identity) (setting : Setting) (r : Register) → IsSoIn file identity r → IsPartCourse file identity r (started setting r)
first_course file identity setting r so = record {
  sound = sound_start setting r so.sound;
  phase = first_phase setting.called;
  before = none;
}
  where
    first_phase : (called : Option Partner) → IsPartPhase file identity (opening called)
    first_phase None = tt
    first_phase (Some partner) = tt

    none : (n : ℕ) (s : Register) → n ≤ 0 → apply_all r (take n []) ≡ Ok s → IsSoIn file identity s
    none zero s within made = let same : r ≡ s = (let both : (let x : Result Register Cause = Ok r in x) ≡ Ok s = made in cc) in subst (IsSoIn file identity) same so
    none (suc n) s within made = absurd (omega (arith, within))

-- what a session leaves
session_leaves : (file : File) (identity : Identity) (session : SessionData) (r s : Register) → IsSoIn file identity r → BringsParts file identity session r → IsLeft (course_of session r) r s
    → IsSoIn file identity s
session_leaves file identity session r s so brings left =
    let first = started session.setting r in
    let same = folds_all session.limit session.stream brings.commands brings.fault first brings.octets brings.reads in
    let over = part_over file identity r session.limit brings.commands brings.fault first brings.parts (first_course file identity session.setting r so) in
    let all = subst (IsPartCourse file identity r) (sym same) over in
    all.before left.count s left.most left.replay

pub parts_make_the_file : PartsMakeTheFile
parts_make_the_file file identity session r s sound so_far brings left =
    (session_leaves file identity session r s (record { sound = sound; so_far = so_far }) brings left).so_far

-- an operator's call

issue_so : (file : File) (identity : Identity) (r s : Register) (n : ℕ) (kind : ResponseKind) (reason : ℕ) (text : List ℕ) → IsResponse kind reason [] text → IsSoIn file identity r
    → apply r (change.Issue n kind reason text) ≡ Ok s → IsSoIn file identity s
unfolding IsFit
issue_so file identity r s n kind reason text response so made =
    let issue = change.Issue n kind reason text in
    record { sound = apply_keeps r issue s so.sound response made; so_far = part_change file identity r s so.so_far issue so.sound tt made }

-- what is left after a call that is decided by a change
decided_so : (file : File) (identity : Identity) (r s : Register) (verb : List ℕ) (n : ℕ) (change : Change) (result : Result Register Cause) → IsSoIn file identity r
    → (apply r change ≡ Ok s → IsSoIn file identity s) → Makes (decided verb n change result).change r s → IsSoIn file identity s
decided_so file identity r s verb n change (Ok after) so step made = step made
decided_so file identity r s verb n change (Err cause) so step made = subst (IsSoIn file identity) (sym made) so

-- a submitted file is outgoing, and no incoming file changes
submit_so : (file : File) (identity : Identity) (r s : Register) (name : Identity) (format : Format) (longest : ℕ) (description : List ℕ) (rows : List (List ℕ))
    → IsFile format longest rows → IsSoIn file identity r → apply r (change.Submit name format longest description rows) ≡ Ok s → IsSoIn file identity s
unfolding IsFit
submit_so file identity r s name format longest description rows fits so made =
    let submit = change.Submit name format longest description rows in
    record { sound = apply_keeps r submit s so.sound fits made; so_far = part_change file identity r s so.so_far submit so.sound tt made }

submit_leaves : (file : File) (identity : Identity) (book : BookData) (handed : Submission) (rows : List (List ℕ)) (r s : Register) → IsSoIn file identity r
    → IsFileOf handed rows → Makes (submitted book r handed rows).change r s → IsSoIn file identity s
submit_leaves file identity book handed rows r s so is made =
    by (is_some (partner_at handed.to.now book.partners)) (is_outgoing r (identity_of book handed)) (is_too_big r.limits rows) refl made
  where
    submit : Change
    submit = change.Submit (identity_of book handed) handed.format handed.longest handed.description.now rows

    by : (known there big : Bool) → is_too_big r.limits rows ≡ big
        → (let d : Deed = cond known (cond there (refuses Duplicate) (cond big (refuses Limit) (registered (identity_of book handed) handed rows r))) (refuses Unknown) in
        Makes d.change r s)
        → IsSoIn file identity s
    by false there big e made = subst (IsSoIn file identity) (sym made) so
    by true true big e made = subst (IsSoIn file identity) (sym made) so
    by true false true e made = subst (IsSoIn file identity) (sym made) so
    by true false false e made =
        let fits = is_file handed rows r.limits is e in
        let goes = submit_so file identity r s (identity_of book handed) handed.format handed.longest handed.description.now rows fits so in
        decided_so file identity r s (codes "done: submit ") (1 + length r.outgoing) submit (apply r submit) so goes made

call_leaves : (file : File) (identity : Identity) (book : BookData) (call : Operator) (deed : Deed) (r s : Register) → IsSoIn file identity r → IsDeed book r call deed
    → Makes deed.change r s → IsSoIn file identity s
call_leaves file identity book (operator.Submit handed) deed r s so (inl (rows, is, same)) made =
    submit_leaves file identity book handed rows r s so is (subst (λ (d : Deed). Makes d.change r s) same made)
call_leaves file identity book (operator.Submit handed) deed r s so (inr (none, same)) made =
    let unchanged : s ≡ r = subst (λ (d : Deed). Makes d.change r s) same made in
    subst (IsSoIn file identity) (sym unchanged) so
call_leaves file identity book (operator.Release n) deed r s so is made =
    let issue = change.Issue n EndResponse 0 [] in
    decided_so file identity r s (codes "done: release ") n issue (apply r issue) so (issue_so file identity r s n EndResponse 0 [] (refl, refl, refl) so)
    (subst (λ (d : Deed). Makes d.change r s) is made)
call_leaves file identity book (operator.Refuse n reason text) deed r s so is made =
    by (nat_le reason 99 && nat_le (length text.now) 999) (subst (λ (d : Deed). Makes d.change r s) is made)
  where
    verb : List ℕ
    verb = codes "done: refuse "

    issue : Change
    issue = change.Issue n NegativeEndResponse reason text.now

    by : (b : Bool) → (let d : Deed = cond b (makes verb n issue r) (refuses Field) in Makes d.change r s) → IsSoIn file identity s
    by true made = decided_so file identity r s verb n issue (apply r issue) so (issue_so file identity r s n NegativeEndResponse reason text.now tt so) made
    by false made = subst (IsSoIn file identity) (sym made) so

-- jobs in order

pub job_leaves : (file : File) (identity : Identity) (job : JobData) (r s : Register) → IsSoIn file identity r → MayDo file identity job r → JobLeaves job r s → IsSoIn file identity s
job_leaves file identity (OfSession session) r s so may left = session_leaves file identity session r s so may left
job_leaves file identity (OfCall book call) r s so may (inl same) = subst (IsSoIn file identity) (sym same) so
job_leaves file identity (OfCall book call) r s so may (inr deed) = call_leaves file identity book call deed.0 r s so deed.1 deed.2

all_leave : (file : File) (identity : Identity) (jobs : List JobData) (r s : Register) → IsSoIn file identity r → LeaveAll file identity jobs r s → IsSoIn file identity s
all_leave file identity [] r s so same = subst (IsSoIn file identity) (sym same) so
all_leave file identity (job ∷ jobs) r s so (next, may, left, later) = all_leave file identity jobs next s (job_leaves file identity job r next so may left) later

pub jobs_make_the_file : JobsMakeTheFile
jobs_make_the_file file identity jobs r s sound so_far leave = (all_leave file identity jobs r s (record { sound = sound; so_far = so_far }) leave).so_far

-- starts

counted : (header : Incoming) (count : ℕ) (old : Option Incoming) (new : Incoming) → header.rows ≡ [] → header.state ≡ Open → WasStarted header count old new
    → (count ≤ length (rows_here old)) × IsOpenWith (take count (rows_here old)) (Some new)
counted header count None new none o was =
    (omega (arith, was.1), (ap (λ (f : Incoming). f.state) was.0 ∙ o, ap (λ (f : Incoming). f.rows) was.0 ∙ none ∙ ap (λ n. take n []) (sym was.1)))
counted header count (Some old) new none o was = (was.1, (ap (λ (f : Incoming). f.state) was.2 ∙ o, ap (λ (f : Incoming). f.rows) was.2))

pub no_count_passes : NoCountPasses
unfolding apply
no_count_passes r s identity format longest description count h =
    let header = new_incoming identity format longest description in
    let rows = rows_here (in_at r identity) in
    let part = mapped_ok (λ files. record r { incoming = files }) (started_in r header count r.incoming) s h in
    let v = started_view r header count r.incoming part.0 part.1 in
    let c = counted header count (in_at r identity) v.new refl refl v.was in
    let now = subst (IsOpenWith (take count rows)) (sym v.now) c.1 in
    (c.0, subst (λ (z : Register). IsOpenWith (take count rows) (in_at z identity)) part.2 now)
