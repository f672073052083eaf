-- What a list of jobs over a database leaves, from the contracts of the engine.
use Rattle.std.proofs.Common.{◌≡◌, ◌∙◌, sym, ap, subst, refl, arith, ℕ, ◌+◌, ◌-◌, ◌≤◌, List, [], ◌∷◌, ◌++◌, length, take, Option, None, Some, Result, Ok, Err, inl, inr, length-append}
use Rattle.std.proofs.lemmas.List.{take_all}
use Rattle.sqlite.specs.State.{State}
use Rattle.oftp_vfile.specs.declared.limits.Limits.{Limits}
use Rattle.oftp_partners.specs.Book.{BookData}
use Rattle.oftp_register.specs.declared.change.Change.{Change}
use Rattle.oftp_register.specs.declared.entry.Identity.{Identity}
use Rattle.oftp_register.specs.Changes.{apply_all}
use Rattle.oftp_register.specs.Offices.{View}
use Rattle.oftp_register.specs.Register.{Register}
use Rattle.oftp_register.specs.Soundness.{IsSound}
use Rattle.oftp_register.proofs.KeepLemmas.{apply_keeps}
use Rattle.oftp_session.specs.Calls.{Makes}
use Rattle.oftp_tables.specs.Stands.{IsContentOf}
use Rattle.oftp_session.specs.Phases.{register_after}
use Rattle.oftp_tables.specs.Tables.{register_in}
use Rattle.oftp_store.specs.Views.{view_of}
use Rattle.oftp_engine.specs.declared.running.Job.{Job}
use Rattle.oftp_engine.specs.declared.running.Job.TheVariants as job
use Rattle.oftp_engine.specs.declared.serving.RunFault.{RunFault}
use Rattle.oftp_engine.specs.declared.serving.RunFault.TheVariants as fault
use Rattle.oftp_engine.specs.Jobs.{CallEntry, Entry, JobStops, JobsDone, Runs, SessionEntry, Stop, after_jobs, changes_of, share_of}
use Rattle.oftp_engine.specs.Parts.{BringsParts, File, IsLeft, JobLeaves, OfCall, OfSession, course_of}
use Rattle.oftp_engine.specs.Runs.{run, started}
use Rattle.oftp_engine.specs.declared.serving.Role.{Role}
use Rattle.oftp_engine.specs.Served.{IsPrefix, setting_of}
use Rattle.oftp_engine.specs.TwoStations.{IfAny}
use Rattle.oftp_engine.proofs.Ending.{replay_all, run_sound, take_past}
use Rattle.oftp_engine.proofs.Orders.{IsOrder, deed_ordered}
use Rattle.oftp_engine.proofs.Jobs.{replay_on, replay_one}
use Rattle.oftp_engine.proofs.PartRuns.{IsSoIn, job_leaves}
use Rattle.oftp_durable.specs.Headline.{ButForOffice, LeavesAlone}
use Rattle.oftp_durable.specs.Lists.{AllAreKept, BringAll, BringsLast, LastIsKept, ListLeaves, beginning}
use Rattle.oftp_life.specs.LifeParts.{session_over}
use Rattle.oftp_life.proofs.LifeParts.{none_or_one}
use Rattle.oftp_durable.proofs.Counts.{no_answer_passes}
use Rattle.oftp_durable.proofs.Leaving.{prefix_all, prefix_of}

-- of what an office shows before a list, only the register and the count of errors matter
runs_from : {R W T : Type 0} (remaining : R → Option (List ℕ)) (contents : W → Option (List ℕ)) (book : BookData) (old new : View) (olds news : List (Job R W))
    (result : Result T RunFault) → Runs remaining contents book old new olds news result → Runs remaining contents book (beginning old.register old.told) new olds news result
runs_from remaining contents book old new olds news (Ok x) h = h
runs_from remaining contents book old new olds news (Err f) h = h

-- an operator's call leaves a sound register
call_sound : (change : Option Change) (r s : Register) → IsSound r → IfAny change IsOrder → Makes change r s → IsSound s
call_sound None r s sound any made = subst IsSound (sym made) sound
call_sound (Some k) r s sound order made = apply_keeps r k s sound (order.fit r) made

-- what the sessions of jobs answered was kept, and the jobs leave a sound register
record AreKeptTo (r : Register) (es : List Entry) : Type 0 where
  kept : AllAreKept r es
  sound : IsSound (after_jobs r es)

module _ {R W : Type 0} (remaining : R → Option (List ℕ)) (contents : W → Option (List ℕ)) (book : BookData) where
  jobs_kept : (r : Register) (es : List Entry) (olds news : List (Job R W)) → JobsDone remaining contents book r es olds news → IsSound r → AreKeptTo r es
  jobs_kept r [] olds news done sound = record { kept = tt; sound = sound }
  jobs_kept r (e ∷ es) [] news done sound = absurd done
  jobs_kept r (e ∷ es) (old ∷ olds) [] done sound = absurd done
  jobs_kept r (SessionEntry setting given stop ∷ es) (old ∷ olds) (new ∷ news) (d, done) sound =
      let so = run_sound stop setting given r sound in
      let later = jobs_kept (run stop given (started setting r)).register es olds news done so.suits.sound in
      record { kept = (no_answer_passes (session_over setting given stop) r sound, later.kept); sound = later.sound }
  jobs_kept r (CallEntry deed stop ∷ es) (job.Session old ∷ olds) (new ∷ news) (d, done) sound = absurd d
  jobs_kept r (CallEntry deed stop ∷ es) (job.Call old ∷ olds) (job.Session new ∷ news) (d, done) sound = absurd d
  jobs_kept r (CallEntry deed stop ∷ es) (job.Call old ∷ olds) (job.Call new ∷ news) (d, done) sound =
      let after = register_after r deed.change in
      let later = jobs_kept after es olds news done (call_sound deed.change r after sound (deed_ordered book r old.call deed d.is) d.made) in
      record { kept = later.kept; sound = later.sound }

  last_kept : (r : Register) (was now : Job R W) (stop : Stop) (fault : RunFault) (h : JobStops remaining contents book r was now stop fault) → IsSound r
      → LastIsKept remaining contents book r was now stop fault h
  last_kept r (job.Session was) (job.Session now) stop fault.Read h sound = tt
  last_kept r (job.Session was) (job.Session now) stop fault.Write h sound = tt
  last_kept r (job.Session was) (job.Session now) stop fault.Office h sound = no_answer_passes (session_over (setting_of book was.role) h.cut.given None) r sound
  last_kept r (job.Session was) (job.Session now) stop fault.Memory h sound = no_answer_passes (session_over (setting_of book was.role) h.cut.given None) r sound
  last_kept r (job.Session was) (job.Call now) stop fault h sound = tt
  last_kept r (job.Call was) (job.Session now) stop fault h sound = tt
  last_kept r (job.Call was) (job.Call now) stop fault h sound = tt

-- the changes up to here are made, and the file is in an allowed state
record IsSoAfter (file : File) (identity : Identity) (r : Register) (changes : List Change) (after : Register) : Type 0 where
  so : IsSoIn file identity after
  made : apply_all r changes ≡ Ok after

module _ {R W : Type 0} (remaining : R → Option (List ℕ)) (contents : W → Option (List ℕ)) (book : BookData) (file : File) (identity : Identity) where
  -- one job, and those after it
  then_so : (r : Register) (e : Entry) (es : List Entry) → apply_all r (share_of r e).changes ≡ Ok (share_of r e).register
      → IsSoAfter file identity (share_of r e).register (changes_of (share_of r e).register es) (after_jobs (share_of r e).register es)
      → IsSoAfter file identity r (changes_of r (e ∷ es)) (after_jobs r (e ∷ es))
  then_so r e es here h = record {
    so = h.so;
    made = replay_on remaining contents book r (share_of r e).register (share_of r e).changes (changes_of (share_of r e).register es) here ∙ h.made;
  }

  jobs_so : (r : Register) (es : List Entry) (olds news : List (Job R W)) → JobsDone remaining contents book r es olds news → BringAll file identity r es → IsSoIn file identity r
      → IsSoAfter file identity r (changes_of r es) (after_jobs r es)
  jobs_so r [] [] [] done brings so = record { so = so; made = refl }
  jobs_so r [] [] (new ∷ news) done brings so = absurd done
  jobs_so r [] (old ∷ olds) news done brings so = absurd done
  jobs_so r (e ∷ es) [] news done brings so = absurd done
  jobs_so r (e ∷ es) (old ∷ olds) [] done brings so = absurd done
  jobs_so r (SessionEntry setting given stop ∷ es) (old ∷ olds) (new ∷ news) (d, done) (here, brings) so =
      let c = run stop given (started setting r) in
      let made = replay_all stop setting given r c.register so.sound refl in
      let all : IsLeft c r c.register = record {
        count = length c.changes;
        most = omega arith;
        replay = ap (apply_all r) (take_all (length c.changes) c.changes (omega arith)) ∙ made;
      } in
      then_so r (SessionEntry setting given stop) es made
      (jobs_so c.register es olds news done brings (job_leaves file identity (OfSession (session_over setting given stop)) r c.register so here all))
  jobs_so r (CallEntry deed stop ∷ es) (job.Session old ∷ olds) (new ∷ news) (d, done) brings so = absurd d
  jobs_so r (CallEntry deed stop ∷ es) (job.Call old ∷ olds) (job.Session new ∷ news) (d, done) brings so = absurd d
  jobs_so r (CallEntry deed stop ∷ es) (job.Call old ∷ olds) (job.Call new ∷ news) (d, done) brings so =
      let after = register_after r deed.change in
      then_so r (CallEntry deed stop) es (replay_one deed.change r after d.made)
      (jobs_so after es olds news done brings (job_leaves file identity (OfCall book old.call) r after so tt (inr (deed, d.is, d.made))))

  -- a session or a call that was cut short
  session_so : (r s : Register) (role : Role) (given : List ℕ) (changes : List Change) (m : ℕ) → changes ≡ (course_of (session_over (setting_of book role) given None) r).changes
      → BringsParts file identity (session_over (setting_of book role) given None) r → m ≤ length changes → apply_all r (take m changes) ≡ Ok s → IsSoIn file identity r → IsSoIn file identity s
  session_so r s role given changes m is brings most made so =
      job_leaves file identity (OfSession (session_over (setting_of book role) given None)) r s so brings (record {
        count = m;
        most = subst (λ (ks : List Change). m ≤ length ks) is most;
        replay = subst (λ (ks : List Change). apply_all r (take m ks) ≡ Ok s) is made;
      })

  last_so : (r s : Register) (was now : Job R W) (stop : Stop) (fault : RunFault) (h : JobStops remaining contents book r was now stop fault)
      → BringsLast remaining contents book file identity r was now stop fault h → (m : ℕ) → m ≤ length stop.changes → apply_all r (take m stop.changes) ≡ Ok s
      → IsSoIn file identity r → IsSoIn file identity s
  last_so r s (job.Session was) (job.Session now) stop fault.Read h brings m most made so = absurd h
  last_so r s (job.Session was) (job.Session now) stop fault.Write h brings m most made so = absurd h
  last_so r s (job.Session was) (job.Session now) stop fault.Office h brings m most made so = session_so r s was.role h.cut.given stop.changes m h.cut.changes brings most made so
  last_so r s (job.Session was) (job.Session now) stop fault.Memory h brings m most made so = session_so r s was.role h.cut.given stop.changes m h.cut.changes brings most made so
  last_so r s (job.Session was) (job.Call now) stop fault h brings m most made so = absurd h
  last_so r s (job.Call was) (job.Session now) stop fault h brings m most made so = absurd h
  last_so r s (job.Call was) (job.Call now) stop fault.Read h brings m most made so = absurd h
  last_so r s (job.Call was) (job.Call now) stop fault.Write h brings m most made so = absurd h
  last_so r s (job.Call was) (job.Call now) stop fault.Office h brings m most made so =
      let left = none_or_one h.deed.change r s m (subst (λ (ks : List Change). apply_all r (take m ks) ≡ Ok s) h.changes made) in
      let leaves : JobLeaves (OfCall book was.call) r s = elim left [ inl same ↦ inl same | inr done ↦ inr (h.deed, h.is, done) ] in
      job_leaves file identity (OfCall book was.call) r s so tt leaves
  last_so r s (job.Call was) (job.Call now) stop fault.Memory h brings m most made so =
      let left = none_or_one None r s m (subst (λ (ks : List Change). apply_all r (take m ks) ≡ Ok s) h.changes made) in
      let same : s ≡ r = elim left [ inl same ↦ same | inr same ↦ same ] in
      subst (IsSoIn file identity) (sym same) so

  -- the register after a prefix of all changes, with those of the jobs that were done
  within : (r s : Register) (es : List Entry) (more : List Change) (least count : ℕ) → IsSoAfter file identity r (changes_of r es) (after_jobs r es)
      → length (changes_of r es) + least ≤ count → apply_all r (take count (changes_of r es ++ more)) ≡ Ok s
      → apply_all (after_jobs r es) (take (count - length (changes_of r es)) more) ≡ Ok s
  within r s es more least count done le made =
      let before = changes_of r es in
      let m = count - length before in
      let at : length before + m ≡ count = omega (arith, le) in
      let split : take count (before ++ more) ≡ before ++ take m more = ap (λ (n : ℕ). take n (before ++ more)) (sym at) ∙ take_past before more m in
      sym (replay_on remaining contents book r (after_jobs r es) before (take m more) done.made) ∙ sym (ap (apply_all r) split) ∙ made

module _ {R W : Type 0} (remaining : R → Option (List ℕ)) (contents : W → Option (List ℕ)) (book : BookData) (r : Register) (sound : IsSound r) (told : ℕ) (limits : Limits)
    (faults : ℕ) (s : State) (olds news : List (Job R W)) where
  abbrev now : View
  now = view_of limits faults s

  list_leaves : {T : Type 0} (result : Result T RunFault) → Runs remaining contents book (beginning r told) now olds news result
      → ListLeaves remaining contents book r told now olds news limits s result
  list_leaves (Ok x) run = record {
    run = run;
    left = prefix_all (beginning r told) limits faults s (changes_of r run.entries) (length (changes_of r run.entries)) (omega arith) run.replay run.left;
    counts = (jobs_kept remaining contents book r run.entries olds news run.done sound).kept;
    parts = λ file identity so brings db may.
        let done = jobs_so remaining contents book file identity r run.entries olds news run.done brings (record { sound = sound; so_far = so }) in
        (now.register, run.left db may, (subst (IsSoIn file identity) (sym run.register) done.so).so_far);
  }
  list_leaves (Err fault) run =
      let before = changes_of r run.entries in
      let more = run.stop.changes in
      let left = prefix_of (beginning r told) limits faults s (before ++ more) (length before + run.stop.answered) (length before + run.stop.made) run.leaves in
      record {
        run = run;
        left = left;
        counts =
            let kept = jobs_kept remaining contents book r run.entries run.before run.after run.done sound in (
              kept.kept,
              last_kept remaining contents book (after_jobs r run.entries) run.was run.now run.stop fault run.stops kept.sound,
            );
        parts = λ file identity so brings db may.
            let q : IsPrefix IsContentOf (before ++ more) r (length before + run.stop.answered) left.made db = left.left db may in
            let done = jobs_so remaining contents book file identity r run.entries run.before run.after run.done brings.0 (record { sound = sound; so_far = so }) in
            let m = q.count - length before in
            let few : m ≤ length more = omega (arith, q.least, q.most, length-append before more) in
            let made = within remaining contents book file identity r q.register run.entries more run.stop.answered q.count done q.least q.replay in
            let last = last_so remaining contents book file identity (after_jobs r run.entries) q.register run.was run.now run.stop fault run.stops brings.1 m few made done.so in
            (q.register, q.holds, last.so_far);
      }

  list_alone : {T : Type 0} (result : Result T RunFault) → Runs remaining contents book (beginning r told) now olds news result
      → ButForOffice result (LeavesAlone limits s (register_in limits s.now.trees))
  list_alone (Ok x) run = record { has = (run.stands, refl); left = run.left }
  list_alone (Err fault.Read) run = absurd run.ends
  list_alone (Err fault.Write) run = absurd run.ends
  list_alone (Err fault.Office) run = tt
  list_alone (Err fault.Memory) run = record { has = (run.ends.stands, refl); left = run.ends.left }

-- a list over an office that has a register: what it leaves, and what it doesn't change
pub list_ends : {R W T : Type 0} (remaining : R → Option (List ℕ)) (contents : W → Option (List ℕ)) (book : BookData) (old : View) (r : Register) (limits : Limits) (faults : ℕ) (s : State)
    (olds news : List (Job R W)) (result : Result T RunFault) → old.register ≡ r → IsSound old.register → Runs remaining contents book old (view_of limits faults s) olds news result
    → ListLeaves remaining contents book r old.told (view_of limits faults s) olds news limits s result × ButForOffice result (LeavesAlone limits s (register_in limits s.now.trees))
list_ends remaining contents book old r limits faults s olds news result is sound runs =
    let now = view_of limits faults s in
    let sound_so = subst IsSound is sound in
    let so = subst (λ (x : Register). Runs remaining contents book (beginning x old.told) now olds news result) is (runs_from remaining contents book old now olds news result runs) in (
      list_leaves remaining contents book r sound_so old.told limits faults s olds news result so,
      list_alone remaining contents book r sound_so old.told limits faults s olds news result so,
    )
