-- One job after another.
use Rattle.std.proofs.Common.{◌≡◌, ◌∙◌, ◌⊎◌, inl, inr, ap, sym, subst, refl, arith, ℕ, ◌+◌, ◌<◌, ◌≤◌, List, [], ◌∷◌, ◌++◌, fold, length, take, drop, set, get_or, Option, None, Some, Result, Ok, Err, length-append, append_assoc, add-zero}
use Rattle.std.proofs.lemmas.Grind.{fold-append}
use Rattle.std.proofs.lemmas.List.{take_more, take_more_set, take-set, drop-set-lt, drop-drop, drop_more, length-set, take_all, get_or-drop, get_or-set_same, take-append-drop, append-nil}
use Rattle.oftp_partners.specs.Book.{BookData}
use Rattle.oftp_register.specs.declared.change.Cause.{Cause}
use Rattle.oftp_register.specs.declared.change.Change.{Change}
use Rattle.oftp_register.specs.Register.{Register}
use Rattle.oftp_register.specs.Changes.{apply_all, go_on_by}
use Rattle.oftp_register.specs.Offices.{Only, View}
use Rattle.oftp_session.specs.Calls.{IsBefore, Makes}
use Rattle.oftp_session.specs.Phases.{register_after}
use Rattle.oftp_session.specs.Settings.{Setting}
use Rattle.oftp_engine.specs.declared.operating.Told.{Told}
use Rattle.oftp_engine.specs.declared.running.CallJob.{CallJob}
use Rattle.oftp_engine.specs.declared.running.Job.{Job}
use Rattle.oftp_engine.specs.declared.running.Job.TheVariants as job
use Rattle.oftp_engine.specs.declared.running.SessionJob.{SessionJob}
use Rattle.oftp_engine.specs.declared.serving.End.{End}
use Rattle.oftp_engine.specs.declared.serving.RunFault.{RunFault}
use Rattle.oftp_engine.specs.declared.serving.RunFault.TheVariants as fault
use Rattle.oftp_engine.specs.Runs.{Course, run, started, Output, answered, octets_of, with_change}
use Rattle.oftp_engine.specs.Serving.{scene}
use Rattle.oftp_engine.specs.Served.{Gave, InputEnded, IsWhole, ReaderTold, Serves, setting_of, whole}
use Rattle.oftp_engine.specs.Operated.{IsUndecided, Operates}
use Rattle.oftp_engine.specs.Operating.{Deed, IsDeed}
use Rattle.oftp_engine.specs.Jobs.{CallRefused, IsOut, SessionCut, Stop, EndsWith, Entry, SessionEntry, SessionEnds, CallEntry, IsRun, IsStopped, JobDone, JobStops, JobsDone, LeavesSome, after_jobs, changes_of, share_of}
use Rattle.oftp_engine.specs.InsideRunning.{DoesJob, IsListResult, IsJobDone, IsJobStopped}
use Rattle.oftp_engine.proofs.JobsSoFar.{IsRunning}
use Rattle.oftp_engine.proofs.Ending.{take_past}
use Rattle.oftp_engine.proofs.Stepping.{made_register}

-- a session that was served is a job that is done or cut short
module _ {R W : Type 0} (remaining : R → Option (List ℕ)) (contents : W → Option (List ℕ)) (book : BookData) (x y : View) (a b : SessionJob R W) where
  abbrev setting' : Setting
  setting' = setting_of book a.role

  -- a session that its list goes on after
  went_through : (answer : Result End RunFault) → b.role ≡ a.role → b.result ≡ Some answer → (given : List ℕ) → Gave remaining a.reader b.reader given → (stop : Option ℕ)
      → (let c : Course = run stop given (started setting' x.register) in IsOut contents a.writer b.writer (octets_of c.outputs) stop × (y.register ≡ c.register)
      × (apply_all x.register c.changes ≡ Ok y.register)) → SessionEnds setting' x.register given stop answer
      → ReaderTold a.reader b.reader answer → InputEnded remaining a.reader b.reader answer → y.stands → y.told ≡ x.told
      → IsJobDone remaining contents book x y (job.Session a) (job.Session b)
  went_through answer role left given gave stop made ends told input stands faults = record {
    entry = SessionEntry setting' given stop;
    done = record {
      is = refl;
      role = role;
      gave = gave;
      out = made.0;
      answer = answer;
      result = left;
      ends = ends;
      reader_told = told;
      input_ended = input;
    };
    register = made.1;
    replay = made.2;
    stands = stands;
    faults = faults;
  }

  went_whole : (answer : Result End RunFault) → b.role ≡ a.role → b.result ≡ Some answer → (given : List ℕ) → Gave remaining a.reader b.reader given
      → IsWhole setting' given (scene contents x a.writer) (scene contents y b.writer) → SessionEnds setting' x.register given None answer
      → ReaderTold a.reader b.reader answer → InputEnded remaining a.reader b.reader answer
      → IsJobDone remaining contents book x y (job.Session a) (job.Session b)
  went_whole answer role left given gave all ends told input =
      went_through answer role left given gave None ((record { contents = all.out.contents; moved = all.out.taken }, all.told), all.register, all.replay) ends told input all.stands all.faults

  -- how far a session went that was cut short
  abbrev stop_of : List ℕ → List Output → ℕ → Stop
  stop_of given outs made = record { changes = (whole setting' given x.register).changes; answered = answered outs (length (octets_of outs)); made = made }

  abbrev cut_by : (fault : RunFault) → b.role ≡ a.role → b.result ≡ Some (Err fault) → (given : List ℕ) → Gave remaining a.reader b.reader given → b.reader.faults ≡ a.reader.faults
      → (outs later : List Output) → (whole setting' given x.register).outputs ≡ outs ++ later → (made : ℕ) → SessionCut remaining book x.register a b (stop_of given outs made) fault
  cut_by fault role left given gave told outs later outputs made = record {
    role = role;
    given = given;
    gave = gave;
    outs = outs;
    later = later;
    outputs = outputs;
    changes = refl;
    least = refl;
    reader = told;
    result = left;
  }

  pub does_session : {T : Type 0} (answer : Result End RunFault) (result : Result T RunFault) → IsListResult answer result → b.role ≡ a.role → b.result ≡ Some answer
      → (given : List ℕ) → Gave remaining a.reader b.reader given → Serves setting' given (scene contents x a.writer) (scene contents y b.writer) answer
      → ReaderTold a.reader b.reader answer → InputEnded remaining a.reader b.reader answer
      → DoesJob remaining contents book x y (job.Session a) (job.Session b) result
  does_session (Ok end) (Err f) gone role left given gave h told input = absurd gone
  does_session (Ok end) (Ok u) gone role left given gave h told input = went_whole (Ok end) role left given gave h.all (refl, h.ends, h.needed) told input
  does_session (Err fault.Read) (Err f) gone role left given gave h told input = absurd gone
  does_session (Err fault.Read) (Ok u) gone role left given gave h told input = went_whole (Err fault.Read) role left given gave h.all (refl, h.live) told input
  does_session (Err fault.Write) (Err f) gone role left given gave h told input = absurd gone
  does_session (Err fault.Write) (Ok u) gone role left given gave h told input =
      went_through (Err fault.Write) role left given gave (Some h.taken) ((record { contents = h.out.contents; moved = h.out.taken }, h.short, h.told), h.register, h.replay) refl told input
      h.stands h.faults
  does_session (Err fault.Office) (Ok u) gone role left given gave h told input = absurd gone
  does_session (Err fault.Office) (Err f) gone role left given gave h told input =
      subst (IsJobStopped remaining contents book x y (job.Session a) (job.Session b)) (sym gone) (record {
        stop = stop_of given h.outs h.made;
        stops = record {
          cut = cut_by fault.Office role left given gave told h.outs h.later h.outputs h.made;
          stopped = h.stopped;
          count = h.count;
          out = record { contents = h.out.contents; moved = h.out.taken };
          said = h.said;
        };
        leaves = record { kept = h.kept; few = h.few; register = h.register; left = h.left };
        ends = record { faults = h.faults };
      })
  does_session (Err fault.Memory) (Ok u) gone role left given gave h told input = absurd gone
  does_session (Err fault.Memory) (Err f) gone role left given gave h told input =
      subst (IsJobStopped remaining contents book x y (job.Session a) (job.Session b)) (sym gone) (record {
        stop = stop_of given h.outs h.made;
        stops = record {
          cut = cut_by fault.Memory role left given gave told h.outs h.later h.outputs h.made;
          stopped = h.stopped;
          out = record { contents = h.out.contents; moved = h.out.taken };
          unfailed = h.told;
        };
        leaves = record {
          kept = h.kept;
          few = h.few;
          register = λ _. h.register;
          left = λ content may. record {
            count = h.made;
            least = h.kept;
            most = h.few;
            near = inl refl;
            register = y.register;
            replay = h.register;
            holds = h.left content may;
          };
        };
        ends = record { faults = h.faults; stands = h.stands; left = h.left };
      })

-- the one change of a call, if it makes one

pub replay_one : (change : Option Change) (r s : Register) → Makes change r s → apply_all r (with_change [] change) ≡ Ok s
replay_one None r s made = ap Ok (sym made)
replay_one (Some k) r s made = made

made_one : (change : Option Change) (r s : Register) → Makes change r s → Makes change r (register_after r change)
made_one change r s made = subst (Makes change r) (made_register change r s made) made

-- what a crash leaves within a call: the change is made or not
pub left_before : (change : Option Change) (old new : View) → IsBefore change old new → LeavesSome (with_change [] change) 0 0 old.register new
left_before None old new h = record {
  kept = omega arith;
  few = omega arith;
  register = λ is_open. ap Ok (sym (h.register is_open));
  left = λ content may. record {
    count = 0;
    least = omega arith;
    most = omega arith;
    near = inl refl;
    register = old.register;
    replay = refl;
    holds = h.left content may;
  };
}
left_before (Some k) old new h = record {
  kept = omega arith;
  few = omega arith;
  register = λ is_open. ap Ok (sym (h.register is_open));
  left = λ content may.
      elim (h.left content may) [
        | inl same ↦ record {
          count = 0;
          least = omega arith;
          most = omega arith;
          near = inl refl;
          register = old.register;
          replay = refl;
          holds = same;
        }
        | inr made ↦ record {
          count = 1;
          least = omega arith;
          most = omega arith;
          near = inr refl;
          register = made.0;
          replay = made.1;
          holds = made.2;
        }
      ];
}

-- all of the changes are made
pub left_all : (changes : List Change) (least : ℕ) (old new : View) (after : Register) → least ≤ length changes → apply_all old.register changes ≡ Ok after
    → (new.is_open → new.register ≡ after) → Only after new → LeavesSome changes least (length changes) old.register new
left_all changes least old new after le made same left =
    let replay : apply_all old.register (take (length changes) changes) ≡ Ok after = ap (apply_all old.register) (take_all (length changes) changes (omega arith)) ∙ made in
    record {
      kept = le;
      few = omega arith;
      register = λ is_open. replay ∙ ap Ok (sym (same is_open));
      left = λ content may. record {
        count = length changes;
        least = le;
        most = omega arith;
        near = inl refl;
        register = after;
        replay = replay;
        holds = left content may;
      };
    }

-- an operator's call that was carried out is a job that is done or cut short
module _ {R W : Type 0} (remaining : R → Option (List ℕ)) (contents : W → Option (List ℕ)) (book : BookData) (x y : View) (a b : CallJob W) where
  -- the office returned an error within the call, with this many changes made
  refused_call : (deed : Deed) (made : ℕ) → b.call ≡ a.call → b.result ≡ Some (Err fault.Office) → IsDeed book x.register a.call deed
      → IsUndecided deed (scene contents x a.writer) (scene contents y b.writer)
      → CallRefused contents book x.register a b (record { changes = with_change [] deed.change; answered = 0; made = made })
  refused_call deed made call left is h = record {
    deed = deed;
    is = is;
    call = call;
    out = record { contents = h.out.contents; moved = h.out.taken };
    unfailed = h.unfailed;
    changes = refl;
    least = refl;
    result = left;
  }

  pub does_call : {T : Type 0} (answer : Result Told RunFault) (result : Result T RunFault) → IsListResult answer result → b.call ≡ a.call → b.result ≡ Some answer
      → Operates book a.call (scene contents x a.writer) (scene contents y b.writer) answer
      → DoesJob remaining contents book x y (job.Call a) (job.Call b) result
  does_call (Ok told) (Err f) gone call left h = absurd gone
  does_call (Ok told) (Ok u) gone call left h = record {
    entry = CallEntry h.0 None;
    done = record {
      is = h.1;
      call = call;
      out = (record { contents = h.2.out.contents; moved = h.2.out.taken }, h.2.unfailed);
      made = made_one h.0.change x.register y.register h.2.register;
      answer = Ok told;
      result = left;
      ends = (refl, h.2.told);
    };
    register = made_register h.0.change x.register y.register h.2.register;
    replay = replay_one h.0.change x.register y.register h.2.register;
    stands = h.2.stands;
    faults = h.2.faults;
  }
  does_call (Err fault.Read) result gone call left h = absurd h
  does_call (Err fault.Write) (Err f) gone call left h = absurd gone
  does_call (Err fault.Write) (Ok u) gone call left h = record {
    entry = CallEntry h.0 (Some h.2.count);
    done = record {
      is = h.1;
      call = call;
      out = (record { contents = h.2.out.contents; moved = h.2.out.taken }, h.2.short, h.2.failed);
      made = made_one h.0.change x.register y.register h.2.register;
      answer = Err fault.Write;
      result = left;
      ends = refl;
    };
    register = made_register h.0.change x.register y.register h.2.register;
    replay = replay_one h.0.change x.register y.register h.2.register;
    stands = h.2.stands;
    faults = h.2.faults;
  }
  does_call (Err fault.Office) (Ok u) gone call left h = absurd gone
  does_call (Err fault.Office) (Err f) gone call left h =
      subst (IsJobStopped remaining contents book x y (job.Call a) (job.Call b)) (sym gone)
      (elim h.2.cases [
        | inl before ↦ record {
          stop = record { changes = with_change [] h.0.change; answered = 0; made = 0 };
          stops = refused_call h.0 0 call left h.1 h.2;
          leaves = left_before h.0.change x y before;
          ends = record { faults = h.2.faults };
        }
        | inr made ↦ record {
          stop = record { changes = with_change [] h.0.change; answered = 0; made = length (with_change [] h.0.change) };
          stops = refused_call h.0 (length (with_change [] h.0.change)) call left h.1 h.2;
          leaves = left_all (with_change [] h.0.change) 0 x y made.after (omega arith) (replay_one h.0.change x.register made.after made.made) made.register made.left;
          ends = record { faults = h.2.faults };
        }
      ])
  does_call (Err fault.Memory) (Ok u) gone call left h = absurd gone
  does_call (Err fault.Memory) (Err f) gone call left h =
      subst (IsJobStopped remaining contents book x y (job.Call a) (job.Call b)) (sym gone) (record {
        stop = record { changes = []; answered = 0; made = 0 };
        stops = record {
          needs = h.0;
          call = call;
          out = record { contents = h.1.out.contents; moved = h.1.out.taken };
          unfailed = h.1.unfailed;
          changes = refl;
          least = refl;
          result = left;
        };
        leaves = left_all [] 0 x y x.register (omega arith) refl (λ _. h.1.register) (subst (λ (r : Register). Only r y) h.1.register h.1.left);
        ends = record { faults = h.1.faults; stands = h.1.stands; left = h.1.left };
      })

-- jobs in order
module _ {R W : Type 0} (remaining : R → Option (List ℕ)) (contents : W → Option (List ℕ)) (book : BookData) where
  abbrev Jobs : Type 0
  Jobs = List (Job R W)

  jobs_push : (r : Register) (es : List Entry) (olds news : Jobs) (e : Entry) (a b : Job R W) → JobsDone remaining contents book r es olds news
      → JobDone remaining contents book (after_jobs r es) e a b → JobsDone remaining contents book r (es ++ e ∷ []) (olds ++ a ∷ []) (news ++ b ∷ [])
  jobs_push r [] [] [] e a b h d = (d, tt)
  jobs_push r [] [] (y ∷ news) e a b h d = absurd h
  jobs_push r [] (x ∷ olds) news e a b h d = absurd h
  jobs_push r (w ∷ es) [] news e a b h d = absurd h
  jobs_push r (w ∷ es) (x ∷ olds) [] e a b h d = absurd h
  jobs_push r (w ∷ es) (x ∷ olds) (y ∷ news) e a b h d = (h.0, jobs_push (share_of r w).register es olds news e a b h.1 d)

  after_push : (r : Register) (es : List Entry) (e : Entry) → after_jobs r (es ++ e ∷ []) ≡ (share_of (after_jobs r es) e).register
  after_push r [] e = refl
  after_push r (w ∷ es) e = after_push (share_of r w).register es e

  changes_push : (r : Register) (es : List Entry) (e : Entry) → changes_of r (es ++ e ∷ []) ≡ changes_of r es ++ (share_of (after_jobs r es) e).changes
  changes_push r [] e = append-nil (share_of r e).changes
  changes_push r (w ∷ es) e =
      ap (λ (cs : List Change). (share_of r w).changes ++ cs) (changes_push (share_of r w).register es e)
      ∙ sym (append_assoc (share_of r w).changes (changes_of (share_of r w).register es) (share_of (after_jobs (share_of r w).register es) e).changes)

  -- changes after others
  pub replay_on : (r s : Register) (before more : List Change) → apply_all r before ≡ Ok s → apply_all r (before ++ more) ≡ apply_all s more
  replay_on r s before more made = fold-append go_on_by (Ok r) before more ∙ ap (λ (so_far : Result Register Cause). fold go_on_by so_far more) made

  -- the register after some of the changes of a job, from the first register
  from_first : (r s t : Register) (before more : List Change) (n : ℕ) → apply_all r before ≡ Ok s → apply_all s (take n more) ≡ Ok t
      → apply_all r (take (length before + n) (before ++ more)) ≡ Ok t
  from_first r s t before more n made later = ap (apply_all r) (take_past before more n) ∙ replay_on r s before (take n more) made ∙ later

  few_of : (before more : List Change) (n : ℕ) → n ≤ length more → length before + n ≤ length (before ++ more)
  few_of before more n le = omega (arith, length-append before more)

  near_on : (k m n : ℕ) → (m ≡ n) ⊎ (m + 1 ≡ n) → (k + m ≡ k + n) ⊎ (k + m + 1 ≡ k + n)
  near_on k m n (inl e) = inl (omega arith)
  near_on k m n (inr e) = inr (omega arith)

  -- what a job leaves, seen from the first register
  pub leaves_from : (r s : Register) (new : View) (before changes : List Change) (least made : ℕ) → apply_all r before ≡ Ok s
      → LeavesSome changes least made s new → LeavesSome (before ++ changes) (length before + least) (length before + made) r new
  leaves_from r s new before changes least made replay h = record {
    kept = let k = h.kept in omega arith;
    few = few_of before changes made h.few;
    register = λ is_open. from_first r s new.register before changes made replay (h.register is_open);
    left = λ content may.
        let p = h.left content may in
        let le = p.least in
        record {
          count = length before + p.count;
          least = omega arith;
          most = few_of before changes p.count p.most;
          near = near_on (length before) made p.count p.near;
          register = p.register;
          replay = from_first r s p.register before changes p.count replay p.replay;
          holds = p.holds;
        };
  }

  pub running_none : (now : View) (jobs : Jobs) → now.stands → IsRunning remaining contents book now now jobs jobs 0
  running_none now jobs stood =
      record { entries = []; done = tt; behind = refl; long = refl; register = refl; replay = refl; stands = stood; faults = refl }

  same_there : (olds news : Jobs) (i : ℕ) (d : Job R W) → drop i news ≡ drop i olds → get_or olds i d ≡ get_or news i d
  same_there olds news i d h =
      let p : get_or (drop i olds) 0 d ≡ get_or olds i d = get_or-drop i olds 0 d ∙ ap (λ (n : ℕ). get_or olds n d) (add-zero i) in
      let q : get_or (drop i news) 0 d ≡ get_or news i d = get_or-drop i news 0 d ∙ ap (λ (n : ℕ). get_or news n d) (add-zero i) in
      sym p ∙ ap (λ (xs : Jobs). get_or xs 0 d) (sym h) ∙ q

  split_at : (jobs : Jobs) (i : ℕ) (d : Job R W) → i < length jobs → jobs ≡ take i jobs ++ get_or jobs i d ∷ drop (i + 1) jobs
  split_at jobs i d lt = sym (take-append-drop i jobs) ∙ ap (λ (back : Jobs). take i jobs ++ back) (drop_more jobs i d lt)

  module _ (first old new : View) (olds news : Jobs) (i : ℕ) (d b : Job R W) (lt : i < length olds) (h : IsRunning remaining contents book first old olds news i) where
    abbrev here : Job R W
    here = get_or news i d

    within : i < length news
    within = subst (λ (n : ℕ). i < n) (sym h.long) lt

    behind_now : drop (i + 1) (set news i b) ≡ drop (i + 1) olds
    behind_now = drop-set-lt (i + 1) news i b (omega arith) ∙ sym (drop-drop 1 i news) ∙ ap (drop 1) h.behind ∙ drop-drop 1 i olds

    -- one more job is done
    pub running_on : IsJobDone remaining contents book old new here b → IsRunning remaining contents book first new olds (set news i b) (i + 1)
    running_on job =
        let front_old : take (i + 1) olds ≡ take i olds ++ here ∷ [] = take_more olds i d lt ∙ ap (λ (x : Job R W). take i olds ++ x ∷ []) (same_there olds news i d h.behind) in
        let front_new : take (i + 1) (set news i b) ≡ take i news ++ b ∷ [] = take_more_set news i b within in
        let entries = h.entries ++ job.entry ∷ [] in
        let done : JobDone remaining contents book (after_jobs first.register h.entries) job.entry here b =
        subst (λ (r : Register). JobDone remaining contents book r job.entry here b) h.register job.done in
        let share : (share_of old.register job.entry).changes ≡ (share_of (after_jobs first.register h.entries) job.entry).changes =
        ap (λ (r : Register). (share_of r job.entry).changes) h.register in
        record {
          entries = entries;
          done = subst (λ (x : Jobs). JobsDone remaining contents book first.register entries x (take (i + 1) (set news i b))) (sym front_old)
              (subst (λ (x : Jobs). JobsDone remaining contents book first.register entries (take i olds ++ here ∷ []) x) (sym front_new)
              (jobs_push first.register h.entries (take i olds) (take i news) job.entry here b h.done done));
          behind = behind_now;
          long = length-set news i b ∙ h.long;
          register = job.register ∙ ap (λ (r : Register). (share_of r job.entry).register) h.register ∙ sym (after_push first.register h.entries job.entry);
          replay = ap (apply_all first.register) (changes_push first.register h.entries job.entry ∙ ap (λ (cs : List Change). changes_of first.register h.entries ++ cs) (sym share))
              ∙ replay_on first.register old.register (changes_of first.register h.entries) (share_of old.register job.entry).changes h.replay ∙ job.replay;
          stands = job.stands;
          faults = job.faults ∙ h.faults;
        }

    -- a job is cut short, and the list ends
    pub running_stops : (f : RunFault) → IsJobStopped remaining contents book old new here b f → IsStopped remaining contents book first.register first.told new olds (set news i b) f
    running_stops f job = record {
      entries = h.entries;
      before = take i olds;
      after = take i news;
      was = here;
      now = b;
      behind = drop (i + 1) olds;
      olds_are = split_at olds i d lt ∙ ap (λ (x : Job R W). take i olds ++ x ∷ drop (i + 1) olds) (same_there olds news i d h.behind);
      news_are = split_at (set news i b) i b (subst (λ (n : ℕ). i < n) (sym (length-set news i b)) within)
          ∙ ap (λ (front : Jobs). front ++ get_or (set news i b) i b ∷ drop (i + 1) (set news i b)) (take-set news i b)
          ∙ ap (λ (x : Job R W). take i news ++ x ∷ drop (i + 1) (set news i b)) (get_or-set_same news i b b within)
          ∙ ap (λ (back : Jobs). take i news ++ b ∷ back) behind_now;
      done = h.done;
      stop = job.stop;
      stops = subst (λ (r : Register). JobStops remaining contents book r here b job.stop f) h.register job.stops;
      leaves = leaves_from first.register old.register new (changes_of first.register h.entries) job.stop.changes job.stop.answered job.stop.made h.replay job.leaves;
      ends = subst (λ (n : ℕ). EndsWith n new f) h.faults job.ends;
    }

  pub running_all : (first new : View) (olds news : Jobs) (i : ℕ) → (new.stands → Only new.register new) → length olds ≤ i → IsRunning remaining contents book first new olds news i
      → IsRun remaining contents book first.register first.told new olds news
  running_all first new olds news i alone le h = record {
    entries = h.entries;
    done = subst (λ (x : Jobs). JobsDone remaining contents book first.register h.entries x news) (take_all i olds le)
        (subst (λ (x : Jobs). JobsDone remaining contents book first.register h.entries (take i olds) x) (take_all i news (omega (arith, h.long))) h.done);
    register = h.register;
    replay = h.replay;
    stands = h.stands;
    left = alone h.stands;
    faults = h.faults;
  }
