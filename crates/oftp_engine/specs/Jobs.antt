-- A list of jobs, one after another: sessions and operator's calls.
use Rattle.std.specs.Prelude.{◌≡◌, ℕ, ◌+◌, ◌<◌, ◌≤◌, ◌⊎◌, ⊤, true, false, List, [], ◌∷◌, ◌++◌, length, take, Option, None, Some, is_some, Result, Ok, Err}
use Rattle.oftp_partners.specs.Book.{BookData}
use Rattle.oftp_register.specs.declared.change.Change.{Change}
use Rattle.oftp_register.specs.Register.{Register}
use Rattle.oftp_register.specs.Changes.{apply_all}
use Rattle.oftp_register.specs.Offices.{Only, View, next_count}
use Rattle.oftp_session.specs.Calls.{Makes}
use Rattle.oftp_session.specs.Phases.{is_over, register_after}
use Rattle.oftp_session.specs.Settings.{Setting}
use Rattle.oftp_io.specs.declared.port.Port.{Port}
use Rattle.oftp_engine.specs.declared.operating.Told.{Told}
use Rattle.oftp_engine.specs.declared.running.CallJob.{CallJob}
use Rattle.oftp_engine.specs.declared.running.Job.{Job}
use Rattle.oftp_engine.specs.declared.running.Job.TheVariants as job
use Rattle.oftp_engine.specs.declared.running.SessionJob.{SessionJob}
use Rattle.oftp_engine.specs.declared.serving.End.{End}
use Rattle.oftp_engine.specs.declared.serving.RunFault.{RunFault}
use Rattle.oftp_engine.specs.declared.serving.RunFault.TheVariants as fault
use Rattle.oftp_io.specs.Ports.{Wrote}
use Rattle.oftp_engine.specs.Runs.{Course, Output, answered, ending, octets_of, run, started, with_change}
use Rattle.oftp_engine.specs.Serving.{last_frame}
use Rattle.oftp_engine.specs.Served.{Gave, InputEnded, IsNeeded, IsPrefix, ReaderTold, StopsBetween, StopsWithin, setting_of, whole}
use Rattle.oftp_engine.specs.Operating.{Deed, IsDeed, NeedsMemory}

-- A job as its ports report it. For a session: the octets that its reader gave, and how many its writer had taken if it returned an error.
-- For an operator's call: what it does, and the same of its writer.
pub data Entry : Type 0 where
  SessionEntry : (setting : Setting) (given : List ℕ) (stop : Option ℕ) → Entry
  CallEntry : (deed : Deed) (stop : Option ℕ) → Entry

-- the effect of a job: its changes, its outputs, and the register after it
pub record Share : Type 0 where
  pub changes : List Change
  pub outputs : List Output
  pub register : Register

abbrev pub session_share : Course → Share
session_share c = record { changes = c.changes; outputs = c.outputs; register = c.register }

abbrev pub call_share : Register → Deed → Share
call_share r deed = record {
  changes = with_change [] deed.change;
  outputs = record { octets = deed.line; after = length (with_change [] deed.change) } ∷ [];
  register = register_after r deed.change;
}

abbrev pub share_of : Register → Entry → Share
share_of r (SessionEntry setting given stop) = session_share (run stop given (started setting r))
share_of r (CallEntry deed stop) = call_share r deed

-- the register after jobs, and all their changes
abbrev pub after_jobs : Register → List Entry → Register
after_jobs r [] = r
after_jobs r (e ∷ es) = after_jobs (share_of r e).register es

abbrev pub changes_of : Register → List Entry → List Change
changes_of r [] = []
changes_of r (e ∷ es) = (share_of r e).changes ++ changes_of (share_of r e).register es

-- octets are out, or a beginning of them if the writer returned an error
abbrev pub IsOut : {W : Type 0} → (W → Option (List ℕ)) → Port W → Port W → List ℕ → Option ℕ → Type 0
IsOut contents old new octets None = Wrote contents old new octets × (new.faults ≡ old.faults)
IsOut contents old new octets (Some n) = Wrote contents old new (take n octets) × (n < length octets) × (new.faults ≡ next_count old.faults)

-- the result of a session that its list went on after
abbrev pub SessionEnds : Setting → Register → List ℕ → Option ℕ → Result End RunFault → Type 0
SessionEnds setting r given stop (Ok end) = (stop ≡ None) × (end ≡ ending (whole setting given r).phase) × IsNeeded setting r given
SessionEnds setting r given stop (Err fault.Read) = (stop ≡ None) × (is_over (whole setting given r).phase ≡ false)
SessionEnds setting r given stop (Err fault.Write) = is_some stop ≡ true
SessionEnds setting r given stop (Err fault.Office) = ⊥
SessionEnds setting r given stop (Err fault.Memory) = ⊥

-- a session was served from this register, and its list goes on
pub record SessionServed {R W : Type 0} (remaining : R → Option (List ℕ)) (contents : W → Option (List ℕ)) (book : BookData) (r : Register)
    (setting : Setting) (given : List ℕ) (stop : Option ℕ) (old new : SessionJob R W) : Type 0 where
  pub is : setting ≡ setting_of book old.role
  pub role : new.role ≡ old.role
  pub gave : Gave remaining old.reader new.reader given
  pub out : IsOut contents old.writer new.writer (octets_of (run stop given (started setting r)).outputs) stop
  pub answer : Result End RunFault
  pub result : new.result ≡ Some answer
  pub ends : SessionEnds setting r given stop answer
  pub reader_told : ReaderTold old.reader new.reader answer
  pub input_ended : InputEnded remaining old.reader new.reader answer

-- the result of a call that its list went on after
abbrev pub CallEnds : Deed → Option ℕ → Result Told RunFault → Type 0
CallEnds deed stop (Ok told) = (stop ≡ None) × (told ≡ deed.told)
CallEnds deed stop (Err fault.Read) = ⊥
CallEnds deed stop (Err fault.Write) = is_some stop ≡ true
CallEnds deed stop (Err fault.Office) = ⊥
CallEnds deed stop (Err fault.Memory) = ⊥

-- a call was carried out at this register, and its list goes on
pub record CallCarriedOut {W : Type 0} (contents : W → Option (List ℕ)) (book : BookData) (r : Register) (deed : Deed) (stop : Option ℕ) (old new : CallJob W) : Type 0 where
  pub is : IsDeed book r old.call deed
  pub call : new.call ≡ old.call
  pub out : IsOut contents old.writer new.writer deed.line stop
  pub made : Makes deed.change r (register_after r deed.change)
  pub answer : Result Told RunFault
  pub result : new.result ≡ Some answer
  pub ends : CallEnds deed stop answer

-- What a job that was cut short leaves: all changes that it would make, and how many are made. Also how many of these changes come before
-- an output of which an octet is out.
pub record Stop : Type 0 where
  pub changes : List Change
  pub answered : ℕ
  pub made : ℕ

-- a session was cut short by an error: whole outputs of it are out, and nothing beyond its changes was made
pub record SessionCut {R W : Type 0} (remaining : R → Option (List ℕ)) (book : BookData) (r : Register) (old new : SessionJob R W) (stop : Stop) (fault : RunFault) : Type 0 where
  pub role : new.role ≡ old.role
  pub given : List ℕ
  pub gave : Gave remaining old.reader new.reader given
  pub outs : List Output
  pub later : List Output
  pub outputs : (whole (setting_of book old.role) given r).outputs ≡ outs ++ later
  pub changes : stop.changes ≡ (whole (setting_of book old.role) given r).changes
  pub least : stop.answered ≡ answered outs (length (octets_of outs))
  pub reader : new.reader.faults ≡ old.reader.faults
  pub result : new.result ≡ Some (Err fault)

-- The office returned an error within a session. After the whole outputs ESID 08 is out, or as much of it as the writer took before it
-- returned an error.
pub record SessionRefused {R W : Type 0} (remaining : R → Option (List ℕ)) (contents : W → Option (List ℕ)) (book : BookData) (r : Register)
    (old new : SessionJob R W) (stop : Stop) : Type 0 where
  pub cut : SessionCut remaining book r old new stop fault.Office
  pub stopped : StopsWithin (setting_of book old.role) cut.given r cut.outs stop.made
  pub count : ℕ
  pub out : Wrote contents old.writer new.writer (octets_of cut.outs ++ take count last_frame)
  pub said : ((count ≡ length last_frame) × (new.writer.faults ≡ old.writer.faults)) ⊎ ((count < length last_frame) × (new.writer.faults ≡ next_count old.writer.faults))

-- out of memory within a session: the whole outputs are out, and nothing else
pub record SessionShort {R W : Type 0} (remaining : R → Option (List ℕ)) (contents : W → Option (List ℕ)) (book : BookData) (r : Register)
    (old new : SessionJob R W) (stop : Stop) : Type 0 where
  pub cut : SessionCut remaining book r old new stop fault.Memory
  pub stopped : StopsBetween (setting_of book old.role) cut.given r cut.outs stop.made
  pub out : Wrote contents old.writer new.writer (octets_of cut.outs)
  pub unfailed : new.writer.faults ≡ old.writer.faults

-- the office returned an error within a call: nothing is out
pub record CallRefused {W : Type 0} (contents : W → Option (List ℕ)) (book : BookData) (r : Register) (old new : CallJob W) (stop : Stop) : Type 0 where
  pub deed : Deed
  pub is : IsDeed book r old.call deed
  pub call : new.call ≡ old.call
  pub out : Wrote contents old.writer new.writer []
  pub unfailed : new.writer.faults ≡ old.writer.faults
  pub changes : stop.changes ≡ with_change [] deed.change
  pub least : stop.answered ≡ 0
  pub result : new.result ≡ Some (Err fault.Office)

-- out of memory within a call: nothing is out, and nothing is changed
pub record CallShort {W : Type 0} (contents : W → Option (List ℕ)) (old new : CallJob W) (stop : Stop) : Type 0 where
  pub needs : NeedsMemory old.call
  pub call : new.call ≡ old.call
  pub out : Wrote contents old.writer new.writer []
  pub unfailed : new.writer.faults ≡ old.writer.faults
  pub changes : stop.changes ≡ []
  pub least : stop.answered ≡ 0
  pub result : new.result ≡ Some (Err fault.Memory)

-- the office returned an error in this call; or it is out of memory, the office is open, and a crash leaves its register
pub record OfficeTold (told : ℕ) (new : View) : Type 0 where
  pub faults : new.told ≡ next_count told

pub record OfficeStands (told : ℕ) (new : View) : Type 0 where
  pub faults : new.told ≡ told
  pub stands : new.stands
  pub left : Only new.register new

abbrev pub EndsWith : ℕ → View → RunFault → Type 0
EndsWith told new fault.Read = ⊥
EndsWith told new fault.Write = ⊥
EndsWith told new fault.Office = OfficeTold told new
EndsWith told new fault.Memory = OfficeStands told new

-- a crash leaves the register after at least `least` of these changes, and the office made that many or one fewer
pub record LeavesSome (changes : List Change) (least made : ℕ) (r : Register) (new : View) : Type 0 where
  pub kept : least ≤ made
  pub few : made ≤ length changes
  pub register : new.is_open → apply_all r (take made changes) ≡ Ok new.register
  pub left : (content : new.Content) → new.may_leave content → IsPrefix new.holds changes r least made content

module _ {R W : Type 0} (remaining : R → Option (List ℕ)) (contents : W → Option (List ℕ)) (book : BookData) where
  -- a job is done, as its entry says
  abbrev pub JobDone : Register → Entry → Job R W → Job R W → Type 0
  JobDone r (SessionEntry setting given stop) (job.Session old) (job.Session new) = SessionServed remaining contents book r setting given stop old new
  JobDone r (SessionEntry setting given stop) (job.Session old) (job.Call new) = ⊥
  JobDone r (SessionEntry setting given stop) (job.Call old) new = ⊥
  JobDone r (CallEntry deed stop) (job.Session old) new = ⊥
  JobDone r (CallEntry deed stop) (job.Call old) (job.Session new) = ⊥
  JobDone r (CallEntry deed stop) (job.Call old) (job.Call new) = CallCarriedOut contents book r deed stop old new

  -- jobs are done one after another
  abbrev pub JobsDone : Register → List Entry → List (Job R W) → List (Job R W) → Type 0
  JobsDone r [] [] [] = ⊤
  JobsDone r [] [] (new ∷ news) = ⊥
  JobsDone r [] (old ∷ olds) news = ⊥
  JobsDone r (e ∷ es) [] news = ⊥
  JobsDone r (e ∷ es) (old ∷ olds) [] = ⊥
  JobsDone r (e ∷ es) (old ∷ olds) (new ∷ news) = JobDone r e old new × JobsDone (share_of r e).register es olds news

  -- a job is cut short by an error
  abbrev pub SessionStops : Register → SessionJob R W → SessionJob R W → Stop → RunFault → Type 0
  SessionStops r old new stop fault.Read = ⊥
  SessionStops r old new stop fault.Write = ⊥
  SessionStops r old new stop fault.Office = SessionRefused remaining contents book r old new stop
  SessionStops r old new stop fault.Memory = SessionShort remaining contents book r old new stop

  abbrev pub CallStops : Register → CallJob W → CallJob W → Stop → RunFault → Type 0
  CallStops r old new stop fault.Read = ⊥
  CallStops r old new stop fault.Write = ⊥
  CallStops r old new stop fault.Office = CallRefused contents book r old new stop
  CallStops r old new stop fault.Memory = CallShort contents old new stop

  abbrev pub JobStops : Register → Job R W → Job R W → Stop → RunFault → Type 0
  JobStops r (job.Session old) (job.Session new) stop fault = SessionStops r old new stop fault
  JobStops r (job.Session old) (job.Call new) stop fault = ⊥
  JobStops r (job.Call old) (job.Session new) stop fault = ⊥
  JobStops r (job.Call old) (job.Call new) stop fault = CallStops r old new stop fault

  -- all jobs are done, and the register is the one after all of them
  pub record IsRun (r : Register) (told : ℕ) (new : View) (olds news : List (Job R W)) : Type 0 where
    pub entries : List Entry
    pub done : JobsDone r entries olds news
    pub register : new.register ≡ after_jobs r entries
    pub replay : apply_all r (changes_of r entries) ≡ Ok new.register
    pub stands : new.stands
    pub left : Only new.register new
    pub faults : new.told ≡ told

  -- The list ended within a job. Those before it are done, and those after it are unchanged. Of all changes of the jobs before it and of
  -- its own, at least those that were answered are made.
  pub record IsStopped (r : Register) (told : ℕ) (new : View) (olds news : List (Job R W)) (fault : RunFault) : Type 0 where
    pub entries : List Entry
    pub before : List (Job R W)
    pub after : List (Job R W)
    pub was : Job R W
    pub now : Job R W
    pub behind : List (Job R W)
    pub olds_are : olds ≡ before ++ was ∷ behind
    pub news_are : news ≡ after ++ now ∷ behind
    pub done : JobsDone r entries before after
    pub stop : Stop
    pub stops : JobStops (after_jobs r entries) was now stop fault
    pub leaves : LeavesSome (changes_of r entries ++ stop.changes) (length (changes_of r entries) + stop.answered) (length (changes_of r entries) + stop.made) r new
    pub ends : EndsWith told new fault

  -- what a list of jobs with this result has done
  abbrev pub Runs : {T : Type 0} → View → View → List (Job R W) → List (Job R W) → Result T RunFault → Type 0
  Runs old new olds news (Ok x) = IsRun old.register old.told new olds news
  Runs old new olds news (Err fault) = IsStopped old.register old.told new olds news fault
