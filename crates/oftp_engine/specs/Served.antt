-- What a served session leaves, and what it has out: the whole run over the octets that the reader gave.
use Rattle.std.specs.Prelude.{◌≡◌, false, ℕ, ◌+◌, ◌-◌, ◌<◌, ◌≤◌, ◌⊎◌, List, ◌++◌, length, take, Option, None, Some, Result, Ok, Err}
use Rattle.std.specs.Io.KnownBytes.{Consumes}
use Rattle.oftp_session.specs.Phases.{Step, is_over}
use Rattle.oftp_register.specs.declared.change.Change.{Change}
use Rattle.oftp_register.specs.Register.{Register}
use Rattle.oftp_register.specs.Changes.{apply_all}
use Rattle.oftp_register.specs.Offices.{View, Only, next_count}
use Rattle.oftp_engine.specs.declared.limits.TheConstants.{PIECE}
use Rattle.oftp_engine.specs.declared.serving.End.{End}
use Rattle.oftp_session.specs.Settings.{Setting}
use Rattle.oftp_partners.specs.Book.{BookData}
use Rattle.oftp_partners.specs.declared.partner.Partner.{Partner as Entry}
use Rattle.oftp_engine.specs.declared.serving.Role.{Role}
use Rattle.oftp_engine.specs.declared.serving.Role.TheVariants.{Responder, Initiator}
use Rattle.oftp_engine.specs.declared.serving.End.TheVariants.{Own, Partner, Input}
use Rattle.oftp_io.specs.declared.port.Port.{Port}
use Rattle.oftp_engine.specs.declared.serving.RunFault.{RunFault}
use Rattle.oftp_engine.specs.declared.serving.RunFault.TheVariants as fault
use Rattle.oftp_io.specs.Ports.{IsDone}
use Rattle.oftp_engine.specs.Runs.{Course, Output, advance, run, started, octets_of, ending, answered}
use Rattle.oftp_engine.specs.Serving.{MayRunOut, Scene, Took, IsSaid, last_frame}

-- The octets that a reader gave in a call. They are as many as its port counts, and at most what the port's limit left. They are the next
-- ones that it had, if these are known.
pub record Gave {R : Type 0} (remaining : R → Option (List ℕ)) (old new : Port R) (given : List ℕ) : Type 0 where
  pub bytes : Consumes (remaining old.inner) (remaining new.inner) given
  pub count : new.moved ≡ old.moved + length given
  pub within : length given ≤ old.most - old.moved
  pub most : new.most ≡ old.most

-- the session over these octets, from a register
abbrev pub whole : Setting → List ℕ → Register → Course
whole setting given r = run None given (started setting r)

-- the session over these octets, from a register, whose writer had taken this many octets when it returned an error
abbrev pub broken_off : Setting → ℕ → List ℕ → Register → Course
broken_off setting taken given r = run (Some taken) given (started setting r)

-- What a crash leaves holds the register after n of these changes, all made, where n is at least `low`. The office's register is the one
-- after n or n - 1 of them.
pub record IsPrefix {C : Type 0} (holds' : C → Register → Type 0) (changes : List Change) (r : Register) (low made : ℕ) (content : C) : Type 0 where
  pub count : ℕ
  pub least : low ≤ count
  pub most : count ≤ length changes
  pub near : (made ≡ count) ⊎ (made + 1 ≡ count)
  pub register : Register
  pub replay : apply_all r (take count changes) ≡ Ok register
  pub holds : holds' content register

abbrev pub OfficeLeaves : Course → Register → ℕ → ℕ → View → Type 0
OfficeLeaves c r least made now = (content : now.Content) → now.may_leave content → IsPrefix now.holds c.changes r least made content

-- the last piece that was read, of PIECE octets at most, was needed: the session was still open before it
pub record IsNeeded (setting : Setting) (r : Register) (given : List ℕ) : Type 0 where
  pub before : List ℕ
  pub last : List ℕ
  pub all : given ≡ before ++ last
  pub piece : length last ≤ PIECE
  pub some : 0 < length given → 0 < length last
  pub live : 0 < length last → is_over (whole setting before r).phase ≡ false

-- The session stopped within a step, after these outputs and this many changes, with the change of that step made or not. With the octets
-- that follow it would have gone on like this.
pub record StopsWithin (setting : Setting) (given : List ℕ) (r : Register) (outs : List Output) (made : ℕ) : Type 0 where
  pub at : Course
  pub step : Step
  pub rest : List ℕ
  pub goes_on : whole setting given r ≡ run None rest (advance at step)
  pub outputs : at.outputs ≡ outs
  pub changes : at.changes ≡ take (length at.changes) (whole setting given r).changes
  pub register : apply_all r at.changes ≡ Ok at.register
  pub within : (made ≡ length at.changes) ⊎ (made ≡ length (advance at step).changes)

-- The session stopped between two of its steps, after these outputs and this many changes. With the octets that aren't answered yet it
-- would have gone on like this.
pub record StopsBetween (setting : Setting) (given : List ℕ) (r : Register) (outs : List Output) (made : ℕ) : Type 0 where
  pub at : Course
  pub gone : List ℕ
  pub rest : List ℕ
  pub all : given ≡ gone ++ rest
  pub goes_on : whole setting given r ≡ run None rest at
  pub cause : MayRunOut at.phase rest
  pub outputs : at.outputs ≡ outs
  pub changes : at.changes ≡ take made (whole setting given r).changes
  pub register : apply_all r at.changes ≡ Ok at.register

module _ (setting : Setting) (given : List ℕ) (old new : Scene) where
  -- the session from the register that the office had
  abbrev pub course : Course
  course = whole setting given old.office.register

  -- the same, where its writer returned an error after this many octets
  abbrev pub cut_off : ℕ → Course
  cut_off taken = broken_off setting taken given old.office.register

  -- all outputs are out, and the register is the run's
  pub record IsWhole : Type 0 where
    pub out : Took old new (octets_of course.outputs)
    pub register : new.office.register ≡ course.register
    pub replay : apply_all old.office.register course.changes ≡ Ok new.office.register
    pub stands : new.office.stands
    pub left : Only new.office.register new.office
    pub faults : new.office.told ≡ old.office.told
    pub told : new.told ≡ old.told

  -- the writer returned an error: a beginning of the outputs is out, as long as what it took, and the session stopped there
  pub record IsBrokenOff : Type 0 where
    pub taken : ℕ
    pub short : taken < length (octets_of (cut_off taken).outputs)
    pub out : Took old new (take taken (octets_of (cut_off taken).outputs))
    pub register : new.office.register ≡ (cut_off taken).register
    pub replay : apply_all old.office.register (cut_off taken).changes ≡ Ok new.office.register
    pub stands : new.office.stands
    pub left : Only new.office.register new.office
    pub faults : new.office.told ≡ old.office.told
    pub told : new.told ≡ next_count old.told

  -- The office returned an error. Whole outputs are out, and after them ESID 08 or as much of it as the writer took before it returned an
  -- error. The register is the one after some changes. They are at least those that were answered, and at most those up to the step in
  -- which the session stopped.
  pub record IsOfficeFault : Type 0 where
    pub outs : List Output
    pub later : List Output
    pub outputs : course.outputs ≡ outs ++ later
    pub count : ℕ
    pub out : Took old new (octets_of outs ++ take count last_frame)
    pub said : IsSaid old new count
    pub made : ℕ
    pub kept : answered outs (length (octets_of outs)) ≤ made
    pub few : made ≤ length course.changes
    pub stopped : StopsWithin setting given old.office.register outs made
    pub register : new.office.is_open → apply_all old.office.register (take made course.changes) ≡ Ok new.office.register
    pub left : OfficeLeaves course old.office.register (answered outs (length (octets_of outs))) made new.office
    pub within : OfficeLeaves (advance stopped.at stopped.step) old.office.register (answered outs (length (octets_of outs))) made new.office
    pub faults : new.office.told ≡ next_count old.office.told

  -- out of memory: a beginning of the outputs is out, and nothing of the next step is made
  pub record IsOutOfMemory : Type 0 where
    pub outs : List Output
    pub later : List Output
    pub outputs : course.outputs ≡ outs ++ later
    pub out : Took old new (octets_of outs)
    pub made : ℕ
    pub kept : answered outs (length (octets_of outs)) ≤ made
    pub few : made ≤ length course.changes
    pub stopped : StopsBetween setting given old.office.register outs made
    pub register : apply_all old.office.register (take made course.changes) ≡ Ok new.office.register
    pub stands : new.office.stands
    pub left : Only new.office.register new.office
    pub faults : new.office.told ≡ old.office.told
    pub told : new.told ≡ old.told

  -- the session ended like this, and nothing was read that it didn't need
  pub record IsServed (end : End) : Type 0 where
    pub all : IsWhole
    pub ends : end ≡ ending course.phase
    pub needed : IsNeeded setting old.office.register given

  -- the reader returned an error while the session was open
  pub record IsCutShort : Type 0 where
    pub all : IsWhole
    pub live : is_over course.phase ≡ false

abbrev pub ServesErr : Setting → List ℕ → Scene → Scene → RunFault → Type 0
ServesErr setting given old new fault.Read = IsCutShort setting given old new
ServesErr setting given old new fault.Write = IsBrokenOff setting given old new
ServesErr setting given old new fault.Office = IsOfficeFault setting given old new
ServesErr setting given old new fault.Memory = IsOutOfMemory setting given old new

-- what a call with this result has done
abbrev pub Serves : Setting → List ℕ → Scene → Scene → Result End RunFault → Type 0
Serves setting given old new (Ok end) = IsServed setting given old new end
Serves setting given old new (Err fault) = ServesErr setting given old new fault

-- the errors of a reader in a call with this result
abbrev pub ReaderErr : {R : Type 0} → Port R → Port R → RunFault → Type 0
ReaderErr old new fault.Read = new.faults ≡ next_count old.faults
ReaderErr old new fault.Write = new.faults ≡ old.faults
ReaderErr old new fault.Office = new.faults ≡ old.faults
ReaderErr old new fault.Memory = new.faults ≡ old.faults

abbrev pub ReaderTold : {R : Type 0} → Port R → Port R → Result End RunFault → Type 0
ReaderTold old new (Ok end) = new.faults ≡ old.faults
ReaderTold old new (Err fault) = ReaderErr old new fault

-- the errors of a writer in a call with this result. After an error of the office, one of the writer within ESID 08 isn't returned.
abbrev pub WriterErr : {W : Type 0} → Port W → Port W → RunFault → Type 0
WriterErr old new fault.Read = new.faults ≡ old.faults
WriterErr old new fault.Write = new.faults ≡ next_count old.faults
WriterErr old new fault.Office = (new.faults ≡ old.faults) ⊎ (new.faults ≡ next_count old.faults)
WriterErr old new fault.Memory = new.faults ≡ old.faults

abbrev pub WriterTold : {T W : Type 0} → Port W → Port W → Result T RunFault → Type 0
WriterTold old new (Ok x) = new.faults ≡ old.faults
WriterTold old new (Err fault) = WriterErr old new fault

-- A session ends by the end of its input only if no octet is left. At any other end the port sees no end of input.
abbrev pub EndSeen : {R : Type 0} → (R → Option (List ℕ)) → Port R → Port R → End → Type 0
EndSeen remaining old new (Own reason) = new.ended ≡ old.ended
EndSeen remaining old new (Partner reason) = new.ended ≡ old.ended
EndSeen remaining old new Input = IsDone remaining new

-- the same for each result: a session that is cut short sees no end of input
abbrev pub InputEnded : {R : Type 0} → (R → Option (List ℕ)) → Port R → Port R → Result End RunFault → Type 0
InputEnded remaining old new (Ok end) = EndSeen remaining old new end
InputEnded remaining old new (Err fault) = new.ended ≡ old.ended

-- the partner that a session calls
abbrev pub called_in : Role → Option Entry
called_in Responder = None
called_in (Initiator partner) = Some partner.now

-- what doesn't change in a session of this role
abbrev pub setting_of : BookData → Role → Setting
setting_of book role = record { book = book; called = called_in role }
