-- What an office and a writer show while a session is served.
use Rattle.std.specs.Prelude.{◌≡◌, ℕ, ◌+◌, ◌<◌, ◌%◌, ◌^◌, ◌⊎◌, List, length, Option, Result, IfErr}
use Rattle.std.specs.Io.KnownBytes.{Appends}
use Rattle.oftp_wire.specs.declared.reason.SessionReason.TheVariants.{ResourcesNotAvailable}
use Rattle.oftp_register.specs.Offices.{View, next_count}
use Rattle.oftp_session.specs.Phases.{Phase, Transfer, Sending, frame_of, esid_of}
use Rattle.oftp_session.specs.declared.state.Contact.{Contact}
use Rattle.oftp_io.specs.declared.port.Port.{Port}

-- This holds on a clean store. The store reads what was written up to the end of a call, and the office was open before it.
abbrev pub OnCleanStore : View → View → Type 0 → Type 0
OnCleanStore old new holds = new.clean → old.stands → holds

-- a store that is clean after a call was clean before it
abbrev pub WasClean : View → View → Type 0
WasClean old new = new.clean → old.clean

-- a call returns no other error than this one
abbrev pub FailsOnlyBy : {T E : Type 0} → E → Result T E → Type 0
FailsOnlyBy fault result = IfErr result (λ other. other ≡ fault)

-- the frame that is sent last after an error of the office
abbrev pub last_frame : List ℕ
last_frame = frame_of (esid_of ResourcesNotAvailable)

-- What an office and a writer show: the office's view, and the contents of the writer. Also how many octets the writer took, and
-- how many errors it returned. The counts run modulo 2^64.
pub record Scene : Type 1 where
  pub office : View
  pub contents : Option (List ℕ)
  pub taken : ℕ
  pub told : ℕ

-- the writer took these octets
pub record Took (old new : Scene) (octets : List ℕ) : Type 0 where
  pub contents : Appends old.contents new.contents octets
  pub taken : new.taken % 2 ^ 64 ≡ (old.taken + length octets) % 2 ^ 64

-- this many octets of the last frame are out: all, or fewer if the writer returned an error
abbrev pub IsSaid : Scene → Scene → ℕ → Type 0
IsSaid old new count = ((count ≡ length last_frame) × (new.told ≡ old.told)) ⊎ ((count < length last_frame) × (new.told ≡ next_count old.told))

-- memory may run out where octets arrived that aren't answered yet, and while a file is sent
abbrev pub MayRunOut : Phase → List ℕ → Type 0
MayRunOut p rest = (0 < length rest) ⊎ (contact : Contact) × (transfer : Transfer) × (p ≡ Sending contact transfer)

-- the scene of an office and a writer's port
abbrev pub scene : {W : Type 0} → (W → Option (List ℕ)) → View → Port W → Scene
scene contents office port = record { office = office; contents = contents port.inner; taken = port.moved; told = port.faults }
