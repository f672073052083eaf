-- What a taker does with payloads, as functions (RFC 5024, section 7.2).
use Rattle.std.specs.Prelude.{ℕ, zero, suc, List, [], ◌∷◌, ◌+◌, length, take, drop, fold, nat_le, if◌then◌else◌, Option, None, Some, Result, Ok, Err}
use Rattle.std.specs.Option.{option_or}
use Rattle.std.specs.Result.{result_unwrap_or}
use Rattle.oftp_vfile.specs.declared.fault.TakeFault.{TakeFault}
use Rattle.oftp_vfile.specs.declared.fault.TakeFault.TheVariants.{Cut}
use Rattle.oftp_vfile.specs.Subrecord.{Subrecord, has_end, count_in}
use Rattle.oftp_vfile.specs.Taking.{Taking, added, fault_at}

-- the subrecord of a header and the octets after it
abbrev pub subrecord_in : ℕ → List ℕ → Subrecord
subrecord_in header rest = record { ends = has_end header; octets = take (count_in header) rest }

-- a fault, or a value where there is none
abbrev pub unless_fault : {A : Type 0} → Option TakeFault → A → Result A TakeFault
unless_fault (Some fault) x = Err fault
unless_fault None x = Ok x

-- what follows a value; a fault stays
abbrev pub then_go_on : {A B : Type 0} → Result A TakeFault → (A → Result B TakeFault) → Result B TakeFault
then_go_on (Ok x) f = f x
then_go_on (Err fault) f = Err fault

-- the fault of a header with `room` octets after it; a number that isn't an octet begins no subrecord
abbrev pub fault_before : Taking → ℕ → ℕ → Option TakeFault
fault_before t header room = option_or (fault_at t header room) (if nat_le 256 header then Some Cut else None)

-- a taker after the first n subrecords of a payload, or after all if these are fewer, or the fault of the first faulty one
unfoldable pub take_subrecords : ℕ → Taking → List ℕ → Result Taking TakeFault
take_subrecords zero t payload = Ok t
take_subrecords (suc n) t [] = Ok t
take_subrecords (suc n) t (header ∷ rest) =
    then_go_on (unless_fault (fault_before t header (length rest)) (added t (subrecord_in header rest)))
    (λ after. take_subrecords n after (drop (count_in header) rest))

-- a taker after a payload, or the fault of its first faulty subrecord
abbrev pub taken : Taking → List ℕ → Result Taking TakeFault
taken t payload = take_subrecords (length payload) t payload

-- a taker after payloads, of which a refused one leaves it unchanged
abbrev pub taken_all : Taking → List (List ℕ) → Taking
taken_all t payloads = fold (λ (was : Taking) payload. result_unwrap_or (taken was payload) was) t payloads

-- a taker from which its first k rows were removed
abbrev pub shed : ℕ → Taking → Taking
shed k t = record t { rows = drop k t.rows; away = t.away + k }

-- the result of a taker without its first k rows, where this is the result of the whole one
abbrev pub shed_in : ℕ → Result Taking TakeFault → Result Taking TakeFault
shed_in k (Ok t) = Ok (shed k t)
shed_in k (Err fault) = Err fault
