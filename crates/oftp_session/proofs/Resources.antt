-- No frame that may be sent is that of ESID 08, and no payload is refused for lack of memory.
use Rattle.std.proofs.Common.{◌≡◌, ◌≢◌, ℕ, zero, suc, ◌+◌, nat_le, nat_lt, ◌&&◌, Bool, true, false, cond, List, [], ◌∷◌, drop, length, Option, None, Some, Err, refl, sym, ap, ◌∙◌, arith}
use Rattle.std.specs.Option.{option_or}
use Rattle.oftp_wire.specs.Octets.{decimal}
use Rattle.oftp_wire.specs.declared.command.Command.{Command}
use Rattle.oftp_wire.specs.declared.command.Command.TheVariants as command
use Rattle.oftp_wire.specs.declared.reason.SessionReason.{SessionReason}
use Rattle.oftp_wire.specs.declared.reason.SessionReason.TheVariants.{Normal, CommandNotRecognised, ProtocolViolation, UserCodeNotKnown, InvalidPassword, InvalidData, BufferSizeError, ResourcesNotAvailable, ModeIncompatible, AuthenticationIncompatible}
use Rattle.oftp_vfile.specs.declared.fault.TakeFault.{TakeFault}
use Rattle.oftp_vfile.specs.declared.fault.TakeFault.TheVariants.{Memory}
use Rattle.oftp_vfile.specs.Reading.{fault_before, subrecord_in, take_subrecords, taken, then_go_on, unless_fault}
use Rattle.oftp_vfile.specs.Subrecord.{count_in, has_compression, has_end}
use Rattle.oftp_vfile.specs.Taking.{Taking, added, fault_at, is_ended, is_too_big, is_wrong_size}
use Rattle.oftp_vfile.specs.VirtualFile.{is_stream}
use Rattle.oftp_register.specs.declared.change.Change.{Change}
use Rattle.oftp_session.specs.Phases.{esid_of, frame_of, framed}
use Rattle.oftp_session.proofs.Outputs.{IsOther, MayBeSaid}

-- the frame of what a step may send isn't that of ESID 08: its command has another letter, or its reason another last digit

-- the octet of a frame that names its command
letter_in : List ℕ → ℕ
letter_in (a ∷ b ∷ c ∷ d ∷ letter ∷ rest) = letter
letter_in _ = 0

-- the last digit of an ESID's reason
digit_in : List ℕ → ℕ
digit_in (a ∷ b ∷ c ∷ d ∷ letter ∷ high ∷ low ∷ rest) = low
digit_in _ = 0

abbrev last : List ℕ
last = frame_of (esid_of ResourcesNotAvailable)

other_letter : (octets : List ℕ) (n : ℕ) → letter_in octets ≡ n → n ≢ 70 → letter_in last ≡ 70 → octets ≢ last
other_letter octets n is other last_is e = other (sym is ∙ ap letter_in e ∙ last_is)

other_digit : (octets : List ℕ) (n : ℕ) → digit_in octets ≡ n → n ≢ 56 → digit_in last ≡ 56 → octets ≢ last
other_digit octets n is other last_is e = other (sym is ∙ ap digit_in e ∙ last_is)

esid_framed : (reason : SessionReason) → IsOther reason → frame_of (esid_of reason) ≢ last
unfolding frame_of decimal letter_in digit_in
esid_framed Normal other = other_digit _ 48 refl (λ e. omega (arith, e)) refl
esid_framed CommandNotRecognised other = other_digit _ 49 refl (λ e. omega (arith, e)) refl
esid_framed ProtocolViolation other = other_digit _ 50 refl (λ e. omega (arith, e)) refl
esid_framed UserCodeNotKnown other = other_digit _ 51 refl (λ e. omega (arith, e)) refl
esid_framed InvalidPassword other = other_digit _ 52 refl (λ e. omega (arith, e)) refl
esid_framed InvalidData other = other_digit _ 54 refl (λ e. omega (arith, e)) refl
esid_framed BufferSizeError other = other_digit _ 55 refl (λ e. omega (arith, e)) refl
esid_framed ResourcesNotAvailable other = absurd (other refl)
esid_framed ModeIncompatible other = other_digit _ 48 refl (λ e. omega (arith, e)) refl
esid_framed AuthenticationIncompatible other = other_digit _ 50 refl (λ e. omega (arith, e)) refl

command_framed : (c : Command) (change : Option Change) → MayBeSaid (Some c) change → frame_of c ≢ last
unfolding frame_of letter_in
command_framed command.Ssrm change h = other_letter _ 73 refl (λ e. omega (arith, e)) refl
command_framed (command.Ssid s) change h = other_letter _ 88 refl (λ e. omega (arith, e)) refl
command_framed (command.Sfid s) change h = other_letter _ 72 refl (λ e. omega (arith, e)) refl
command_framed (command.Sfpa s) change h = other_letter _ 50 refl (λ e. omega (arith, e)) refl
command_framed (command.Sfna s) change h = other_letter _ 51 refl (λ e. omega (arith, e)) refl
command_framed (command.Data s) change h = other_letter _ 68 refl (λ e. omega (arith, e)) refl
command_framed command.Cdt change h = other_letter _ 67 refl (λ e. omega (arith, e)) refl
command_framed (command.Efid s) change h = other_letter _ 84 refl (λ e. omega (arith, e)) refl
command_framed (command.Efpa s) change h = other_letter _ 52 refl (λ e. omega (arith, e)) refl
command_framed (command.Efna s) change h = other_letter _ 53 refl (λ e. omega (arith, e)) refl
command_framed (command.Esid s) change h = λ e. esid_framed h.0 h.1 (ap frame_of (sym h.2) ∙ e)
command_framed command.Cd change h = other_letter _ 82 refl (λ e. omega (arith, e)) refl
command_framed (command.Eerp s) change h = other_letter _ 69 refl (λ e. omega (arith, e)) refl
command_framed (command.Nerp s) change h = other_letter _ 78 refl (λ e. omega (arith, e)) refl
command_framed command.Rtr change h = other_letter _ 80 refl (λ e. omega (arith, e)) refl

pub said_framed : (output : Option Command) (change : Option Change) → MayBeSaid output change → framed output ≢ last
unfolding frame_of letter_in
said_framed None change h = other_letter [] 0 refl (λ e. omega (arith, e)) refl
said_framed (Some c) change h = command_framed c change h

-- a payload that is refused has a fault of its own

abbrev IsNoWant : Option TakeFault → Type 0
IsNoWant found = found ≢ Some Memory

choice : (b : Bool) (x y : Option TakeFault) → IsNoWant x → IsNoWant y → IsNoWant (cond b x y)
choice true x y h k = h
choice false x y h k = k

first_of : (x y : Option TakeFault) → IsNoWant x → IsNoWant y → IsNoWant (option_or x y)
first_of None y h k = k
first_of (Some fault) y h k = h

header_no_want : (t : Taking) (h room : ℕ) → IsNoWant (fault_at t h room)
header_no_want t h room =
    choice (is_stream t.format && is_ended t.stage) _ _ (λ e. cc)
    (choice (has_compression h) _ _ (λ e. cc)
    (choice (nat_lt room (count_in h)) _ _ (λ e. cc)
    (choice (is_too_big t (has_end h) (count_in h)) _ _ (λ e. cc)
    (choice (is_wrong_size t.format t.longest (length t.tail + count_in h) (has_end h)) _ _ (λ e. cc) (λ e. cc)))))

before_no_want : (t : Taking) (h room : ℕ) → IsNoWant (fault_before t h room)
before_no_want t h room = first_of (fault_at t h room) _ (header_no_want t h room) (choice (nat_le 256 h) _ _ (λ e. cc) (λ e. cc))

subrecords_no_want : (n : ℕ) (t : Taking) (payload : List ℕ) → take_subrecords n t payload ≢ Err Memory
unfolding take_subrecords
subrecords_no_want zero t payload = λ e. cc
subrecords_no_want (suc n) t [] = λ e. cc
subrecords_no_want (suc n) t (h ∷ rest) = by (subrecords_no_want n) (fault_before t h (length rest)) (before_no_want t h (length rest))
  where
    by : ((after : Taking) (left : List ℕ) → take_subrecords n after left ≢ Err Memory) → (found : Option TakeFault) → IsNoWant found
        → then_go_on (unless_fault found (added t (subrecord_in h rest))) (λ after. take_subrecords n after (drop (count_in h) rest)) ≢ Err Memory
    by ih None k = ih (added t (subrecord_in h rest)) (drop (count_in h) rest)
    by ih (Some fault) k = λ e. k (let same : fault ≡ Memory = cc in ap (λ f. Some f) same)

pub taken_no_want : (t : Taking) (payload : List ℕ) → taken t payload ≢ Err Memory
taken_no_want t payload = subrecords_no_want (length payload) t payload
