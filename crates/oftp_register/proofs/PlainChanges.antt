-- What a change of one file does to a register in memory.
use Rattle.std.proofs.Common.{List, ◌≡◌, ℕ, ◌<◌, ◌&&◌, length, map, set, get_or, Some, None, Result, Err, refl, ap, ◌∙◌, nat_lt, nat_le, sym, arith}
use Rattle.std.proofs.lemmas.List.{length-map}
use Rattle.std.specs.Prelude.{Vec}
use Rattle.std.specs.Vec.{with_item, vec_len}
use Rattle.oftp_register.specs.declared.change.Cause.{Cause}
use Rattle.oftp_register.specs.declared.change.Cause.TheVariants.{Unknown}
use Rattle.oftp_register.specs.declared.office.OfficeFault.{OfficeFault}
use Rattle.oftp_register.specs.declared.plain.incoming.IncomingFile.{IncomingFile}
use Rattle.oftp_register.specs.declared.plain.outgoing.OutgoingFile.{OutgoingFile}
use Rattle.oftp_register.specs.declared.plain.lists.Lists.{Lists}
use Rattle.oftp_register.specs.Register.{Register, Incoming, Outgoing}
use Rattle.oftp_register.specs.Changes.{mapped, at_number, on_incoming, on_outgoing}
use Rattle.oftp_register.specs.Lists.{IsPlace, CarriesOut, incoming_of, outgoing_of, register_in}
use Rattle.oftp_register.proofs.Places.{at_number-outside, makes_at_number, makes_part}

-- a change of the entry with a number in one list of the register
changed_at : {S A T Z : Type 0} (view : S → A) (place : List A → Register) (f : A → Result A Cause) (files : Vec S Z) (o after : Lists) (n i len : ℕ) (x y : S) (result : Result T OfficeFault)
    → register_in o ≡ place (map view files.items) → register_in after ≡ place (map view (set files.items i y))
    → len ≡ vec_len files → IsPlace n len (Some i) → x ≡ get_or files.items i x → CarriesOut view (f (view x)) x y result
    → CarriesOut register_in (mapped place (at_number f n (map view files.items))) o after result
changed_at view place f files o after n i len x y result was now length_is at is h =
    let within : i < length files.items = omega (arith, at.1, length_is, files.ok.0) in
    makes_part (map view) register_in place (at_number f n (map view files.items)) files.items (set files.items i y) o after result was now
    (makes_at_number view f files.items n i x y result at.0 within is h)

-- a change of an entry that doesn't exist
unknown_at : {S A Z : Type 0} (view : S → A) (place : List A → Register) (f : A → Result A Cause) (files : Vec S Z) (n len : ℕ) → len ≡ vec_len files → IsPlace n len None
    → mapped place (at_number f n (map view files.items)) ≡ Err Unknown
unknown_at view place f files n len length_is h =
    let counted : length (map view files.items) ≡ len = length-map files.items view ∙ sym (length_is ∙ files.ok.0) in
    ap (mapped place) (at_number-outside f n (map view files.items) (ap (λ k. nat_lt 0 n && nat_le n k) counted ∙ h))

-- the register with other files
abbrev with_incoming : Lists → List Incoming → Register
with_incoming o files = record (register_in o) { incoming = files }

abbrev with_outgoing : Lists → List Outgoing → Register
with_outgoing o files = record (register_in o) { outgoing = files }

-- a change of an incoming file
pub incoming_changed : {T : Type 0} (f : Incoming → Result Incoming Cause) (o : Lists) (n i len : ℕ) (x y : IncomingFile) (result : Result T OfficeFault) → len ≡ vec_len o.incoming
    → IsPlace n len (Some i) → x ≡ get_or o.incoming.items i x → CarriesOut incoming_of (f (incoming_of x)) x y result
    → CarriesOut register_in (on_incoming f n (register_in o)) o (record o { incoming = with_item o.incoming i y }) result
incoming_changed f o n i len x y result =
    changed_at incoming_of (with_incoming o) f o.incoming o (record o { incoming = with_item o.incoming i y }) n i len x y result refl refl

pub incoming_unknown : (f : Incoming → Result Incoming Cause) (o : Lists) (n len : ℕ) → len ≡ vec_len o.incoming → IsPlace n len None → on_incoming f n (register_in o) ≡ Err Unknown
incoming_unknown f o n len = unknown_at incoming_of (with_incoming o) f o.incoming n len

-- a change of an outgoing file
pub outgoing_changed : {T : Type 0} (f : Outgoing → Result Outgoing Cause) (o : Lists) (n i len : ℕ) (x y : OutgoingFile) (result : Result T OfficeFault) → len ≡ vec_len o.outgoing
    → IsPlace n len (Some i) → x ≡ get_or o.outgoing.items i x → CarriesOut outgoing_of (f (outgoing_of x)) x y result
    → CarriesOut register_in (on_outgoing f n (register_in o)) o (record o { outgoing = with_item o.outgoing i y }) result
outgoing_changed f o n i len x y result =
    changed_at outgoing_of (with_outgoing o) f o.outgoing o (record o { outgoing = with_item o.outgoing i y }) n i len x y result refl refl

pub outgoing_unknown : (f : Outgoing → Result Outgoing Cause) (o : Lists) (n len : ℕ) → len ≡ vec_len o.outgoing → IsPlace n len None → on_outgoing f n (register_in o) ≡ Err Unknown
outgoing_unknown f o n len = unknown_at outgoing_of (with_outgoing o) f o.outgoing n len
