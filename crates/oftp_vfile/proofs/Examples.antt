-- Worked rows, which the definitions compute.
use Rattle.std.proofs.Common.{◌≡◌, ℕ, Bool, true, false, List, [], ◌∷◌, ◌++◌, replicate, refl, Some}
use Rattle.oftp_vfile.specs.declared.format.Format.{Format}
use Rattle.oftp_vfile.specs.declared.format.Format.TheVariants.{Fixed, Variable, Unstructured, Text}
use Rattle.oftp_vfile.specs.declared.taking.Stage.TheVariants.{Open, Ended}
use Rattle.oftp_vfile.specs.declared.fault.TakeFault.TheVariants.{Cut, Compressed, RecordSize, AfterEnd}
use Rattle.oftp_vfile.specs.Subrecord.{Subrecord}
use Rattle.oftp_vfile.specs.Carries.{pieces}
use Rattle.oftp_vfile.specs.Taking.{Taking, new_taking, added_all, fault_in, counts_of}
use Rattle.oftp_vfile.specs.Fill.{packed, fill_from, payloads_of, wholly_sent}
use Rattle.oftp_vfile.specs.LocalForm.{local_of}

record_of_130 : payloads_of Variable 127 (replicate 130 7 ∷ []) ≡ ((63 ∷ replicate 63 7) ++ (62 ∷ replicate 62 7)) ∷ (133 ∷ replicate 5 7) ∷ []
unfolding fill_from packed
record_of_130 = refl

empty_record : payloads_of Variable 127 ([] ∷ []) ≡ (128 ∷ []) ∷ []
unfolding fill_from packed
empty_record = refl

empty_stream : payloads_of Unstructured 127 [] ≡ (128 ∷ []) ∷ []
unfolding fill_from packed
empty_stream = refl

no_record : payloads_of Variable 127 [] ≡ []
unfolding fill_from packed
no_record = refl

empty_between : payloads_of Variable 5 ((65 ∷ 66 ∷ 67 ∷ []) ∷ [] ∷ (68 ∷ []) ∷ []) ≡ (131 ∷ 65 ∷ 66 ∷ 67 ∷ 128 ∷ []) ∷ (129 ∷ 68 ∷ []) ∷ []
unfolding fill_from packed
empty_between = refl

no_room_for_two : payloads_of Variable 5 ((65 ∷ 66 ∷ 67 ∷ []) ∷ (68 ∷ []) ∷ []) ≡ (131 ∷ 65 ∷ 66 ∷ 67 ∷ []) ∷ (129 ∷ 68 ∷ []) ∷ []
unfolding fill_from packed
no_room_for_two = refl

record_cut_in_two : payloads_of Variable 4 ((65 ∷ 66 ∷ 67 ∷ 68 ∷ []) ∷ []) ≡ (3 ∷ 65 ∷ 66 ∷ 67 ∷ []) ∷ (129 ∷ 68 ∷ []) ∷ []
unfolding fill_from packed
record_cut_in_two = refl

-- a subrecord
abbrev sub : Bool → List ℕ → Subrecord
sub ends octets = record { ends = ends; octets = octets }

-- a taker that has taken nothing
abbrev fresh : Format → ℕ → Taking
fresh format longest = new_taking format longest 0 0 8388608

text_open : added_all (fresh Text 0) (sub false (65 ∷ 66 ∷ []) ∷ []) ≡ record (fresh Text 0) { tail = 65 ∷ 66 ∷ []; units = 2; stage = Open }
text_open = refl

text_closed_later : added_all (fresh Text 0) (sub false (65 ∷ 66 ∷ []) ∷ sub true [] ∷ []) ≡ record (fresh Text 0) { tail = 65 ∷ 66 ∷ []; units = 2; stage = Ended }
text_closed_later = refl

text_counts : counts_of (added_all (fresh Text 0) (sub false (65 ∷ 66 ∷ []) ∷ sub true [] ∷ [])) ≡ (0, 2)
text_counts = refl

fixed_records : added_all (fresh Fixed 2) (sub true (65 ∷ 66 ∷ []) ∷ sub false (67 ∷ []) ∷ []) ≡ record (fresh Fixed 2) { rows = (65 ∷ 66 ∷ []) ∷ []; tail = 67 ∷ []; units = 3; stage = Open }
fixed_records = refl

fixed_pieces : pieces (sub true (65 ∷ 66 ∷ []) ∷ sub false (67 ∷ []) ∷ []) ≡ (65 ∷ 66 ∷ []) ∷ (67 ∷ []) ∷ []
fixed_pieces = refl

fixed_too_long : fault_in (added_all (fresh Fixed 2) (sub true (65 ∷ 66 ∷ []) ∷ sub false (67 ∷ []) ∷ [])) (130 ∷ 67 ∷ 68 ∷ []) ≡ Some RecordSize
fixed_too_long = refl

short_fixed_record : fault_in (fresh Fixed 3) (130 ∷ 65 ∷ 66 ∷ []) ≡ Some RecordSize
short_fixed_record = refl

compressed : fault_in (fresh Unstructured 0) (65 ∷ 97 ∷ []) ≡ Some Compressed
compressed = refl

cut : fault_in (fresh Unstructured 0) (5 ∷ 65 ∷ 66 ∷ []) ≡ Some Cut
cut = refl

after_the_end_flag : fault_in (added_all (fresh Unstructured 0) (sub true (65 ∷ []) ∷ [])) (128 ∷ []) ≡ Some AfterEnd
after_the_end_flag = refl

local_form : local_of Variable ((65 ∷ 66 ∷ 67 ∷ []) ∷ [] ∷ []) ≡ 48 ∷ 48 ∷ 48 ∷ 48 ∷ 51 ∷ 65 ∷ 66 ∷ 67 ∷ 48 ∷ 48 ∷ 48 ∷ 48 ∷ 48 ∷ []
local_form = refl

-- 1,124 octets of a stream in payloads of 125: the full block counts, and the short one never
eight_payloads : wholly_sent Unstructured 127 (replicate 1024 1 ∷ replicate 100 2 ∷ []) 8 ≡ 0
unfolding fill_from packed
eight_payloads = refl

nine_payloads : wholly_sent Unstructured 127 (replicate 1024 1 ∷ replicate 100 2 ∷ []) 9 ≡ 1
unfolding fill_from packed
nine_payloads = refl
