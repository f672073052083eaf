-- What a submission and a received response add to a register that accepts them.
use Rattle.std.proofs.Common.{◌≡◌, Bool, true, false, cond, nat_le, [], ◌∷◌, ◌++◌, length, map, Result, Ok, Err, refl}
use Rattle.oftp_register.specs.declared.change.Cause.{Cause}
use Rattle.oftp_register.specs.declared.change.Cause.TheVariants.{Duplicate, Full}
use Rattle.oftp_register.specs.Register.{Register, Outgoing, Received, has_received}
use Rattle.oftp_register.specs.Changes.{filed, is_outgoing, settled, submitted}

-- a result that isn't a refusal comes if its test fails
past : {A : Type 0} (test : Bool) (cause : Cause) (answer : Result A Cause) (x : A) → cond test (Err cause) answer ≡ Ok x → (test ≡ false) × (answer ≡ Ok x)
past true cause answer x h = absurd (cc)
past false cause answer x h = (refl, h)

same_ok : {A : Type 0} {x y : A} → ◌≡◌ {A = Result A Cause} (Ok x) (Ok y) → x ≡ y
same_ok h = cc

-- a file that is submitted is new, and is the last one
pub submitted_ok : (r s : Register) (file : Outgoing) → submitted r file ≡ Ok s → (is_outgoing r file.identity ≡ false) × (record r { outgoing = r.outgoing ++ file ∷ [] } ≡ s)
submitted_ok r s file h =
    let fresh = past (is_outgoing r file.identity) Duplicate _ s h in
    let room = past (nat_le r.limits.files (length r.outgoing)) Full _ s fresh.1 in
    (fresh.0, same_ok room.1)

-- a received response that is added is new, is the last one, and sets the state of its file
pub filed_ok : (r s : Register) (response : Received) → filed r response ≡ Ok s
    → (has_received r response.kind response.identity ≡ false)
    × (record r { outgoing = map (settled response.kind response.identity) r.outgoing; received = r.received ++ response ∷ [] } ≡ s)
filed_ok r s response h =
    let fresh = past (has_received r response.kind response.identity) Duplicate _ s h in
    (fresh.0, same_ok fresh.1)
