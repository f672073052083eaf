-- What a change that looks for an identity does to a register in memory.
use Rattle.std.proofs.Common.{◌≡◌, ℕ, ◌<◌, ◌≤◌, ◌+◌, zero, suc, Bool, true, false, cond, nat_le, List, [], ◌∷◌, ◌++◌, length, map, set, get_or, take, drop, Ok, Err, ap, sym, ◌∙◌, arith, add-one}
use Rattle.std.specs.List.{list_any}
use Rattle.std.proofs.lemmas.Bool.{cond-true, cond-false, le-leb, lt-leb}
use Rattle.std.proofs.lemmas.List.{append-nil, drop_all, length-map, map-append, take_all}
use Rattle.oftp_register.specs.declared.change.Cause.TheVariants.{Duplicate, Full}
use Rattle.oftp_register.specs.declared.plain.outgoing.OutgoingFile.{OutgoingFile}
use Rattle.oftp_register.specs.declared.plain.lists.Lists.{Lists}
use Rattle.oftp_register.specs.Register.{Outgoing, Received, has_received, same_identity}
use Rattle.oftp_register.specs.Changes.{filed, is_outgoing, submitted, settled}
use Rattle.oftp_register.specs.Lists.{outgoing_of, received_of, register_in}
use Rattle.oftp_register.proofs.NameLemmas.{list_any-map}

-- the views after an entry is put at the end
pub map_pushed : {A B : Type 0} (view : A → B) (xs ys : List A) (x : A) (b : B) → ys ≡ xs ++ x ∷ [] → view x ≡ b → map view xs ++ b ∷ [] ≡ map view ys
map_pushed view xs ys x b is same = sym (ap (map view) is ∙ map-append view xs (x ∷ []) ∙ ap (λ c. map view xs ++ c ∷ []) same)

-- a write at the place up to which a list is mapped
mapped_once_more : {A B : Type 0} (view : A → B) (g : B → B) (xs : List A) (i : ℕ) (x y : A) → i < length xs → x ≡ get_or xs i x → view y ≡ g (view x)
    → take (suc i) (map view (set xs i y)) ++ map g (drop (suc i) (map view (set xs i y))) ≡ take i (map view xs) ++ map g (drop i (map view xs))
mapped_once_more view g [] i x y within is made = absurd (omega arith)
mapped_once_more view g (z ∷ xs) zero x y within is made = ap (λ b. b ∷ map g (map view xs)) (made ∙ ap (λ a. g (view a)) is)
mapped_once_more view g (z ∷ xs) (suc i) x y within is made = ap (λ bs. view z ∷ bs) (mapped_once_more view g xs i x y (omega arith) is made)

pub mapped_more : {A B : Type 0} (view : A → B) (g : B → B) (xs : List A) (i : ℕ) (x y : A) → i < length xs → x ≡ get_or xs i x → view y ≡ g (view x)
    → take (i + 1) (map view (set xs i y)) ++ map g (drop (i + 1) (map view (set xs i y))) ≡ take i (map view xs) ++ map g (drop i (map view xs))
mapped_more view g xs i x y within is made = rw add-one (mapped_once_more view g xs i x y within is made)

pub mapped_all : {B : Type 0} (g : B → B) (bs : List B) (i : ℕ) → length bs ≤ i → bs ≡ take i bs ++ map g (drop i bs)
mapped_all g bs i past = sym (ap (λ rest. take i bs ++ map g rest) (drop_all i bs past) ∙ append-nil (take i bs) ∙ take_all i bs past)

-- a file that exists
pub submit_duplicate : (o : Lists) (file : Outgoing) (files : List OutgoingFile) (there : Bool) → files ≡ o.outgoing.items
    → there ≡ list_any (λ (f : OutgoingFile). same_identity f.identity file.identity) files → there ≡ true → submitted (register_in o) file ≡ Err Duplicate
submit_duplicate o file files there lent is found =
    let there = list_any-map (λ (f : Outgoing). same_identity f.identity file.identity) outgoing_of o.outgoing.items in
    let lent_there = ap (list_any (λ (f : OutgoingFile). same_identity f.identity file.identity)) (sym lent) in
    cond-true (is_outgoing (register_in o) file.identity) _ _ (there ∙ lent_there ∙ sym is ∙ found)

-- a new file
pub submit_new : (o : Lists) (file : Outgoing) (files : List OutgoingFile) (there : Bool) → files ≡ o.outgoing.items
    → there ≡ list_any (λ (f : OutgoingFile). same_identity f.identity file.identity) files → there ≡ false
    → let full = nat_le o.limits.files (length (map outgoing_of o.outgoing.items)) in
    submitted (register_in o) file ≡ cond full (Err Full) (Ok (record (register_in o) { outgoing = map outgoing_of o.outgoing.items ++ file ∷ [] }))
submit_new o file files there lent is new =
    let there = list_any-map (λ (f : Outgoing). same_identity f.identity file.identity) outgoing_of o.outgoing.items in
    let lent_there = ap (list_any (λ (f : OutgoingFile). same_identity f.identity file.identity)) (sym lent) in
    cond-false (is_outgoing (register_in o) file.identity) _ _ (there ∙ lent_there ∙ sym is ∙ new)

-- a table that is full or not
pub is_full : {S A : Type 0} (view : S → A) (xs : List S) (limit len n : ℕ) → n ≡ length xs → len ≡ n → limit ≤ len → nat_le limit (length (map view xs)) ≡ true
is_full view xs limit len n counted length_is full = le-leb limit _ (omega (arith, length-map xs view))

pub is_not_full : {S A : Type 0} (view : S → A) (xs : List S) (limit len n : ℕ) → n ≡ length xs → len ≡ n → len < limit → nat_le limit (length (map view xs)) ≡ false
is_not_full view xs limit len n counted length_is room = lt-leb limit _ (omega (arith, length-map xs view))

-- a response that exists
pub file_duplicate : (o : Lists) (response : Received) → has_received (register_in o) response.kind response.identity ≡ true → filed (register_in o) response ≡ Err Duplicate
file_duplicate o response found = cond-true (has_received (register_in o) response.kind response.identity) _ _ found

-- a new response
pub file_new : (o : Lists) (response : Received) → has_received (register_in o) response.kind response.identity ≡ false
    → let files = map (settled response.kind response.identity) (map outgoing_of o.outgoing.items) in
    filed (register_in o) response ≡ Ok (record (register_in o) { outgoing = files; received = map received_of o.received.items ++ response ∷ [] })
file_new o response new = cond-false (has_received (register_in o) response.kind response.identity) _ _ new
