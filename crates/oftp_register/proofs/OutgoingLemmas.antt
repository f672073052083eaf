-- What the changes of outgoing files preserve.
use Rattle.std.proofs.Common.{◌≡◌, ℕ, Bool, true, false, ◌&&◌, ◌||◌, nat_le, List, [], ◌∷◌, length, map, All, Ok, refl, ap, sym, ◌∙◌, subst, arith}
use Rattle.std.proofs.lemmas.Bool.{cond_both, and_parts, leb-true}
use Rattle.std.proofs.lemmas.List.Elements.{All-cons, All-head, All-tail, All-nil}
use Rattle.oftp_register.specs.declared.entry.Identity.{Identity}
use Rattle.oftp_register.specs.declared.entry.ResponseKind.{ResponseKind}
use Rattle.oftp_register.specs.declared.entry.OutgoingState.{OutgoingState}
use Rattle.oftp_register.specs.declared.entry.OutgoingState.TheVariants.{Waiting, Closing, Handed, Refused}
use Rattle.oftp_register.specs.Register.{Outgoing, same_identity}
use Rattle.oftp_register.specs.Changes.{answered, closing, handed, if_allowed, is_closing, is_waiting, marked, refused, reopened, settled}
use Rattle.oftp_register.specs.Soundness.{IsSoundOutgoing}

-- a change that is allowed
pub allowed_ok : (allowed : Bool) (file after : Outgoing) → if_allowed allowed file ≡ Ok after → (allowed ≡ true) × (file ≡ after)
allowed_ok true file after h = (refl, cc)
allowed_ok false file after h = absurd (cc)

-- another state
pub with_state_sound : (file : Outgoing) (state : OutgoingState) → IsSoundOutgoing file → IsSoundOutgoing (record file { state = state })
with_state_sound file state sound = record { longest = sound.longest; few = sound.few; fits = sound.fits; marked = sound.marked }

pub marked_sound : (rows : ℕ) (file after : Outgoing) → IsSoundOutgoing file → marked rows file ≡ Ok after → IsSoundOutgoing after
marked_sound rows file after sound h =
    let made = allowed_ok (is_waiting file.state && nat_le rows (length file.rows)) (record file { mark = rows }) after h in
    let within = and_parts (is_waiting file.state) (nat_le rows (length file.rows)) made.0 in
    subst IsSoundOutgoing made.1 (record { longest = sound.longest; few = sound.few; fits = sound.fits; marked = leb-true rows (length file.rows) within.1 })

pub closing_sound : (file after : Outgoing) → IsSoundOutgoing file → closing file ≡ Ok after → IsSoundOutgoing after
closing_sound file after sound h = subst IsSoundOutgoing (allowed_ok (is_waiting file.state) (record file { state = Closing }) after h).1 (with_state_sound file Closing sound)

pub handed_sound : (file after : Outgoing) → IsSoundOutgoing file → handed file ≡ Ok after → IsSoundOutgoing after
handed_sound file after sound h = subst IsSoundOutgoing (allowed_ok (is_closing file.state) (record file { state = Handed }) after h).1 (with_state_sound file Handed sound)

pub refused_sound : (reason : ℕ) (file after : Outgoing) → IsSoundOutgoing file → refused reason file ≡ Ok after → IsSoundOutgoing after
refused_sound reason file after sound h =
    subst IsSoundOutgoing (allowed_ok (is_waiting file.state || is_closing file.state) (record file { state = Refused reason }) after h).1 (with_state_sound file (Refused reason) sound)

pub reopened_sound : (file after : Outgoing) → IsSoundOutgoing file → reopened file ≡ Ok after → IsSoundOutgoing after
reopened_sound file after sound h =
    subst IsSoundOutgoing (allowed_ok (is_closing file.state) (record file { state = Waiting; mark = 0 }) after h).1
    (record { longest = sound.longest; few = sound.few; fits = sound.fits; marked = omega arith })

-- none of these changes the identity
pub marked_same : (rows : ℕ) (file after : Outgoing) → marked rows file ≡ Ok after → after.identity ≡ file.identity
marked_same rows file after h = ap (λ (f : Outgoing). f.identity) (sym (allowed_ok (is_waiting file.state && nat_le rows (length file.rows)) (record file { mark = rows }) after h).1)

pub closing_same : (file after : Outgoing) → closing file ≡ Ok after → after.identity ≡ file.identity
closing_same file after h = ap (λ (f : Outgoing). f.identity) (sym (allowed_ok (is_waiting file.state) (record file { state = Closing }) after h).1)

pub handed_same : (file after : Outgoing) → handed file ≡ Ok after → after.identity ≡ file.identity
handed_same file after h = ap (λ (f : Outgoing). f.identity) (sym (allowed_ok (is_closing file.state) (record file { state = Handed }) after h).1)

pub refused_same : (reason : ℕ) (file after : Outgoing) → refused reason file ≡ Ok after → after.identity ≡ file.identity
refused_same reason file after h = ap (λ (f : Outgoing). f.identity) (sym (allowed_ok (is_waiting file.state || is_closing file.state) (record file { state = Refused reason }) after h).1)

pub reopened_same : (file after : Outgoing) → reopened file ≡ Ok after → after.identity ≡ file.identity
reopened_same file after h = ap (λ (f : Outgoing). f.identity) (sym (allowed_ok (is_closing file.state) (record file { state = Waiting; mark = 0 }) after h).1)

-- a received response keeps the files sound and their identities
settled_sound : (kind : ResponseKind) (identity : Identity) (file : Outgoing) → IsSoundOutgoing file → IsSoundOutgoing (settled kind identity file)
settled_sound kind identity file sound =
    cond_both (same_identity file.identity identity) (record file { state = answered kind file.state }) file IsSoundOutgoing (λ _. with_state_sound file (answered kind file.state) sound) (λ _. sound)

pub all_settled_sound : (kind : ResponseKind) (identity : Identity) (files : List Outgoing) → All IsSoundOutgoing files → All IsSoundOutgoing (map (settled kind identity) files)
all_settled_sound kind identity [] all = All-nil IsSoundOutgoing
all_settled_sound kind identity (file ∷ files) all =
    let first = settled_sound kind identity file (All-head IsSoundOutgoing file files all) in
    let rest = all_settled_sound kind identity files (All-tail IsSoundOutgoing file files all) in
    All-cons IsSoundOutgoing (settled kind identity file) (map (settled kind identity) files) first rest

settled_same : (kind : ResponseKind) (identity : Identity) (file : Outgoing) → (settled kind identity file).identity ≡ file.identity
settled_same kind identity file =
    cond_both (same_identity file.identity identity) (record file { state = answered kind file.state }) file (λ (f : Outgoing). f.identity ≡ file.identity) (λ _. refl) (λ _. refl)

pub all_settled_same : (kind : ResponseKind) (identity : Identity) (files : List Outgoing)
    → map (λ (f : Outgoing). f.identity) (map (settled kind identity) files) ≡ map (λ (f : Outgoing). f.identity) files
all_settled_same kind identity [] = refl
all_settled_same kind identity (file ∷ files) =
    ap (λ x. x ∷ map (λ (f : Outgoing). f.identity) (map (settled kind identity) files)) (settled_same kind identity file)
    ∙ ap (λ xs. file.identity ∷ xs) (all_settled_same kind identity files)
