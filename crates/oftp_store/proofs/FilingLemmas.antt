-- What a received response does to a register.
use Rattle.std.proofs.Common.{◌≡◌, ℕ, Bool, true, false, ◌||◌, List, [], ◌∷◌, ◌++◌, map, find, is_some, Some, None, Ok, Err, inl, inr, refl, sym, ap, subst, ◌∙◌, Bor}
use Rattle.std.specs.List.{list_any}
use Rattle.std.proofs.lemmas.Bool.{cases_Bool, cond-true, cond-false, or_parts}
use Rattle.oftp_register.specs.declared.change.Cause.TheVariants.{Duplicate}
use Rattle.oftp_register.specs.declared.entry.Identity.{Identity}
use Rattle.oftp_register.specs.declared.entry.OutgoingState.{OutgoingState}
use Rattle.oftp_register.specs.declared.entry.OutgoingState.TheVariants.{Waiting, Closing, Handed, Refused, Delivered, Returned}
use Rattle.oftp_register.specs.declared.entry.ResponseKind.{ResponseKind}
use Rattle.oftp_register.specs.declared.entries.OutgoingEntry.{OutgoingEntry}
use Rattle.oftp_register.specs.declared.entries.Side.TheVariants as side
use Rattle.oftp_register.specs.Register.{Register, Outgoing, has_received, same_identity}
use Rattle.oftp_register.specs.Changes.{answered, answered_as, apply, settled}
use Rattle.oftp_register.specs.LookUps.{look_out, outgoing_entry}
use Rattle.oftp_register.specs.Soundness.{AreNamedOnce, IsSound}
use Rattle.oftp_register.proofs.ByIdentityLemmas.{same_self}
use Rattle.oftp_register.proofs.NameLemmas.{same_identity-true}
use Rattle.oftp_store.specs.Edits.{file_of, outgoing_edit, received_with}
use Rattle.oftp_store.specs.Numbers.{file_number}
use Rattle.oftp_store.specs.FileProgress.{outgoing_progress_of}
use Rattle.oftp_store.specs.Reads.{IsPlaced, IsToldOf}
use Rattle.oftp_store.specs.ResponseMatches.{IsResponseMatchOf, Settles, is_awaiting}
use Rattle.oftp_store.specs.declared.changes.edit.Edit.{Edit}
use Rattle.oftp_store.specs.declared.changes.edit.EditKind.TheVariants.{AddReceived}
use Rattle.oftp_store.specs.declared.changes.edit.NewReceived.{NewReceived}
use Rattle.oftp_store.specs.declared.queries.response_match.ResponseMatch.TheVariants as response_match
use Rattle.oftp_store.specs.declared.queries.response_match.SettledFile.{SettledFile}
use Rattle.oftp_store.specs.declared.queries.progress.OutgoingProgress.{OutgoingProgress}
use Rattle.oftp_store.proofs.CommitLemmas.{IsMadeBy}
use Rattle.oftp_store.proofs.FirstLemmas.{same_by_number}
use Rattle.oftp_store.proofs.NumberLemmas.{entry_known}
use Rattle.oftp_store.proofs.AllocationLemmas.{known_out}

-- ---- the file whose state a response sets

-- the identity of a file
abbrev pub name_of : Outgoing → Identity
name_of f = f.identity

-- none of these files has the identity
unsettled : (kind : ResponseKind) (it : Identity) (files : List Outgoing) → list_any (λ (f : Outgoing). same_identity f.identity it) files ≡ false → map (settled kind it) files ≡ files
unsettled kind it [] h = refl
unsettled kind it (f ∷ files) h =
    let parts = or_parts (same_identity f.identity it) (list_any (λ (f : Outgoing). same_identity f.identity it) files) h in
    ap (λ g. g ∷ map (settled kind it) files) (cond-false (same_identity f.identity it) _ f parts.0) ∙ ap (λ gs. f ∷ gs) (unsettled kind it files parts.1)

-- identities differ, in either order
turned : (a b : Identity) → same_identity a b ≡ false → same_identity b a ≡ false
turned a b h = elim (cases_Bool (same_identity b a)) [
  | inl same ↦ absurd (let is : b ≡ a = same_identity-true b a same in let self : same_identity a b ≡ true = ap (same_identity a) is ∙ same_self a in let no_such = sym h ∙ self in cc)
  | inr other ↦ other
]

others : (it : Identity) (files : List Outgoing) → list_any (λ i. same_identity it i) (map name_of files) ≡ false → list_any (λ (f : Outgoing). same_identity f.identity it) files ≡ false
others it [] h = refl
others it (f ∷ files) h =
    let parts = or_parts (same_identity it f.identity) (list_any (λ i. same_identity it i) (map name_of files)) h in
    ap (λ b. b || list_any (λ (f : Outgoing). same_identity f.identity it) files) (turned it f.identity parts.0) ∙ others it files parts.1

-- no file behind another has the same identity
pub no_other : (it : Identity) (f : Outgoing) (files : List Outgoing) → AreNamedOnce (map name_of (f ∷ files)) → f.identity ≡ it
    → list_any (λ (g : Outgoing). same_identity g.identity it) files ≡ false
no_other it f files once is = others it files (ap (λ j. list_any (λ i. same_identity j i) (map name_of files)) (sym is) ∙ once.0)

-- an identity differs from that of a file among others
not_that : (it : Identity) (before : List Outgoing) (f : Outgoing) (after : List Outgoing)
    → list_any (λ i. same_identity it i) (map name_of (before ++ f ∷ after)) ≡ false → same_identity it f.identity ≡ false
not_that it [] f after h = (or_parts (same_identity it f.identity) (list_any (λ i. same_identity it i) (map name_of after)) h).0
not_that it (b ∷ before) f after h = not_that it before f after (or_parts (same_identity it b.identity) (list_any (λ i. same_identity it i) (map name_of (before ++ f ∷ after))) h).1

settled_there : (kind : ResponseKind) (it : Identity) (before : List Outgoing) (f : Outgoing) (after : List Outgoing) → AreNamedOnce (map name_of (before ++ f ∷ after)) → f.identity ≡ it
    → map (settled kind it) (before ++ f ∷ after) ≡ before ++ (record f { state = answered kind f.state }) ∷ after
settled_there kind it [] f after once is =
    let own : same_identity f.identity it ≡ true = ap (λ i. same_identity i it) is ∙ same_self it in
    ap (λ g. g ∷ map (settled kind it) after) (cond-true (same_identity f.identity it) (record f { state = answered kind f.state }) f own)
    ∙ ap (λ gs. let g : Outgoing = record f { state = answered kind f.state } in g ∷ gs)
    (unsettled kind it after (no_other it f after once is))
settled_there kind it (b ∷ before) f after once is =
    let other : same_identity b.identity it ≡ false = ap (same_identity b.identity) (sym is) ∙ not_that b.identity before f after once.0 in
    ap (λ g. g ∷ map (settled kind it) (before ++ f ∷ after)) (cond-false (same_identity b.identity it) _ b other) ∙ ap (λ gs. b ∷ gs) (settled_there kind it before f after once.1 is)

-- ---- what the look-up of that file returns

-- no file has the identity
pub settles_none : (r : Register) (it : Identity) → file_number r side.Outgoing it ≡ None → Settles r it None
settles_none r it none kind = unsettled kind it r.outgoing (sym (known_out r it) ∙ ap is_some none)

-- the file with the number of an identity has this identity
named_so : (r : Register) (it : Identity) (n : ℕ) (before : List Outgoing) (f : Outgoing) (after : List Outgoing) → file_number r side.Outgoing it ≡ Some n
    → IsPlaced r.outgoing n before f after → f.identity ≡ it
named_so r it n before f after some placed =
    let found : look_out r it ≡ Some (outgoing_entry n f) =
    sym (same_by_number outgoing_entry (λ (e : OutgoingEntry). e.no) (λ n x. refl) (λ (e : OutgoingEntry). same_identity e.identity it) n 1 r.outgoing some)
    ∙ entry_known outgoing_entry (λ (e : OutgoingEntry). e.no) (λ n x. refl) n r.outgoing before f after placed in
    same_identity-true f.identity it (passes (λ (e : OutgoingEntry). same_identity e.identity it) _ (outgoing_entry n f) found)
  where
    passes : (p : OutgoingEntry → Bool) (es : List OutgoingEntry) (e : OutgoingEntry) → find p es ≡ Some e → p e ≡ true
    passes p [] e h = absurd (let no_such = h in cc)
    passes p (x ∷ es) e h = elim (cases_Bool (p x)) [
      | inl has ↦ (let same : Some x ≡ Some e = sym (cond-true (p x) (Some x) (find p es) has) ∙ h in let is : x ≡ e = cc in ap p (sym is) ∙ has)
      | inr hasnt ↦ passes p es e (sym (cond-false (p x) (Some x) (find p es) hasnt) ∙ h)
    ]

-- a response doesn't change a file that isn't awaiting one

left_alone : (kind : ResponseKind) (state : OutgoingState) → is_awaiting state ≡ false → answered kind state ≡ state
left_alone kind Waiting h = refl
left_alone kind Closing h = absurd (let no_such = h in cc)
left_alone kind Handed h = absurd (let no_such = h in cc)
left_alone kind (Refused reason) h = refl
left_alone kind Delivered h = refl
left_alone kind Returned h = refl

answers_it : (kind : ResponseKind) (state : OutgoingState) → is_awaiting state ≡ true → answered kind state ≡ answered_as kind
answers_it kind Waiting h = absurd (let no_such = h in cc)
answers_it kind Closing h = refl
answers_it kind Handed h = refl
answers_it kind (Refused reason) h = absurd (let no_such = h in cc)
answers_it kind Delivered h = absurd (let no_such = h in cc)
answers_it kind Returned h = absurd (let no_such = h in cc)

placed_once : (r : Register) (n : ℕ) (before : List Outgoing) (f : Outgoing) (after : List Outgoing) → IsSound r → IsPlaced r.outgoing n before f after
    → AreNamedOnce (map name_of (before ++ f ∷ after))
placed_once r n before f after sound placed = subst (λ files. AreNamedOnce (map name_of files)) placed.here sound.outgoing_once

-- its file is one that a response doesn't change
pub settles_nothing : (r : Register) (it : Identity) (n : ℕ) (progress : OutgoingProgress) → IsSound r → file_number r side.Outgoing it ≡ Some n
    → IsToldOf outgoing_progress_of r.outgoing n (Some progress)
    → is_awaiting progress.state ≡ false → Settles r it None
settles_nothing r it n progress sound some (before, f, after, placed, is) off kind =
    ap (map (settled kind it)) placed.here
    ∙ settled_there kind it before f after (placed_once r n before f after sound placed) (named_so r it n before f after some placed)
    ∙ ap (λ st. before ++ (record f { state = st }) ∷ after) (left_alone kind f.state (sym (ap (λ (s : OutgoingProgress). is_awaiting s.state) is) ∙ off))
    ∙ sym placed.here

-- its file is one whose state a response sets
pub settles_it : (r : Register) (it : Identity) (n : ℕ) (progress : OutgoingProgress) → IsSound r → file_number r side.Outgoing it ≡ Some n
    → IsToldOf outgoing_progress_of r.outgoing n (Some progress) → is_awaiting progress.state ≡ true
    → (let found : SettledFile = record { no = n; mark = progress.mark } in Settles r it (Some found))
settles_it r it n progress sound some (before, f, after, placed, is) on = (
  before,
  f,
  after,
  placed,
  ap (λ (s : OutgoingProgress). s.mark) is,
  λ kind.
      ap (map (settled kind it)) placed.here
      ∙ settled_there kind it before f after (placed_once r n before f after sound placed) (named_so r it n before f after some placed)
      ∙ ap (λ st. before ++ (record f { state = st }) ∷ after) (answers_it kind f.state (sym (ap (λ (s : OutgoingProgress). is_awaiting s.state) is) ∙ on)),
)

-- ---- the change

pub duplicate_file : (r : Register) (x : NewReceived) → IsResponseMatchOf r x.kind x.identity.now response_match.Duplicate → apply r (file_of x) ≡ Err Duplicate
unfolding apply
duplicate_file r x filed = cond-true (has_received r x.kind x.identity.now) _ _ filed

-- the edit that adds the response
abbrev pub response_edit : ℕ → Bor NewReceived → Edit
response_edit n response = record { no = n; kind = AddReceived response }

pub made_by_file : (r : Register) (response : Bor NewReceived) (n : ℕ)
    → (let x = response.now in IsResponseMatchOf r x.kind x.identity.now (response_match.Unmatched n) → IsMadeBy (response_edit n response ∷ []) r (file_of x))
unfolding apply
made_by_file r response n alone =
    let x = response.now in
    let all = r.received ++ received_with x ∷ [] in
    let s : Register = record r { received = all } in
    record {
      now = s;
      is = cond-false (has_received r x.kind x.identity.now) _ _ alone.0 ∙ ap (λ files. let q : Register = record r { outgoing = files; received = all } in Ok q) (alone.2 x.kind);
      limits = refl;
      edited = (s, (record { number = alone.1 }, refl), refl);
    }

pub made_by_settling : (r : Register) (response : Bor NewReceived) (n : ℕ) (found : SettledFile)
    → (let x = response.now in IsResponseMatchOf r x.kind x.identity.now (response_match.Matched n found)
    → IsMadeBy (outgoing_edit found.no found.mark (answered_as x.kind) ∷ response_edit n response ∷ []) r (file_of x))
unfolding apply
made_by_settling r response n found (new, number, (before, f, after, placed, mark, settles)) =
    let x = response.now in
    let all = r.received ++ received_with x ∷ [] in
    let g : Outgoing = record f { mark = found.mark; state = answered_as x.kind } in
    let mid : Register = record r { outgoing = before ++ g ∷ after } in
    let s : Register = record r { outgoing = before ++ g ∷ after; received = all } in
    record {
      now = s;
      is =
          cond-false (has_received r x.kind x.identity.now) _ _ new
          ∙ ap (λ files. let q : Register = record r { outgoing = files; received = all } in Ok q)
          (settles x.kind ∙ ap (λ m. before ++ (record f { mark = m; state = answered_as x.kind }) ∷ after) (sym mark));
      limits = refl;
      edited = (
        mid,
        record { before = before; file = f; after = after; here = placed.here; number = placed.number; was = tt; now = refl },
        (s, (record { number = number }, refl), refl),
      );
    }
