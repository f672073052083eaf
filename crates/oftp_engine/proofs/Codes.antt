-- Among others the promise of two stations isn't kept of all files: a file of a third partner may be whole at the one.
use Rattle.std.proofs.Common.{◌≡◌, ℕ, suc, ◌≤◌, Bool, true, false, cond, nat_le, List, [], ◌∷◌, length, Option, None, Some, Result, Ok, Err, refl, ap, sym, ◌∙◌, subst, inl, inr, arith}
use Rattle.std.proofs.lemmas.Bool.{cases_Bool, cond-true, cond-false}
use Rattle.std.proofs.lemmas.Bool.Decides.{nat_tests}
use Rattle.std.proofs.lemmas.List.Elements.{All-cons, All-nil}
use Rattle.std.proofs.lemmas.Slice.Eq.{bytes_eq-Decides}
use Rattle.std.specs.Str.{bytes_eq}
use Rattle.oftp_vfile.specs.declared.format.Format.TheVariants.{Unstructured}
use Rattle.oftp_register.specs.declared.change.Cause.{Cause}
use Rattle.oftp_register.specs.declared.change.Cause.TheVariants.{Full}
use Rattle.oftp_register.specs.declared.change.Change.TheVariants as change
use Rattle.oftp_register.specs.declared.entry.Identity.{Identity}
use Rattle.oftp_register.specs.declared.entry.IncomingState.TheVariants.{Whole}
use Rattle.oftp_register.specs.Register.{Incoming, Register, empty, same_identity}
use Rattle.oftp_register.specs.ByIdentity.{in_at}
use Rattle.oftp_register.specs.Changes.{apply, mapped, new_incoming, started_in}
use Rattle.oftp_register.specs.Soundness.{IsSound, IsSoundIncoming}
use Rattle.oftp_register.proofs.ByIdentityLemmas.{same_self}
use Rattle.oftp_register.proofs.NameLemmas.{same_identity-true}
use Rattle.oftp_engine.specs.Promise.{CodesAreNeeded, ContentIsKept, world_of}
use Rattle.oftp_engine.specs.TwoStations.{IfAny}
use Rattle.oftp_engine.specs.World.{Deals, Dealings, LeavesFilesOf, World, after_events, without_session}
use Rattle.oftp_engine.proofs.Apart.{apart_self}

-- a file of a third partner, whose code is one octet longer than this one
abbrev name : List ℕ → Identity
name code = record { dataset = []; date = []; time = []; originator = 0 ∷ code; destination = [] }

abbrev opened : List ℕ → Incoming
opened code = new_incoming (name code) Unstructured 0 []

abbrev whole : List ℕ → Incoming
whole code = record (opened code) { rows = []; state = Whole }

-- it comes if it is the first one, and there is room
abbrev left_by : List ℕ → List Incoming → Bool → Register → Register
left_by code [] false r = record r { incoming = whole code ∷ [] }
left_by code [] true r = r
left_by code (x ∷ xs) full r = r

with_one : (r : Register) (x : Incoming) → IsSoundIncoming x → IsSound r → IsSound (record r { incoming = x ∷ [] })
with_one r x is sound = record {
  few = sound.few;
  small = sound.small;
  incoming = All-cons IsSoundIncoming x [] is (All-nil IsSoundIncoming);
  outgoing = sound.outgoing;
  received = sound.received;
  incoming_once = (refl, tt);
  outgoing_once = sound.outgoing_once;
  received_once = sound.received_once;
}

opened_sound : (code : List ℕ) → IsSoundIncoming (opened code)
opened_sound code = record { longest = refl; few = omega arith; fits = All-nil (λ (r : List ℕ). length r ≡ 1024); answered = refl; answer = tt }

whole_sound : (code : List ℕ) → IsSoundIncoming (whole code)
whole_sound code = record { longest = refl; few = omega arith; fits = tt; answered = tt; answer = tt }

starts : (code : List ℕ) (r : Register) → r.incoming ≡ [] → nat_le r.limits.files 0 ≡ false
    → apply r (change.Start (name code) Unstructured 0 [] 0) ≡ Ok (record r { incoming = opened code ∷ [] })
unfolding apply
starts code r none room =
    let header = opened code in
    let put : List Incoming → Register = λ files. record r { incoming = files } in
    let go : Bool → Result Register Cause = λ full. mapped put (mapped (λ f. f ∷ []) (cond full (Err Full) (Ok header))) in
    ap (λ (fs : List Incoming). mapped put (started_in r header 0 fs)) none ∙ ap go (ap (λ (fs : List Incoming). nat_le r.limits.files (length fs)) none ∙ room)

ends : (code : List ℕ) (r : Register) → apply (record r { incoming = opened code ∷ [] }) (change.Close 1 []) ≡ Ok (record r { incoming = whole code ∷ [] })
unfolding apply
ends code r = refl

-- no file from the code is that file
other_name : (code : List ℕ) (j : Identity) → j.originator ≡ code → same_identity (name code) j ≡ false
other_name code j is =
    elim (cases_Bool (same_identity (name code) j)) [
      | inl t ↦ (let same : 0 ∷ code ≡ code = ap (λ (x : Identity). x.originator) (same_identity-true (name code) j t) ∙ is in
          let long : suc (length code) ≡ length code = ap (λ (x : List ℕ). length x) same in absurd (omega (arith, long)))
      | inr t ↦ t
    ]

-- the station has it from a third partner
dealings : List ℕ → Dealings
dealings code = record { without = code; left = λ r. left_by code r.incoming (nat_le r.limits.files 0) r; is = λ r sound. by r sound r.incoming (nat_le r.limits.files 0) refl refl }
  where
    by : (r : Register) → IsSound r → (files : List Incoming) (full : Bool) → r.incoming ≡ files → nat_le r.limits.files 0 ≡ full → LeavesFilesOf code r (left_by code files full r)
    by r sound [] false none room = record {
      changes = change.Start (name code) Unstructured 0 [] 0 ∷ change.Close 1 [] ∷ [];
      made = (
        record r { incoming = opened code ∷ [] },
        starts code r none room,
        with_one r (opened code) (opened_sound code) sound,
        (record r { incoming = whole code ∷ [] }, ends code r, with_one r (whole code) (whole_sound code) sound, refl),
      );
      outgoing = λ j e. refl;
      incoming = λ j e. (
          let before : in_at r j ≡ None = ap (λ (fs : List Incoming). in_at (record r { incoming = fs }) j) none in
          cond-false (same_identity (name code) j) (Some (whole code)) None (other_name code j e) ∙ sym before);
    }
    by r sound [] true none room = apart_self code r
    by r sound (x ∷ xs) full none room = apart_self code r

not_full : (files : ℕ) → 1 ≤ files → nat_le files 0 ≡ false
not_full files some = grind (arith, nat_tests, some)

pub codes_are_needed : CodesAreNeeded
unfolding without_session dealings
codes_are_needed book book' partner partner' limits limits' some = (record { at_one = true; happening = Deals (dealings book'.station.code) } ∷ [], λ kept. no (subst ContentIsKept now kept))
  where
    room : nat_le limits.files 0 ≡ false
    room = not_full limits.files some

    next : World
    next = record (world_of book book' partner partner' limits limits') {
      one = record (world_of book book' partner partner' limits limits').one { start = record (empty limits) { incoming = whole book'.station.code ∷ [] } };
    }

    now : after_events (world_of book book' partner partner' limits limits') (record { at_one = true; happening = Deals (dealings book'.station.code) } ∷ []) ≡ next
    now = (
        let w : World = world_of book book' partner partner' limits limits' in
        let moved : Register → World = λ r. record w { one = record w.one { start = r } } in
        cond-true (bytes_eq book'.station.code book'.station.code) (moved (left_by book'.station.code [] (nat_le limits.files 0) (empty limits))) w
        ((bytes_eq-Decides book'.station.code book'.station.code).1 refl)
        ∙ ap (λ full. moved (left_by book'.station.code [] full (empty limits))) room)

    no : ContentIsKept next → ⊥
    no kept =
        let c = kept.1 (name book'.station.code) in
        let has : in_at (record (empty limits) { incoming = whole book'.station.code ∷ [] }) (name book'.station.code) ≡ Some (whole book'.station.code) =
        cond-true (same_identity (name book'.station.code) (name book'.station.code)) (Some (whole book'.station.code)) None (same_self (name book'.station.code)) in
        (by_found (in_at (record (empty limits) { incoming = whole book'.station.code ∷ [] }) (name book'.station.code)) has c.whole)
      where
        by_found : (o : Option Incoming) → o ≡ Some (whole book'.station.code)
            → IfAny o (λ (e : Incoming). e.state ≡ Whole → ⊥) → ⊥
        by_found None e h = absurd (cc)
        by_found (Some x) e h = h (let same : x ≡ whole book'.station.code = cc in ap (λ (y : Incoming). y.state) same)
