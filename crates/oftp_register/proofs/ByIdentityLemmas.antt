-- What each change does to the file with an identity.
use Rattle.std.proofs.Common.{◌≡◌, ◌≢◌, ℕ, zero, suc, Bool, true, false, cond, ◌&&◌, List, [], ◌∷◌, ◌++◌, length, map, slice_get, All, Option, None, Some, Result, Ok, refl, ap, sym, ◌∙◌, subst, inl, inr}
use Rattle.std.proofs.lemmas.Bool.{cases_Bool, cond-true, cond-false, or_parts, ltb-false}
use Rattle.std.proofs.lemmas.List.Elements.{All-head, All-tail}
use Rattle.std.proofs.lemmas.Slice.Eq.{bytes_eq-Decides}
use Rattle.std.specs.List.{list_any}
use Rattle.std.specs.Option.{option_map}
use Rattle.std.specs.Str.{bytes_eq}
use Rattle.oftp_register.specs.declared.change.Cause.{Cause}
use Rattle.oftp_register.specs.declared.change.Change.{Change}
use Rattle.oftp_register.specs.declared.change.Change.TheVariants as change
use Rattle.oftp_register.specs.declared.entry.Dispatch.TheVariants.{Due}
use Rattle.oftp_register.specs.declared.entry.Identity.{Identity}
use Rattle.oftp_register.specs.declared.entry.ResponseKind.{ResponseKind}
use Rattle.oftp_register.specs.Register.{Register, Incoming, Outgoing, Issued, Received, same_identity}
use Rattle.oftp_register.specs.Changes.{answered, apply, at_number, begun, closed, closing, filed, given_up, gone_on, handed, issued, kept, mapped, marked, new_incoming, new_outgoing, on_incoming, on_outgoing, refused, reopened, sent, settled, started, started_in, submitted}
use Rattle.oftp_register.specs.Soundness.{AreNamedOnce}
use Rattle.oftp_register.specs.LookUps.{entry_at}
use Rattle.oftp_register.specs.ByIdentity.{OneChanged, OneStarted, StaysElsewhere, WasStarted, in_at, incoming_name, named, or_else, out_at, outgoing_name, subject}
use Rattle.oftp_register.proofs.NameLemmas.{same_identity-true}
use Rattle.oftp_register.proofs.NumberLemmas.{at_number_same, mapped_ok}
use Rattle.oftp_register.proofs.AdditionLemmas.{filed_ok, submitted_ok}
use Rattle.oftp_register.proofs.IncomingLemmas.{begun_ok, closed_same, given_up_same, gone_on_ok, issued_same, kept_same, sent_same}
use Rattle.oftp_register.proofs.OutgoingLemmas.{closing_same, handed_same, marked_same, refused_same, reopened_same}

-- an identity is itself
pub same_self : (i : Identity) → same_identity i i ≡ true
same_self i =
    let is : (x : List ℕ) → bytes_eq x x ≡ true = λ x. (bytes_eq-Decides x x).1 refl in
    let ends = bytes_eq i.originator i.originator && bytes_eq i.destination i.destination in
    ap (λ b. b && (bytes_eq i.date i.date && (bytes_eq i.time i.time && ends))) (is i.dataset)
    ∙ ap (λ b. b && (bytes_eq i.time i.time && ends)) (is i.date)
    ∙ ap (λ b. b && ends) (is i.time)
    ∙ ap (λ b. b && bytes_eq i.destination i.destination) (is i.originator)
    ∙ is i.destination

module _ {A : Type 0} (name : A → Identity) where
  -- an entry isn't among those that have other identities
  absent : (p : Identity → Bool) (n : ℕ) (xs : List A) (x : A) → list_any p (map name xs) ≡ false → slice_get xs n ≡ Some x → p (name x) ≡ false
  absent p n [] x h e = absurd (cc)
  absent p zero (y ∷ ys) x h e =
      let same : y ≡ x = cc in
      ap (λ z. p (name z)) (sym same) ∙ (or_parts (p (name y)) (list_any p (map name ys)) h).0
  absent p (suc n) (y ∷ ys) x h e = absent p n ys x (or_parts (p (name y)) (list_any p (map name ys)) h).1 e

  -- an entry at a place is the one that its identity finds
  pub found_named : (n : ℕ) (xs : List A) (x : A) (i : Identity) → AreNamedOnce (map name xs) → slice_get xs n ≡ Some x → same_identity (name x) i ≡ true
      → named name i xs ≡ Some x
  found_named n [] x i once e h = absurd (cc)
  found_named zero (y ∷ ys) x i once e h =
      let same : y ≡ x = cc in
      cond-true (same_identity (name y) i) (Some y) (named name i ys) (ap (λ z. same_identity (name z) i) same ∙ h) ∙ ap Some same
  found_named (suc n) (y ∷ ys) x i once e h =
      let other : same_identity (name y) (name x) ≡ false = absent (λ z. same_identity (name y) z) n ys x once.0 e in
      let apart : same_identity (name y) i ≡ false = ap (λ z. same_identity (name y) z) (sym (same_identity-true (name x) i h)) ∙ other in
      cond-false (same_identity (name y) i) (Some y) (named name i ys) apart ∙ found_named n ys x i once.1 e h

  -- what is found has the identity that was looked for
  pub named_is : (i : Identity) (xs : List A) (x : A) → named name i xs ≡ Some x → name x ≡ i
  named_is i [] x h = absurd (cc)
  named_is i (y ∷ ys) x h =
      elim (cases_Bool (same_identity (name y) i)) [
        | inl e ↦ (let same : Some y ≡ Some x = sym (cond-true (same_identity (name y) i) (Some y) (named name i ys) e) ∙ h in
            let is : y ≡ x = cc in
            ap name (sym is) ∙ same_identity-true (name y) i e)
        | inr e ↦ named_is i ys x (sym (cond-false (same_identity (name y) i) (Some y) (named name i ys) e) ∙ h)
      ]

  -- a fact of all holds of what is found
  pub named_all : (P : A → Type 0) (i : Identity) (xs : List A) (x : A) → All P xs → named name i xs ≡ Some x → P x
  named_all P i [] x all h = absurd (cc)
  named_all P i (y ∷ ys) x all h =
      elim (cases_Bool (same_identity (name y) i)) [
        | inl e ↦ (let same : Some y ≡ Some x = sym (cond-true (same_identity (name y) i) (Some y) (named name i ys) e) ∙ h in
            let is : y ≡ x = cc in
            subst P is (All-head P y ys all))
        | inr e ↦ named_all P i ys x (All-tail P y ys all) (sym (cond-false (same_identity (name y) i) (Some y) (named name i ys) e) ∙ h)
      ]

  -- one more entry at the end
  pub named_push : (i : Identity) (xs : List A) (x : A) → named name i (xs ++ x ∷ []) ≡ or_else (named name i xs) (cond (same_identity (name x) i) (Some x) None)
  named_push i [] x = refl
  named_push i (y ∷ ys) x = ap (cond (same_identity (name y) i) (Some y)) (named_push i ys x) ∙ by (same_identity (name y) i)
    where
      last : Option A
      last = cond (same_identity (name x) i) (Some x) None

      by : (b : Bool) → cond b (Some y) (or_else (named name i ys) last) ≡ or_else (cond b (Some y) (named name i ys)) last
      by true = refl
      by false = refl

  -- entries that are changed and keep their identities
  pub named_map : (g : A → A) → ((x : A) → name (g x) ≡ name x) → (i : Identity) (xs : List A) → named name i (map g xs) ≡ option_map g (named name i xs)
  named_map g same i [] = refl
  named_map g same i (x ∷ xs) =
      ap (λ z. cond (same_identity z i) (Some (g x)) (named name i (map g xs))) (same x)
      ∙ ap (cond (same_identity (name x) i) (Some (g x))) (named_map g same i xs)
      ∙ by (same_identity (name x) i)
    where
      by : (b : Bool) → cond b (Some (g x)) (option_map g (named name i xs)) ≡ option_map g (cond b (Some x) (named name i xs))
      by true = refl
      by false = refl

  module _ (f : A → Result A Cause) (same : (x y : A) → f x ≡ Ok y → name y ≡ name x) where
    -- a change of the entry with a number
    pub one_changed : (n : ℕ) (xs ys : List A) → at_number f (suc n) xs ≡ Ok ys → OneChanged name f n xs ys
    one_changed n [] ys h = absurd (cc)
    one_changed zero (x ∷ xs) ys h =
        let part = mapped_ok (λ y. y ∷ xs) (f x) ys h in
        let is : part.0 ∷ xs ≡ ys = part.2 in
        record {
          old = x;
          new = part.0;
          entry = refl;
          entry_now = ap (λ zs. slice_get zs 0) (sym is);
          done = part.1;
          others = λ i apart.
              ap (named name i) (sym is)
              ∙ cond-false (same_identity (name part.0) i) (Some part.0) (named name i xs) (ap (λ z. same_identity z i) (same x part.0 part.1) ∙ apart)
              ∙ sym (cond-false (same_identity (name x) i) (Some x) (named name i xs) apart);
        }
    one_changed (suc n) (x ∷ xs) ys h =
        let part = mapped_ok (λ zs. x ∷ zs) (at_number f (suc n) xs) ys h in
        let is : x ∷ part.0 ≡ ys = part.2 in
        let c = one_changed n xs part.0 part.1 in
        record {
          old = c.old;
          new = c.new;
          entry = c.entry;
          entry_now = ap (λ zs. slice_get zs (suc n)) (sym is) ∙ c.entry_now;
          done = c.done;
          others = λ i apart. ap (named name i) (sym is) ∙ ap (cond (same_identity (name x) i) (Some x)) (c.others i apart);
        }

    -- a fact of each identity and its entry, after one entry was changed
    pub changed_named : (P : Identity → Option A → Type 0) (n : ℕ) (xs ys : List A) → AreNamedOnce (map name xs) → at_number f n xs ≡ Ok ys
        → ((x y : A) → entry_at n xs ≡ Some x → f x ≡ Ok y → P (name x) (Some x) → P (name x) (Some y))
        → ((i : Identity) → P i (named name i xs)) → (i : Identity) → P i (named name i ys)
    changed_named P zero xs ys once h step all i = absurd (cc)
    changed_named P (suc n) xs ys once h step all i =
        let c = one_changed n xs ys h in
        let once_now : AreNamedOnce (map name ys) = subst AreNamedOnce (sym (at_number_same name f same (suc n) xs ys h)) once in
        elim (cases_Bool (same_identity (name c.old) i)) [
          | inl e ↦ (let is : name c.old ≡ i = same_identity-true (name c.old) i e in
              let was : named name i xs ≡ Some c.old = found_named n xs c.old i once c.entry e in
              let now : named name i ys ≡ Some c.new = found_named n ys c.new i once_now c.entry_now (ap (λ z. same_identity z i) (same c.old c.new c.done) ∙ e) in
              let before : P (name c.old) (Some c.old) = subst (λ j. P j (Some c.old)) (sym is) (subst (P i) was (all i)) in
              subst (P i) (sym now) (subst (λ j. P j (Some c.new)) is (step c.old c.new c.entry c.done before)))
          | inr e ↦ subst (P i) (sym (c.others i e)) (all i)
        ]

    -- the entries of other identities, after a change of the entry with a number
    pub changed_others : (n : ℕ) (xs ys : List A) (i : Identity) → at_number f n xs ≡ Ok ys → option_map name (entry_at n xs) ≢ Some i → named name i ys ≡ named name i xs
    changed_others zero xs ys i h apart = absurd (cc)
    changed_others (suc n) xs ys i h apart =
        let c = one_changed n xs ys h in
        elim (cases_Bool (same_identity (name c.old) i)) [
          | inl e ↦ absurd (apart (ap (option_map name) c.entry ∙ ap Some (same_identity-true (name c.old) i e)))
          | inr e ↦ c.others i e
        ]

-- a file whose state a response sets keeps its identity
pub settled_name : (kind : ResponseKind) (identity : Identity) (file : Outgoing) → (settled kind identity file).identity ≡ file.identity
settled_name kind identity file = by (same_identity file.identity identity)
  where
    by : (b : Bool) → (let f : Outgoing = cond b (record file { state = answered kind file.state }) file in f).identity ≡ file.identity
    by true = refl
    by false = refl

-- what was started
pub started_view : (r : Register) (header : Incoming) (count : ℕ) (xs ys : List Incoming) → started_in r header count xs ≡ Ok ys → OneStarted header count xs ys
started_view r header count [] ys h =
    let part = mapped_ok (λ f. f ∷ []) (begun r header count) ys h in
    let b = begun_ok r header count part.0 part.1 in
    let is : part.0 ∷ [] ≡ ys = part.2 in
    let name : part.0.identity ≡ header.identity = ap incoming_name (sym b.0) in
    record {
      new = part.0;
      was = (sym b.0, b.1);
      named_so = name;
      now = ap (named incoming_name header.identity) (sym is)
          ∙ cond-true (same_identity part.0.identity header.identity) (Some part.0) None (ap (λ z. same_identity z header.identity) name ∙ same_self header.identity);
      others = λ i apart.
          ap (named incoming_name i) (sym is)
          ∙ cond-false (same_identity part.0.identity i) (Some part.0) None (ap (λ z. same_identity z i) name ∙ apart);
    }
started_view r header count (file ∷ files) ys h =
    let here = same_identity file.identity header.identity in
    let goes : Result (List Incoming) Cause = mapped (λ f. f ∷ files) (gone_on header count file file.state) in
    let later : Result (List Incoming) Cause = mapped (λ fs. file ∷ fs) (started_in r header count files) in
    let rest = named incoming_name header.identity files in
    elim (cases_Bool here) [
      | inl e ↦ (let part = mapped_ok (λ f. f ∷ files) (gone_on header count file file.state) ys (sym (cond-true here goes later e) ∙ h) in
          let g = gone_on_ok header count file file.state part.0 part.1 in
          let is : part.0 ∷ files ≡ ys = part.2 in
          let name : part.0.identity ≡ header.identity = ap incoming_name (sym g.1) in
          let named_here : file.identity ≡ header.identity = same_identity-true file.identity header.identity e in
          let was : WasStarted header count (Some file) part.0 = (g.0, ltb-false (length file.rows) count g.2, sym g.1) in
          record {
            new = part.0;
            was = subst (λ o. WasStarted header count o part.0) (sym (cond-true here (Some file) rest e)) was;
            named_so = name;
            now = ap (named incoming_name header.identity) (sym is)
                ∙ cond-true (same_identity part.0.identity header.identity) (Some part.0) rest (ap (λ z. same_identity z header.identity) name ∙ same_self header.identity);
            others = λ i apart.
                ap (named incoming_name i) (sym is)
                ∙ cond-false (same_identity part.0.identity i) (Some part.0) (named incoming_name i files) (ap (λ z. same_identity z i) name ∙ apart)
                ∙ sym (cond-false (same_identity file.identity i) (Some file) (named incoming_name i files) (ap (λ z. same_identity z i) named_here ∙ apart));
          })
      | inr e ↦ (let part = mapped_ok (λ fs. file ∷ fs) (started_in r header count files) ys (sym (cond-false here goes later e) ∙ h) in
          let s = started_view r header count files part.0 part.1 in
          let is : file ∷ part.0 ≡ ys = part.2 in
          record {
            new = s.new;
            was = subst (λ o. WasStarted header count o s.new) (sym (cond-false here (Some file) rest e)) s.was;
            named_so = s.named_so;
            now = ap (named incoming_name header.identity) (sym is) ∙ cond-false here (Some file) (named incoming_name header.identity part.0) e ∙ s.now;
            others = λ i apart. ap (named incoming_name i) (sym is) ∙ ap (cond (same_identity file.identity i) (Some file)) (s.others i apart);
          })
    ]

-- a fact of each identity and its incoming file, after a file was started
pub started_named : (P : Identity → Option Incoming → Type 0) (r : Register) (header : Incoming) (count : ℕ) (xs ys : List Incoming) → started_in r header count xs ≡ Ok ys
    → ((old : Option Incoming) (new : Incoming) → named incoming_name header.identity xs ≡ old → WasStarted header count old new → P header.identity old → P header.identity (Some new))
    → ((i : Identity) → P i (named incoming_name i xs)) → (i : Identity) → P i (named incoming_name i ys)
started_named P r header count xs ys h step all i =
    let s = started_view r header count xs ys h in
    elim (cases_Bool (same_identity header.identity i)) [
      | inl e ↦ subst (λ j. P j (named incoming_name j ys)) (same_identity-true header.identity i e)
          (subst (P header.identity) (sym s.now) (step (named incoming_name header.identity xs) s.new refl s.was (all header.identity)))
      | inr e ↦ subst (P i) (sym (s.others i e)) (all i)
    ]

-- identities that aren't the same differ
apart_of : (a i : Identity) → Some a ≢ Some i → same_identity a i ≡ false
apart_of a i apart = elim (cases_Bool (same_identity a i)) [ inl e ↦ absurd (apart (ap Some (same_identity-true a i e))) | inr e ↦ e ]

-- a change of the incoming file with a number
on_incoming_elsewhere : (f : Incoming → Result Incoming Cause) → ((x y : Incoming) → f x ≡ Ok y → y.identity ≡ x.identity) → (n : ℕ) (r s : Register) → on_incoming f n r ≡ Ok s
    → (i : Identity) → option_map incoming_name (entry_at n r.incoming) ≢ Some i → (in_at s i ≡ in_at r i) × (out_at s i ≡ out_at r i)
on_incoming_elsewhere f same n r s h i apart =
    let part = mapped_ok (λ files. record r { incoming = files }) (at_number f n r.incoming) s h in
    subst (λ (z : Register). (in_at z i ≡ in_at r i) × (out_at z i ≡ out_at r i)) part.2 (changed_others incoming_name f same n r.incoming part.0 i part.1 apart, refl)

-- a change of the outgoing file with a number
on_outgoing_elsewhere : (f : Outgoing → Result Outgoing Cause) → ((x y : Outgoing) → f x ≡ Ok y → y.identity ≡ x.identity) → (n : ℕ) (r s : Register) → on_outgoing f n r ≡ Ok s
    → (i : Identity) → option_map outgoing_name (entry_at n r.outgoing) ≢ Some i → (in_at s i ≡ in_at r i) × (out_at s i ≡ out_at r i)
on_outgoing_elsewhere f same n r s h i apart =
    let part = mapped_ok (λ files. record r { outgoing = files }) (at_number f n r.outgoing) s h in
    subst (λ (z : Register). (in_at z i ≡ in_at r i) × (out_at z i ≡ out_at r i)) part.2 (refl, changed_others outgoing_name f same n r.outgoing part.0 i part.1 apart)

-- a file to be sent
pushed_elsewhere : (found : Option Outgoing) (file : Outgoing) (b : Bool) → b ≡ false → or_else found (cond b (Some file) None) ≡ found
pushed_elsewhere (Some x) file b h = refl
pushed_elsewhere None file b h = cond-false b (Some file) None h

submitted_elsewhere : (r s : Register) (file : Outgoing) → submitted r file ≡ Ok s → (i : Identity) → Some file.identity ≢ Some i → (in_at s i ≡ in_at r i) × (out_at s i ≡ out_at r i)
submitted_elsewhere r s file h i apart =
    let pushed = pushed_elsewhere (out_at r i) file (same_identity file.identity i) (apart_of file.identity i apart) in
    subst (λ (z : Register). (in_at z i ≡ in_at r i) × (out_at z i ≡ out_at r i)) (submitted_ok r s file h).1 (refl, named_push outgoing_name i r.outgoing file ∙ pushed)

-- an incoming file
started_elsewhere : (r s : Register) (header : Incoming) (count : ℕ) → started r header count ≡ Ok s → (i : Identity) → Some header.identity ≢ Some i
    → (in_at s i ≡ in_at r i) × (out_at s i ≡ out_at r i)
started_elsewhere r s header count h i apart =
    let part = mapped_ok (λ files. record r { incoming = files }) (started_in r header count r.incoming) s h in
    let now = (started_view r header count r.incoming part.0 part.1).others i (apart_of header.identity i apart) in
    subst (λ (z : Register). (in_at z i ≡ in_at r i) × (out_at z i ≡ out_at r i)) part.2 (now, refl)

-- a received response
settled_other : (kind : ResponseKind) (identity : Identity) (file : Outgoing) → same_identity file.identity identity ≡ false → settled kind identity file ≡ file
settled_other kind identity file h = cond-false (same_identity file.identity identity) (record file { state = answered kind file.state }) file h

settled_elsewhere : (kind : ResponseKind) (identity i : Identity) (files : List Outgoing) → Some identity ≢ Some i → (found : Option Outgoing) → named outgoing_name i files ≡ found
    → option_map (settled kind identity) found ≡ found
settled_elsewhere kind identity i files apart None is = refl
settled_elsewhere kind identity i files apart (Some file) is =
    let name : file.identity ≡ i = named_is outgoing_name i files file is in
    let other : same_identity file.identity identity ≡ false = apart_of file.identity identity (λ e. apart (sym e ∙ ap Some name)) in
    ap Some (settled_other kind identity file other)

filed_elsewhere : (r s : Register) (response : Received) → filed r response ≡ Ok s → (i : Identity) → Some response.identity ≢ Some i → (in_at s i ≡ in_at r i) × (out_at s i ≡ out_at r i)
filed_elsewhere r s response h i apart =
    let kind = response.kind in
    let identity = response.identity in
    let settle = settled kind identity in
    let stays = settled_elsewhere kind identity i r.outgoing apart (out_at r i) refl in
    subst (λ (z : Register). (in_at z i ≡ in_at r i) × (out_at z i ≡ out_at r i)) (filed_ok r s response h).1 (refl, named_map outgoing_name settle (settled_name kind identity) i r.outgoing ∙ stays)

both_elsewhere : (r : Register) (k : Change) (s : Register) → apply r k ≡ Ok s → (i : Identity) → subject r k ≢ Some i → (in_at s i ≡ in_at r i) × (out_at s i ≡ out_at r i)
unfolding apply
both_elsewhere r (change.Submit identity format longest description rows) s h i apart =
    submitted_elsewhere r s (new_outgoing identity format longest description rows) h i apart
both_elsewhere r (change.Start identity format longest description count) s h i apart =
    started_elsewhere r s (new_incoming identity format longest description) count h i apart
both_elsewhere r (change.Keep n rows) s h i apart = on_incoming_elsewhere (kept rows) (kept_same rows) n r s h i apart
both_elsewhere r (change.Close n rows) s h i apart = on_incoming_elsewhere (closed rows) (closed_same rows) n r s h i apart
both_elsewhere r (change.GiveUp n) s h i apart = on_incoming_elsewhere given_up given_up_same n r s h i apart
both_elsewhere r (change.File kind identity reason creator text) s h i apart =
    filed_elsewhere r s (record { kind = kind; identity = identity; reason = reason; creator = creator; text = text }) h i apart
both_elsewhere r (change.Issue n kind reason text) s h i apart =
    let response : Issued = record { kind = kind; reason = reason; text = text; dispatch = Due } in
    on_incoming_elsewhere (issued response) (issued_same response) n r s h i apart
both_elsewhere r (change.Mark n rows) s h i apart = on_outgoing_elsewhere (marked rows) (marked_same rows) n r s h i apart
both_elsewhere r (change.BeginClosing n) s h i apart = on_outgoing_elsewhere closing closing_same n r s h i apart
both_elsewhere r (change.HandOver n) s h i apart = on_outgoing_elsewhere handed handed_same n r s h i apart
both_elsewhere r (change.Refuse n reason) s h i apart = on_outgoing_elsewhere (refused reason) (refused_same reason) n r s h i apart
both_elsewhere r (change.Reopen n) s h i apart = on_outgoing_elsewhere reopened reopened_same n r s h i apart
both_elsewhere r (change.Send n) s h i apart = on_incoming_elsewhere sent sent_same n r s h i apart

-- a change concerns one identity
pub stays_elsewhere : (r : Register) (k : Change) (s : Register) → apply r k ≡ Ok s → StaysElsewhere r s k
stays_elsewhere r k s h = record {
  incoming = λ i apart. (both_elsewhere r k s h i apart).0;
  outgoing = λ i apart. (both_elsewhere r k s h i apart).1;
}
