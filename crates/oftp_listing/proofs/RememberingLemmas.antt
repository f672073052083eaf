-- An office that remembers numbers of octets does what the office in it does.
use Rattle.std.proofs.Common.{◌≡◌, ℕ, true, List, [], ◌∷◌, Bool, fold, Some, Result, Ok, Err, OnErr, IfOk, refl, ap, sym, ◌∙◌, subst, inl, inr}
use Rattle.std.proofs.lemmas.Bool.{cases_eq}
use Rattle.std.proofs.lemmas.Result.{on_ok_weaker}
use Rattle.oftp_vfile.specs.VirtualFile.{units_in}
use Rattle.oftp_register.specs.declared.change.Cause.{Cause}
use Rattle.oftp_register.specs.declared.change.Change.{Change}
use Rattle.oftp_register.specs.declared.entries.Side.{Side}
use Rattle.oftp_register.specs.declared.entries.Side.TheVariants as side
use Rattle.oftp_register.specs.declared.office.OfficeFault.{OfficeFault}
use Rattle.oftp_register.specs.declared.office.OfficeFault.TheVariants.{Store, Memory, Refused}
use Rattle.oftp_register.specs.Changes.{apply, go_on_by}
use Rattle.oftp_register.specs.LookUps.{units_of}
use Rattle.oftp_register.specs.Offices.{Commits, Counts, IsRefused, LooksUp, Only, View}
use Rattle.oftp_register.specs.Register.{Register}
use Rattle.oftp_listing.specs.declared.counts.OctetCounts.{OctetCounts}
use Rattle.oftp_listing.specs.Remembering.{AddsCount, AreCountsOf, CountsStay, IsCountOf, count_of, has_final_rows, remembering}
use Rattle.oftp_listing.proofs.FinalRows.{stays_final}
use Rattle.oftp_listing.proofs.ListedUnits.{looks_at_nothing}

-- ---- what is remembered stays true

counts_after : (counts : OctetCounts) (r : Register) (k : Change) (s : Register) → AreCountsOf r counts → apply r k ≡ Ok s → AreCountsOf s counts
counts_after counts r k s are made which n units found =
    let was = are which n units found in
    let now = stays_final r k s made which n was.is_final in
    record { is_final = now.is_final; is = was.is ∙ sym (ap units_in now.rows) }

-- a refusal ends the changes
never_made : (cause : Cause) (changes : List Change) (s : Register) → fold go_on_by (Err cause) changes ≡ Ok s → ⊥
never_made cause [] s h = cc
never_made cause (k ∷ ks) s h = never_made cause ks s h

pub counts_stay : CountsStay
counts_stay counts r s [] are h = let is : r ≡ s = cc in subst (λ x. AreCountsOf x counts) is are
counts_stay counts r s (k ∷ ks) are h = by (λ t. counts_stay counts t s ks) (apply r k) refl h
  where
    by : ((t : Register) → AreCountsOf t counts → fold go_on_by (Ok t) ks ≡ Ok s → AreCountsOf s counts) → (made : Result Register Cause) → apply r k ≡ made → fold go_on_by made ks ≡ Ok s
        → AreCountsOf s counts
    by later (Ok t) e h = later t (counts_after counts r k t are e) h
    by later (Err cause) e h = absurd (never_made cause ks s h)

-- one number more
one_more : (r : Register) (old new : OctetCounts) (which : Side) (n units : ℕ) → AreCountsOf r old → AddsCount old new which n units → IsCountOf r which n units → AreCountsOf r new
one_more r old new which n units are adds one other m u found = by which other adds one found
  where
    here : (w : Side) → AddsCount old new w n units → IsCountOf r w n units → count_of new w m ≡ Some u → IsCountOf r w m u
    here w adds one found =
        elim (cases_eq m n) [
          | inl e ↦
              let at : count_of new w n ≡ Some u = ap (count_of new w) (sym e) ∙ found in
              elim adds.here [
                | inl is ↦
                    let same : units ≡ u = let both : Some units ≡ Some u = sym is ∙ at in cc in
                    subst (λ v. IsCountOf r w m v) same (subst (λ k. IsCountOf r w k units) (sym e) one)
                | inr is ↦ subst (λ k. IsCountOf r w k u) (sym e) (are w n u (sym is ∙ at))
              ]
          | inr ne ↦ are w m u (sym (adds.others w m (inr ne)) ∙ found)
        ]

    by : (w s : Side) → AddsCount old new w n units → IsCountOf r w n units → count_of new s m ≡ Some u → IsCountOf r s m u
    by side.Incoming side.Incoming adds one found = here side.Incoming adds one found
    by side.Outgoing side.Outgoing adds one found = here side.Outgoing adds one found
    by side.Incoming side.Outgoing adds one found = are side.Outgoing m u (sym (adds.others side.Outgoing m (inl (λ e. cc))) ∙ found)
    by side.Outgoing side.Incoming adds one found = are side.Incoming m u (sym (adds.others side.Incoming m (inl (λ e. cc))) ∙ found)

-- ---- calls

-- a look-up
pub looks_with : {T : Type 0} {Tells : Register → T → Type 0} (counts : OctetCounts) (old new : View) (result : Result T OfficeFault) → LooksUp Tells old new result
    → LooksUp Tells (remembering counts old) (remembering counts new) result
looks_with counts old new result looks = record {
  clean = looks.clean;
  answer = λ k s. looks.answer k s.0;
  stays = λ k s. on_ok_weaker result (λ stood. (stood, subst (λ r. AreCountsOf r counts) (sym (looks.register k s.0 (new.opens stood))) s.1)) (looks.stays k s.0);
  register = λ k s is_open. looks.register k s.0 is_open;
  left = λ k s. looks.left k s.0;
  unrefused = looks.unrefused;
  counts = looks.counts;
}

still_refused : {T : Type 0} (wanted : Result Register Cause) (result : Result T OfficeFault) (A B Same : Type 0) → IsRefused wanted result A → OnErr result Same → (Same → A → B)
    → IsRefused wanted result B
still_refused wanted (Ok x) A B Same h same more = tt
still_refused wanted (Err Store) A B Same h same more = tt
still_refused wanted (Err Memory) A B Same h same more = tt
still_refused wanted (Err (Refused cause)) A B Same h same more = (h.0, more same h.1)

-- a change
pub commits_with : {T : Type 0} (change : Change) (counts : OctetCounts) (old new : View) (result : Result T OfficeFault) → Commits change old new result
    → Commits change (remembering counts old) (remembering counts new) result
commits_with change counts old new result made = record {
  clean = made.clean;
  done = λ k s fit. on_ok_weaker result (λ done. (done.0, (done.1, counts_after counts old.register change new.register s.1 done.0))) (made.done k s.0 fit);
  refused = λ k s. still_refused (apply old.register change) result new.stands (new.stands × AreCountsOf new.register counts) (new.is_open → new.register ≡ old.register) (made.refused k s.0)
      (made.same k s.0) (λ same stood. (stood, subst (λ r. AreCountsOf r counts) (sym (same (new.opens stood))) s.1));
  same = λ k s. made.same k s.0;
  left = λ k s fit. made.left k s.0 fit;
  counts = made.counts;
}

-- two look-ups, the first without an error
pub looks_then : {S T : Type 0} {A : Register → S → Type 0} {B : Register → T → Type 0} (old now new : View) (x : S) (told : Result T OfficeFault) → LooksUp A old now (Ok x) → LooksUp B now new told
    → LooksUp B old new told
looks_then {B = B} old now new x told first next = record {
  clean = λ k. first.clean (next.clean k);
  answer = λ k s. subst (λ r. IfOk told (B r)) (same k s) (next.answer k (stood k s));
  stays = λ k s. next.stays k (stood k s);
  register = λ k s is_open. next.register k (stood k s) is_open ∙ same k s;
  left = λ k s. subst (λ r. Only r new) (same k s) (next.left k (stood k s));
  unrefused = next.unrefused;
  counts = subst (λ n. Counts n new.told told) first.counts next.counts;
}
  where
    stood : new.clean → old.stands → now.stands
    stood k s = first.stays (next.clean k) s

    same : (k : new.clean) → (s : old.stands) → now.register ≡ old.register
    same k s = first.register (next.clean k) s (now.opens (stood k s))

-- a number that was remembered
pub looks_back : (counts : OctetCounts) (v : View) (which : Side) (n units : ℕ) → (v.clean → v.stands → Only v.register v) → Some units ≡ count_of counts which n
    → LooksUp (λ r u. u ≡ units_of r which n) (remembering counts v) (remembering counts v) (Ok units)
looks_back counts v which n units alone found =
    looks_at_nothing (remembering counts v) units (λ k s. alone k s.0) (λ k s. (s.1 which n units (sym found)).is)

-- a number that may be remembered, of a file whose rows no change alters
pub looks_ahead : (old now new : View) (before after : OctetCounts) (which : Side) (n units : ℕ) (is_final : Bool)
    → LooksUp (λ r b. b ≡ has_final_rows r which n) old now (Ok is_final) → LooksUp (λ r u. u ≡ units_of r which n) now new (Ok units) → is_final ≡ true
    → AddsCount before after which n units → LooksUp (λ r u. u ≡ units_of r which n) (remembering before old) (remembering after new) (Ok units)
looks_ahead old now new before after which n units is_final first next final adds = record {
  clean = both.clean;
  answer = λ k s. both.answer k s.0;
  stays = λ k s.
      let stood = both.stays k s.0 in
      let one : IsCountOf old.register which n units = record { is_final = sym (first.answer (next.clean k) s.0) ∙ final; is = both.answer k s.0 } in
      (stood, subst (λ r. AreCountsOf r after) (sym (both.register k s.0 (new.opens stood))) (one_more old.register before after which n units s.1 adds one));
  register = λ k s is_open. both.register k s.0 is_open;
  left = λ k s. both.left k s.0;
  unrefused = tt;
  counts = both.counts;
}
  where
    both : LooksUp (λ r u. u ≡ units_of r which n) old new (Ok units)
    both = looks_then old now new is_final (Ok units) first next
