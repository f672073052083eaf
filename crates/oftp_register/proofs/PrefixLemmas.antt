-- Changes in order.
use Rattle.std.proofs.Common.{◌≡◌, ◌⊎◌, ◌≤◌, List, [], ◌∷◌, ◌++◌, fold, length, take, Ok, Err, refl, ap, sym, ◌∙◌, subst, inl, inr, arith, length-append, append_assoc, append-nil}
use Rattle.std.specs.Bool.{⊤}
use Rattle.std.proofs.lemmas.Grind.{fold-append}
use Rattle.std.proofs.lemmas.List.{take_at}
use Rattle.oftp_register.specs.declared.change.Cause.{Cause}
use Rattle.oftp_register.specs.declared.change.Change.{Change}
use Rattle.oftp_register.specs.declared.office.OfficeFault.{OfficeFault}
use Rattle.oftp_register.specs.declared.office.OfficeFault.TheVariants.{Store, Memory, Refused}
use Rattle.oftp_register.specs.Register.{Register}
use Rattle.oftp_register.specs.Changes.{apply, apply_all, go_on_by}
use Rattle.oftp_register.specs.Soundness.{AreFit, IsFit}
use Rattle.oftp_register.specs.Offices.{Commits, CommitsAll, CountsFault, EndsAt, IsAfterPrefix, IsRefused, Only, View}

-- what the changes so far did to an office that was open
pub record HasMade (old now : View) (gone rest : List Change) : Type 0 where
  pub fit : AreFit now.register rest
  pub stands : now.stands
  pub made : apply_all old.register gone ≡ Ok now.register

-- how many changes are made
pub record IsGoing (changes : List Change) (old now : View) (gone rest : List Change) : Type 0 where
  pub clean : now.clean → old.clean
  pub whole : gone ++ rest ≡ changes
  pub so_far : now.clean → old.stands → AreFit old.register changes → HasMade old now gone rest
  pub untold : now.told ≡ old.told

-- the first change is fit, and so are the others when it is made
fit_first : (r : Register) (k : Change) (rest later : List Change) → rest ≡ k ∷ later → AreFit r rest → IsFit r k
unfolding AreFit
fit_first r k rest later is fit = (subst (AreFit r) is fit).0

fit_later : (r s : Register) (k : Change) (rest later : List Change) → rest ≡ k ∷ later → AreFit r rest → apply r k ≡ Ok s → AreFit s later
unfolding AreFit
fit_later r s k rest later is fit made = (subst (AreFit r) is fit).1 s made

-- one more change
pub apply_all-push : (r before : Register) (gone : List Change) (k : Change) → apply_all r gone ≡ Ok before → apply_all r (gone ++ k ∷ []) ≡ apply before k
apply_all-push r before gone k made = fold-append go_on_by (Ok r) gone (k ∷ []) ∙ ap (λ so_far. go_on_by so_far k) made

-- one more change is done
moved_on : {A : Type 0} (gone rest later all : List A) (x : A) → gone ++ rest ≡ all → rest ≡ x ∷ later → (gone ++ x ∷ []) ++ later ≡ all
moved_on gone rest later all x whole is = append_assoc gone (x ∷ []) later ∙ ap (λ ys. gone ++ ys) (sym is) ∙ whole

-- a refusal ends the changes
stays_refused : (cause : Cause) (changes : List Change) → fold go_on_by (Err cause) changes ≡ Err cause
stays_refused cause [] = refl
stays_refused cause (k ∷ ks) = stays_refused cause ks

-- the changes so far are a prefix
front_of : {A : Type 0} (gone rest all : List A) → gone ++ rest ≡ all → take (length gone) all ≡ gone
front_of gone rest all whole = ap (take (length gone)) (sym whole) ∙ take_at gone rest (length gone) refl

within_all : {A : Type 0} (gone rest all : List A) → gone ++ rest ≡ all → length gone ≤ length all
within_all gone rest all whole = omega (arith, length-append gone rest, ap length whole)

-- the content holds the register after the changes so far
left_at : (Holds : Register → Type 0) (r s : Register) (changes gone rest : List Change) → gone ++ rest ≡ changes → apply_all r gone ≡ Ok s → Holds s → IsAfterPrefix Holds r changes
left_at Holds r s changes gone rest whole made h = record {
  made = length gone;
  most = within_all gone rest changes whole;
  after = s;
  register = ap (apply_all r) (front_of gone rest changes whole) ∙ made;
  holds = h;
}

-- no change so far
pub going_first : (changes : List Change) (v : View) → IsGoing changes v v [] changes
going_first changes v = record {
  clean = λ clean. clean;
  whole = refl;
  so_far = λ clean stands fit. record { fit = fit; stands = stands; made = refl };
  untold = refl;
}

module _ (changes : List Change) (old now new : View) (gone rest later : List Change) (k : Change) (is : rest ≡ k ∷ later) (going : IsGoing changes old now gone rest) where
  further : (gone ++ k ∷ []) ++ later ≡ changes
  further = moved_on gone rest later changes k going.whole is

  -- one more change is made
  pub going_on : (x : ⊤) → Commits k now new (Ok x) → IsGoing changes old new (gone ++ k ∷ []) later
  going_on x does = record {
    clean = λ clean. going.clean (does.clean clean);
    whole = further;
    so_far = λ clean stands fit.
        let so_far = going.so_far (does.clean clean) stands fit in
        let done = does.done clean so_far.stands (fit_first now.register k rest later is so_far.fit) in
        record {
          fit = fit_later now.register new.register k rest later is so_far.fit done.0;
          stands = done.1;
          made = apply_all-push old.register now.register gone k so_far.made ∙ done.0;
        };
    untold = does.counts ∙ going.untold;
  }

  -- the first change that is refused
  refused_on : (cause : Cause) → apply_all old.register gone ≡ Ok now.register → apply now.register k ≡ Err cause → apply_all old.register changes ≡ Err cause
  refused_on cause made refused =
      ap (apply_all old.register) (sym further)
      ∙ fold-append go_on_by (Ok old.register) (gone ++ k ∷ []) later
      ∙ ap (λ so_far. fold go_on_by so_far later) (apply_all-push old.register now.register gone k made ∙ refused)
      ∙ stays_refused cause later

  -- the error of the first change that failed
  refused_by : (fault : OfficeFault) → apply_all old.register gone ≡ Ok now.register → IsRefused {T = ⊤} (apply now.register k) (Err fault) new.stands
      → IsRefused {T = ⊤} (apply_all old.register changes) (Err fault) new.stands
  refused_by Store made h = tt
  refused_by Memory made h = tt
  refused_by (Refused cause) made h = (refused_on cause made h.0, h.1)

  -- a refusal is the register's
  refusal_of : (fault : OfficeFault) → IsRefused {T = ⊤} (apply now.register k) (Err fault) new.stands → (cause : Cause) → fault ≡ Refused cause → apply now.register k ≡ Err cause
  refusal_of fault refused cause is_refused = (subst (λ f. IsRefused {T = ⊤} (apply now.register k) (Err f) new.stands) is_refused refused).0

  -- the changes end at the next one
  ends_at : (fault : OfficeFault) → apply_all old.register gone ≡ Ok now.register → ((cause : Cause) → fault ≡ Refused cause → apply now.register k ≡ Err cause)
      → EndsAt fault old.register now.register changes
  ends_at fault made refusal = record {
    made = length gone;
    short = omega (arith, length-append gone rest, ap length going.whole, ap length is);
    register = ap (apply_all old.register) (front_of gone rest changes going.whole) ∙ made;
    refusal = λ cause told.
        ap (λ n. apply_all old.register (take n changes)) (sym (length-append gone (k ∷ [])))
        ∙ ap (apply_all old.register) (front_of (gone ++ k ∷ []) later changes further)
        ∙ apply_all-push old.register now.register gone k made
        ∙ refusal cause told;
  }

  -- what a crash leaves within the next one
  left_within : (Holds : Register → Type 0) → apply_all old.register gone ≡ Ok now.register
      → Holds now.register ⊎ ((s : Register) × (apply now.register k ≡ Ok s) × Holds s) → IsAfterPrefix Holds old.register changes
  left_within Holds made left =
      elim left [
        | inl h ↦ left_at Holds old.register now.register changes gone rest going.whole made h
        | inr h ↦ left_at Holds old.register h.0 changes (gone ++ k ∷ []) later further (apply_all-push old.register now.register gone k made ∙ h.1) h.2
      ]

  -- the next one fails
  pub ended : (fault : OfficeFault) → Commits {T = ⊤} k now new (Err fault) → CommitsAll {T = ⊤} changes old new (Err fault)
  ended fault does = record {
    clean = λ clean. going.clean (does.clean clean);
    done = λ clean stands fit. tt;
    refused = λ clean stands fit.
        let so_far = going.so_far (does.clean clean) stands fit in
        refused_by fault so_far.made (does.refused clean so_far.stands);
    kept = λ clean stands fit is_open.
        let so_far = going.so_far (does.clean clean) stands fit in
        subst (λ r. EndsAt fault old.register r changes) (sym (does.same clean so_far.stands is_open))
        (ends_at fault so_far.made (refusal_of fault (does.refused clean so_far.stands)));
    left = λ clean stands fit content may.
        let so_far = going.so_far (does.clean clean) stands fit in
        left_within (new.holds content) so_far.made (does.left clean so_far.stands (fit_first now.register k rest later is so_far.fit) content may);
    counts = subst (λ told. CountsFault told new.told fault) going.untold does.counts;
  }

-- all changes are made
pub all_made : (changes : List Change) (old now : View) (gone rest : List Change) (x : ⊤) → rest ≡ [] → (now.clean → now.stands → Only now.register now)
    → IsGoing changes old now gone rest → CommitsAll changes old now (Ok x)
all_made changes old now gone rest x is alone going = record {
  clean = going.clean;
  done = λ clean stands fit.
      let so_far = going.so_far clean stands fit in
      (ap (apply_all old.register) (sym going.whole ∙ ap (λ ks. gone ++ ks) is ∙ append-nil gone) ∙ so_far.made, so_far.stands);
  refused = λ clean stands fit. tt;
  kept = λ clean stands fit is_open. tt;
  left = λ clean stands fit content may.
      let so_far = going.so_far clean stands fit in
      left_at (now.holds content) old.register now.register changes gone rest going.whole so_far.made (alone clean so_far.stands content may);
  counts = going.untold;
}
