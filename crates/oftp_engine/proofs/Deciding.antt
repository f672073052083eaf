-- From a commit and a line to what an operator's call does.
use Rattle.std.proofs.Common.{◌≡◌, ◌∙◌, inl, inr, ap, sym, subst, refl, arith, ℕ, ◌<◌, ◌≤◌, ◌&&◌, nat_le, codes, true, List, [], length, take, Option, Some, Result, Ok, Err, is_ok}
use Rattle.std.proofs.lemmas.Bool.{and_from, cond-true, false≢true, le-leb}
use Rattle.std.specs.Result.{IfErr, IfOk}
use Rattle.oftp_partners.specs.Book.{BookData}
use Rattle.oftp_register.specs.declared.change.Cause.{Cause}
use Rattle.oftp_register.specs.declared.change.Change.{Change}
use Rattle.oftp_register.specs.declared.change.Change.TheVariants as change
use Rattle.oftp_register.specs.declared.entry.ResponseKind.{ResponseKind}
use Rattle.oftp_register.specs.declared.entry.ResponseKind.TheVariants.{EndResponse, NegativeEndResponse}
use Rattle.oftp_register.specs.declared.office.OfficeFault.{OfficeFault}
use Rattle.oftp_register.specs.declared.office.OfficeFault.TheVariants as office
use Rattle.oftp_register.specs.Register.{Register}
use Rattle.oftp_register.specs.Changes.{apply}
use Rattle.oftp_register.specs.Offices.{Commits, Only, View, WithOrWithout, next_count}
use Rattle.oftp_register.specs.Soundness.{IsFit}
use Rattle.oftp_session.specs.Calls.{Makes}
use Rattle.oftp_engine.specs.declared.operating.Operator.{Operator}
use Rattle.oftp_engine.specs.declared.operating.Told.{Told}
use Rattle.oftp_io.specs.declared.port.Port.{Port}
use Rattle.oftp_engine.specs.declared.serving.RunFault.{RunFault}
use Rattle.oftp_engine.specs.declared.serving.RunFault.TheVariants as fault
use Rattle.oftp_io.specs.Ports.{Sent}
use Rattle.oftp_engine.specs.Serving.{Took, scene}
use Rattle.oftp_engine.specs.Operating.{Deed, IsDeed, decided, makes, refused, released}
use Rattle.oftp_engine.specs.InsideOperating.{verb_of, Attempts, AttemptsErr, MayFail, call_result, line_as}
use Rattle.oftp_engine.specs.Operated.{Operates, OperatesErr}
use Rattle.oftp_io.proofs.Bytes.{appends_none}

-- a refused change leaves the register unchanged
left_by : (verb : List ℕ) (n : ℕ) (change : Change) (r : Register) (now : View) (wanted : Result Register Cause) → apply r change ≡ wanted
    → WithOrWithout (Some change) r now → WithOrWithout (decided verb n change wanted).change r now
left_by verb n change r now (Ok after) e left = left
left_by verb n change r now (Err cause) e left = λ content may.
    elim (left content may) [ inl same ↦ same | inr made ↦ absurd (false≢true (ap is_ok (sym e ∙ made.1))) ]

-- after an error of the office, the change is made or not
module _ (verb : List ℕ) (n : ℕ) (change : Change) (old new : View) where
  leaves_open : (new.is_open → new.register ≡ old.register) → WithOrWithout (Some change) old.register new → new.told ≡ next_count old.told
      → AttemptsErr (λ deed. deed ≡ makes verb n change old.register) old new fault.Office
  leaves_open same left counts = (
    makes verb n change old.register,
    refl,
    record {
      cases = inl (record { register = same; left = left_by verb n change old.register new (apply old.register change) refl left });
      faults = counts;
    },
  )

-- what the office does with a change is what the call does
module _ {T : Type 0} (verb : List ℕ) (n : ℕ) (change : Change) (old new : View) where
  pub decides : (made : Result T OfficeFault) → Commits change old new made → new.clean → old.stands → IsFit old.register change
      → Attempts verb (λ deed. deed ≡ makes verb n change old.register) old new (call_result n made)
  decides (Ok x) c clean stood fit =
      let done = c.done clean stood fit in
      let same : makes verb n change old.register ≡ decided verb n change (Ok new.register) = ap (decided verb n change) done.0 in (
        makes verb n change old.register,
        refl,
        record {
          told = sym (ap (λ (deed : Deed). deed.told) same);
          line = sym (ap (λ (deed : Deed). deed.line) same);
          register = subst (λ (deed : Deed). Makes deed.change old.register new.register) (sym same) done.0;
          stands = done.1;
          faults = c.counts;
        },
      )
  decides (Err (office.Refused cause)) c clean stood fit =
      let refused = c.refused clean stood in
      let same : makes verb n change old.register ≡ decided verb n change (Err cause) = ap (decided verb n change) refused.0 in (
        makes verb n change old.register,
        refl,
        record {
          told = sym (ap (λ (deed : Deed). deed.told) same);
          line = sym (ap (λ (deed : Deed). deed.line) same);
          register = subst (λ (deed : Deed). Makes deed.change old.register new.register) (sym same) (c.same clean stood (new.opens refused.1));
          stands = refused.1;
          faults = c.counts;
        },
      )
  decides (Err office.Store) c clean stood fit = leaves_open verb n change old new (c.same clean stood) (c.left clean stood fit) c.counts
  decides (Err office.Memory) c clean stood fit = leaves_open verb n change old new (c.same clean stood) (c.left clean stood fit) c.counts

-- what the office does with a response to the file with a number
module _ (old new : View) (n reason : ℕ) (text : List ℕ) (result : Result Told RunFault) where
  abbrev Issues : List ℕ → ResponseKind → ℕ → List ℕ → Type 0
  Issues verb kind reason text = Attempts verb (λ (deed : Deed). deed ≡ makes verb n (change.Issue n kind reason text) old.register) old new result

  abbrev Issued : ResponseKind → Type 0
  Issued kind = IsFit old.register (change.Issue n kind reason text) → (verb : List ℕ) → Issues verb kind reason text

  -- a release has no reason and no text
  pub releases : reason ≡ 0 → text ≡ [] → Issued EndResponse → Attempts (codes "done: release ") (λ (deed : Deed). deed ≡ released old.register n) old new result
  unfolding IsFit
  releases zero none issued =
      let verb = codes "done: release " in
      subst (λ (words : List ℕ). Issues verb EndResponse 0 words) none
      (subst (λ (m : ℕ). Issues verb EndResponse m text) zero (issued (zero, refl, none) verb))

  -- a refusal has the reason and the text that were submitted, within their ranges
  pub refuses_so : (given : ℕ) (words : List ℕ) → reason ≡ given → text ≡ words → given ≤ 99 → length words ≤ 999 → Issued NegativeEndResponse
      → Attempts (codes "done: refuse ") (λ (deed : Deed). deed ≡ refused old.register n given words) old new result
  unfolding IsFit
  refuses_so given words same same_text few short issued =
      let verb = codes "done: refuse " in
      let within : (nat_le given 99 && nat_le (length words) 999) ≡ true = and_from _ _ (le-leb given 99 few) (le-leb (length words) 999 short) in
      let as_given = subst (λ (w : List ℕ). Issues verb NegativeEndResponse given w) same_text
      (subst (λ (m : ℕ). Issues verb NegativeEndResponse m text) same (issued tt verb)) in
      subst (λ (d : Deed). Attempts verb (λ (deed : Deed). deed ≡ d) old new result)
      (sym (cond-true (nat_le given 99 && nat_le (length words) 999) _ _ within)) as_given

-- the line of the office's decision
module _ {W : Type 0} (contents : W → Option (List ℕ)) (a d : Port W) (x y : View) (book : BookData) (call : Operator) where
  pub operated : (told' : Told) (result : Result Told RunFault) → (y.stands → Only y.register y)
      → Attempts (verb_of call) (IsDeed book x.register call) x y (let r : Result Told RunFault = Ok told' in r)
      → Sent contents a d (line_as (verb_of call) told') (is_ok result) → IfOk result (λ t. t ≡ told') → IfErr result (λ f. f ≡ fault.Write)
      → Operates book call (scene contents x a) (scene contents y d) result
  operated told' (Ok told) alone decided sent is err = (
    decided.0,
    decided.1,
    record {
      told = is ∙ decided.2.told;
      out = subst (Took (scene contents x a) (scene contents y d)) decided.2.line (record { contents = sent.wrote.contents; taken = sent.wrote.moved });
      register = decided.2.register;
      stands = decided.2.stands;
      left = alone decided.2.stands;
      faults = decided.2.faults;
      unfailed = sent.faults;
    },
  )
  operated told' (Err f) alone decided sent is err = subst (OperatesErr book call (scene contents x a) (scene contents y d)) (sym err) (
    decided.0,
    decided.1,
    record {
      count = sent.count;
      short = subst (λ (line : List ℕ). sent.count < length line) decided.2.line sent.short;
      out = subst (λ (line : List ℕ). Took (scene contents x a) (scene contents y d) (take sent.count line)) decided.2.line
          (record { contents = sent.wrote.contents; taken = sent.wrote.moved });
      register = decided.2.register;
      stands = decided.2.stands;
      left = alone decided.2.stands;
      faults = decided.2.faults;
      failed = sent.faults;
    },
  )

-- an error before any line is written
pub undecided : {W : Type 0} (contents : W → Option (List ℕ)) (a : Port W) (x y : View) (book : BookData) (call : Operator) (result : Result Told RunFault) (f : RunFault)
    → (y.stands → Only y.register y) → MayFail call f → AttemptsErr (IsDeed book x.register call) x y f → result ≡ Err f
    → Operates book call (scene contents x a) (scene contents y a) result
undecided contents a x y book call result f alone may failed same = subst (Operates book call (scene contents x a) (scene contents y a)) (sym same) (at f may failed)
  where
    at : (f : RunFault) → MayFail call f → AttemptsErr (IsDeed book x.register call) x y f → OperatesErr book call (scene contents x a) (scene contents y a) f
    at fault.Read may h = absurd h
    at fault.Write may h = absurd h
    at fault.Memory may h = (
      may,
      record {
        out = record { contents = appends_none (contents a.inner); taken = omega arith };
        register = h.register;
        stands = h.stands;
        left = alone h.stands;
        faults = h.faults;
        unfailed = refl;
      },
    )
    at fault.Office may h = (
      h.0,
      h.1,
      record {
        out = record { contents = appends_none (contents a.inner); taken = omega arith };
        cases = h.2.cases;
        faults = h.2.faults;
        unfailed = refl;
      },
    )
