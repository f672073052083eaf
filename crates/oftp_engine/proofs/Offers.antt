-- From the look-ups and the commit of a submission to what it does.
use Rattle.std.proofs.Common.{◌≡◌, ◌∙◌, inl, inr, ap, sym, subst, refl, arith, ℕ, ◌+◌, ◌*◌, Bool, nat_lt, codes, true, false, cond, List, [], ◌∷◌, ◌++◌, length, find, Option, None, Some, is_some, Result, Ok, Err, length-append}
use Rattle.std.specs.Option.{IfNone, IfSome, option_map}
use Rattle.std.proofs.lemmas.Bool.{cases_Bool, cond-true, cond-false, ltb-false, or_parts}
use Rattle.std.proofs.lemmas.Slice.Eq.{bytes_eq-Decides}
use Rattle.std.specs.List.{list_any}
use Rattle.std.specs.Str.{bytes_eq}
use Rattle.oftp_vfile.specs.declared.format.Format.{Format}
use Rattle.oftp_vfile.specs.declared.format.Format.TheVariants.{Variable}
use Rattle.oftp_vfile.specs.declared.limits.Limits.{Limits}
use Rattle.oftp_vfile.specs.declared.format.TheConstants.{MOST_ROWS}
use Rattle.oftp_vfile.specs.LocalForm.{IsLocal, local_of, local_row}
use Rattle.oftp_vfile.specs.VirtualFile.{octets_in, units_in}
use Rattle.oftp_partners.specs.Book.{BookData, partner_at}
use Rattle.oftp_partners.specs.declared.partner.Partner.{Partner}
use Rattle.oftp_register.specs.declared.change.Cause.TheVariants as cause
use Rattle.oftp_register.specs.declared.change.Change.{Change}
use Rattle.oftp_register.specs.declared.change.Change.TheVariants as change
use Rattle.oftp_register.specs.declared.entries.OutgoingEntry.{OutgoingEntry}
use Rattle.oftp_register.specs.declared.entry.Identity.{Identity}
use Rattle.oftp_register.specs.declared.office.OfficeFault.{OfficeFault}
use Rattle.oftp_register.specs.declared.office.OfficeFault.TheVariants as office
use Rattle.oftp_register.specs.Register.{Outgoing, Register, same_identity}
use Rattle.oftp_register.specs.Changes.{apply, is_outgoing, new_outgoing}
use Rattle.oftp_register.specs.LookUps.{look_out, numbered, outgoing_entry}
use Rattle.oftp_register.specs.Offices.{Commits, LooksUp, Only, View, WithOrWithout, next_count}
use Rattle.oftp_register.specs.Soundness.{IsFile, IsFit}
use Rattle.oftp_register.proofs.AdditionLemmas.{submitted_ok}
use Rattle.oftp_register.proofs.ByIdentityLemmas.{same_self}
use Rattle.oftp_session.specs.Calls.{Makes}
use Rattle.oftp_engine.specs.declared.operating.Refusal.{Refusal}
use Rattle.oftp_engine.specs.declared.operating.Refusal.TheVariants as refusal
use Rattle.oftp_engine.specs.declared.operating.Told.{Told}
use Rattle.oftp_engine.specs.declared.operating.Told.TheVariants as told
use Rattle.oftp_engine.specs.declared.serving.RunFault.{RunFault}
use Rattle.oftp_engine.specs.declared.serving.RunFault.TheVariants as fault
use Rattle.oftp_engine.specs.declared.submitting.Fields.{Fields}
use Rattle.oftp_engine.specs.declared.submitting.Offer.{Offer}
use Rattle.oftp_engine.specs.declared.submitting.Submission.{Submission}
use Rattle.oftp_engine.specs.Operating.{Deed, IsFileOf, Submits, decided, done_line, identity_of, is_too_big, refuses, registered}
use Rattle.oftp_engine.specs.Operated.{Registers}
use Rattle.oftp_engine.specs.InsideOperating.{Attempts, fault_result}
use Rattle.oftp_engine.specs.InsideSubmitting.{AreFieldsOf, IsOffer, big_file_result, new_file_result, named_by}
use Rattle.oftp_engine.proofs.Deciding.{decides}

-- the number of octets of a local form: in V five more for each record
local_long : (rows : List (List ℕ)) → length (local_of Variable rows) ≡ 5 * length rows + units_in rows
local_long [] = refl
local_long (row ∷ rows) =
    omega (arith, length-append (local_row Variable row) (local_of Variable rows), length-append row (octets_in rows), local_long rows)

pub variable_long : (format : Format) (longest : ℕ) (content : List ℕ) (rows : List (List ℕ)) → format ≡ Variable → IsLocal format longest content rows
    → length content ≡ 5 * length rows + units_in rows
variable_long format longest content rows same file =
    ap (λ (x : List ℕ). length x) file.1 ∙ ap (λ (f : Format). length (local_of f rows)) same ∙ local_long rows

-- a partner that is found has the code
pub found_code : (code : List ℕ) (ps : List Partner) (p : Partner) → partner_at code ps ≡ Some p → p.code ≡ code
found_code code [] p h = absurd (cc)
found_code code (q ∷ ps) p h =
    elim (cases_Bool (bytes_eq q.code code)) [
      | inl same ↦ (let found : Some q ≡ Some p = sym (cond-true (bytes_eq q.code code) (Some q) (partner_at code ps) same) ∙ h in
          ap (λ (x : Partner). x.code) (let e : p ≡ q = cc in e) ∙ (bytes_eq-Decides q.code code).0 same)
      | inr other ↦ found_code code ps p (sym (cond-false (bytes_eq q.code code) (Some q) (partner_at code ps) other) ∙ h)
    ]

-- an entry has this identity
abbrev is_of : Identity → OutgoingEntry → Bool
is_of identity e = same_identity e.identity identity

-- a look-up finds a file where there is one
found_out : (identity : Identity) (n : ℕ) (files : List Outgoing)
    → is_some (find (is_of identity) (numbered outgoing_entry n files)) ≡ list_any (λ (f : Outgoing). same_identity f.identity identity) files
found_out identity n [] = refl
found_out identity n (f ∷ files) =
    elim (cases_Bool (same_identity f.identity identity)) [
      | inl same ↦ rw same refl
      | inr other ↦ rw other (found_out identity (n + 1) files)
    ]

-- a new file is found after the others
finds_new : (identity : Identity) (n : ℕ) (files : List Outgoing) (file : Outgoing) → list_any (λ (f : Outgoing). same_identity f.identity identity) files ≡ false
    → same_identity file.identity identity ≡ true → find (is_of identity) (numbered outgoing_entry n (files ++ file ∷ [])) ≡ Some (outgoing_entry (n + length files) file)
finds_new identity n [] file none same =
    let e : n ≡ n + 0 = omega arith in
    cond-true (same_identity file.identity identity) (Some (outgoing_entry n file)) None same ∙ ap (λ k. Some (outgoing_entry k file)) e
finds_new identity n (f ∷ files) file none same =
    let parts = or_parts (same_identity f.identity identity) _ none in
    let e : n + 1 + length files ≡ n + length (f ∷ files) = omega arith in
    cond-false (same_identity f.identity identity) (Some (outgoing_entry n f)) _ parts.0
    ∙ finds_new identity (n + 1) files file parts.1 same ∙ ap (λ k. Some (outgoing_entry k file)) e

module _ (identity : Identity) (s : Submission) (rows : List (List ℕ)) where
  abbrev file : Outgoing
  file = new_outgoing identity s.format s.longest s.description.now rows

  abbrev submission : Change
  submission = change.Submit identity s.format s.longest s.description.now rows

  -- a file whose identity exists is refused
  pub refuses_again : (r : Register) → is_outgoing r identity ≡ true → registered identity s rows r ≡ refuses refusal.Duplicate
  unfolding apply
  refuses_again r there =
      ap (decided (codes "done: submit ") (1 + length r.outgoing) submission) (cond-true (is_outgoing r identity) (Err cause.Duplicate) _ there)

  -- a file that is registered is found, with the next number
  pub found_new : (r after : Register) → apply r submission ≡ Ok after → look_out after identity ≡ Some (outgoing_entry (1 + length r.outgoing) file)
  unfolding apply
  found_new r after made =
      let added = submitted_ok r after file made in
      subst (λ (x : Register). look_out x identity ≡ Some (outgoing_entry (1 + length r.outgoing) file)) added.1
      (finds_new identity 1 r.outgoing file added.0 (same_self identity))

-- a call that does something of one kind does something of a wider kind
pub attempts_as : (verb : List ℕ) (P Q : Deed → Type 0) (old new : View) (result : Result Told RunFault) → ((deed : Deed) → P deed → Q deed)
    → Attempts verb P old new result → Attempts verb Q old new result
attempts_as verb P Q old new (Ok out) f a = (a.0, f a.0 a.1, a.2)
attempts_as verb P Q old new (Err fault.Read) f a = a
attempts_as verb P Q old new (Err fault.Write) f a = a
attempts_as verb P Q old new (Err fault.Office) f a = (a.0, f a.0 a.1, a.2)
attempts_as verb P Q old new (Err fault.Memory) f a = a

-- a refusal before the office was called
pub refuses_now : (verb : List ℕ) (P : Deed → Type 0) (now : View) (reason : Refusal) → now.stands → P (refuses reason) → Attempts verb P now now (Ok (told.Refused reason))
refuses_now verb P now reason stood is = (refuses reason, is, record { told = refl; line = refl; register = refl; stands = stood; faults = refl })

-- the office returned an error in a call that changes nothing
faults_unchanged : (verb : List ℕ) (deed : Deed) (old new : View) → deed.change ≡ None → (new.is_open → new.register ≡ old.register) → Only old.register new
    → new.told ≡ next_count old.told → Attempts verb (λ (d : Deed). d ≡ deed) old new (let r : Result Told RunFault = Err fault.Office in r)
faults_unchanged verb deed old new none same left counts = (
  deed,
  refl,
  record {
    cases = inl (record { register = same; left = subst (λ (c : Option Change). WithOrWithout c old.register new) (sym none) left });
    faults = counts;
  },
)

-- a file that exceeds the limits
module _ (identity : Identity) (old new : View) where
  abbrev there : Bool
  there = is_outgoing old.register identity

  abbrev big : Deed
  big = cond there (refuses refusal.Duplicate) (refuses refusal.Limit)

  unchanged : (b : Bool) → (cond b (refuses refusal.Duplicate) (refuses refusal.Limit)).change ≡ None
  unchanged true = refl
  unchanged false = refl

  pub decides_big : (looked : Result (Option OutgoingEntry) OfficeFault) → LooksUp (λ r found. found ≡ look_out r identity) old new looked → new.clean → old.stands
      → Attempts (codes "done: submit ") (λ (deed : Deed). deed ≡ big) old new (big_file_result looked)
  decides_big (Ok None) l clean stood =
      let none : there ≡ false = sym (found_out identity 1 old.register.outgoing) ∙ ap is_some (sym (l.answer clean stood)) in
      let stands = l.stays clean stood in (
        refuses refusal.Limit,
        sym (cond-false there (refuses refusal.Duplicate) (refuses refusal.Limit) none),
        record { told = refl; line = refl; register = l.register clean stood (new.opens stands); stands = stands; faults = l.counts },
      )
  decides_big (Ok (Some found)) l clean stood =
      let some : there ≡ true = sym (found_out identity 1 old.register.outgoing) ∙ ap is_some (sym (l.answer clean stood)) in
      let stands = l.stays clean stood in (
        refuses refusal.Duplicate,
        sym (cond-true there (refuses refusal.Duplicate) (refuses refusal.Limit) some),
        record { told = refl; line = refl; register = l.register clean stood (new.opens stands); stands = stands; faults = l.counts },
      )
  decides_big (Err office.Store) l clean stood = faults_unchanged (codes "done: submit ") big old new (unchanged there) (l.register clean stood) (l.left clean stood) l.counts
  decides_big (Err office.Memory) l clean stood = faults_unchanged (codes "done: submit ") big old new (unchanged there) (l.register clean stood) (l.left clean stood) l.counts
  decides_big (Err (office.Refused cause)) l clean stood = absurd l.unrefused

-- a file that was registered, and whose number is looked up
module _ (identity : Identity) (s : Submission) (rows : List (List ℕ)) (old mid new : View) where
  abbrev change' : Change
  change' = change.Submit identity s.format s.longest s.description.now rows

  abbrev number : ℕ
  number = 1 + length old.register.outgoing

  abbrev verb' : List ℕ
  verb' = codes "done: submit "

  -- the office returned an error in the look-up
  faults_made : apply old.register change' ≡ Ok mid.register → (new.is_open → new.register ≡ mid.register) → Only mid.register new → new.told ≡ next_count old.told
      → Attempts verb' (λ (deed : Deed). deed ≡ registered identity s rows old.register) old new (let r : Result Told RunFault = Err fault.Office in r)
  faults_made made same left counts =
      let is : registered identity s rows old.register ≡ decided verb' number change' (Ok mid.register) = ap (decided verb' number change') made in (
        registered identity s rows old.register,
        refl,
        record {
          cases = inr (record {
            registers = subst (λ (deed : Deed). Registers deed.change) (sym is) tt;
            after = mid.register;
            made = subst (λ (deed : Deed). Makes deed.change old.register mid.register) (sym is) made;
            register = same;
            left = left;
          });
          faults = counts;
        },
      )

  pub numbers : (looked : Result (Option OutgoingEntry) OfficeFault) → apply old.register change' ≡ Ok mid.register → mid.stands → mid.told ≡ old.told
      → LooksUp (λ r found. found ≡ look_out r identity) mid new looked → new.clean
      → Attempts verb' (λ (deed : Deed). deed ≡ registered identity s rows old.register) old new (new_file_result looked)
  numbers (Ok None) made stood counts l clean =
      let never : None ≡ Some (outgoing_entry number (new_outgoing identity s.format s.longest s.description.now rows)) =
      l.answer clean stood ∙ found_new identity s rows old.register mid.register made in absurd (cc)
  numbers (Ok (Some file)) made stood counts l clean =
      let found : Some file ≡ Some (outgoing_entry number (new_outgoing identity s.format s.longest s.description.now rows)) =
      l.answer clean stood ∙ found_new identity s rows old.register mid.register made in
      let entry : file ≡ outgoing_entry number (new_outgoing identity s.format s.longest s.description.now rows) = cc in
      let is : registered identity s rows old.register ≡ decided verb' number change' (Ok mid.register) = ap (decided verb' number change') made in
      let stands = l.stays clean stood in (
        registered identity s rows old.register,
        refl,
        record {
          told = ap (λ (e : OutgoingEntry). told.Done e.no) entry ∙ sym (ap (λ (deed : Deed). deed.told) is);
          line = ap (λ (e : OutgoingEntry). done_line verb' e.no) entry ∙ sym (ap (λ (deed : Deed). deed.line) is);
          register = subst (λ (deed : Deed). Makes deed.change old.register new.register) (sym is) (made ∙ ap Ok (sym (l.register clean stood (new.opens stands))));
          stands = stands;
          faults = l.counts ∙ counts;
        },
      )
  numbers (Err office.Store) made stood counts l clean = faults_made made (l.register clean stood) (l.left clean stood) (l.counts ∙ ap next_count counts)
  numbers (Err office.Memory) made stood counts l clean = faults_made made (l.register clean stood) (l.left clean stood) (l.counts ∙ ap next_count counts)
  numbers (Err (office.Refused cause)) made stood counts l clean = absurd l.unrefused

-- a file that is committed
module _ (identity identity' : Identity) (s : Submission) (words : List ℕ) (rows : List (List ℕ)) (same : identity' ≡ identity) (told : words ≡ s.description.now)
    (old mid : View) where
  abbrev verb'' : List ℕ
  verb'' = codes "done: submit "

  abbrev given : Change
  given = change.Submit identity' s.format s.longest words rows

  abbrev wanted : Change
  wanted = change.Submit identity s.format s.longest s.description.now rows

  same_change : given ≡ wanted
  same_change = ap (λ (i : Identity). change.Submit i s.format s.longest words rows) same ∙ ap (λ (d : List ℕ). change.Submit identity s.format s.longest d rows) told

  fit : IsFile s.format s.longest rows → IsFit old.register wanted
  unfolding IsFit
  fit file = file

  -- it isn't registered
  pub not_registered : {T : Type 0} (fault : OfficeFault) → Commits given old mid (let r : Result T OfficeFault = Err fault in r) → mid.clean → old.stands
      → IsFile s.format s.longest rows → Attempts verb'' (λ (deed : Deed). deed ≡ registered identity s rows old.register) old mid (fault_result 0 fault)
  not_registered {T = T} told commits clean stood file =
      let commits' = subst (λ (k : Change). Commits k old mid (let r : Result T OfficeFault = Err told in r)) same_change commits in
      subst (Attempts verb'' (λ (deed : Deed). deed ≡ registered identity s rows old.register) old mid) (numberless told)
      (decides verb'' (1 + length old.register.outgoing) wanted old mid (let r : Result T OfficeFault = Err told in r) commits' clean stood (fit file))
    where
      numberless : (fault : OfficeFault) → fault_result (1 + length old.register.outgoing) fault ≡ fault_result 0 fault
      numberless office.Store = refl
      numberless office.Memory = refl
      numberless (office.Refused cause) = refl

  -- it is registered, and its number is looked up
  pub is_registered : {T : Type 0} (x : T) (new : View) (looked : Result (Option OutgoingEntry) OfficeFault) → Commits given old mid (let r : Result T OfficeFault = Ok x in r)
      → LooksUp (λ r found. found ≡ look_out r identity) mid new looked → new.clean → old.stands → IsFile s.format s.longest rows
      → Attempts verb'' (λ (deed : Deed). deed ≡ registered identity s rows old.register) old new (new_file_result looked)
  is_registered {T = T} x new looked commits looks clean stood file =
      let commits' = subst (λ (k : Change). Commits k old mid (let r : Result T OfficeFault = Ok x in r)) same_change commits in
      let done = commits'.done (looks.clean clean) stood (fit file) in
      numbers identity s rows old mid new looked done.0 done.1 commits'.counts looks clean

-- the fields that were read name the file
names_file : (book : BookData) (p : Partner) (fields : Fields) (s : Submission) → AreFieldsOf s fields → p.code ≡ s.to.now → named_by book p fields ≡ identity_of book s
names_file book p fields s h code =
    ap (λ (x : List ℕ). record { dataset = x; date = fields.date; time = fields.time; originator = book.station.code; destination = p.code }) h.dataset
    ∙ ap (λ (x : List ℕ). record { dataset = s.dataset.now; date = x; time = fields.time; originator = book.station.code; destination = p.code }) h.date
    ∙ ap (λ (x : List ℕ). record { dataset = s.dataset.now; date = s.date.now; time = x; originator = book.station.code; destination = p.code }) h.time
    ∙ ap (λ (x : List ℕ). record { dataset = s.dataset.now; date = s.date.now; time = s.time.now; originator = book.station.code; destination = x }) code

-- a file within the limits is one that a register may have
pub is_file : (s : Submission) (rows : List (List ℕ)) (limits : Limits) → IsFileOf s rows → is_too_big limits rows ≡ false → IsFile s.format s.longest rows
is_file s rows limits file small = record {
  longest = file.fields.longest;
  few = ltb-false MOST_ROWS (length rows) (or_parts (nat_lt limits.octets (units_in rows)) (nat_lt MOST_ROWS (length rows)) small).1;
  fits = file.content.0;
}

-- the value of an option
pub none_at : {T P : Type 0} (o : Option T) → o ≡ None → IfNone o P → P
none_at None e h = h
none_at (Some x) e h = absurd (cc)

pub some_at : {T : Type 0} (P : T → Type 0) (o : Option T) (x : T) → o ≡ Some x → IfSome o P → P x
some_at P None x e h = absurd (cc)
some_at P (Some y) x e h = let same : y ≡ x = cc in subst P same h

-- no partner has the code, or one has it
pub missing_at : {T : Type 0} (f : T → Partner) (found : Option T) (code to : List ℕ) (ps : List Partner) → option_map f found ≡ partner_at code ps → code ≡ to → found ≡ None
    → is_some (partner_at to ps) ≡ false
missing_at f found code to ps value same none = ap (λ (x : List ℕ). is_some (partner_at x ps)) (sym same) ∙ ap is_some (sym value ∙ ap (option_map f) none)

found_at : (p : Partner) (code to : List ℕ) (ps : List Partner) → Some p ≡ partner_at code ps → code ≡ to → partner_at to ps ≡ Some p
found_at p code to ps value same = ap (λ (x : List ℕ). partner_at x ps) (sym same) ∙ sym value

-- the partner that gets a file is in the book, and its fields identify the file
pub record IsAddressed (book : BookData) (s : Submission) (p : Partner) (fields : Fields) : Type 0 where
  pub found : partner_at s.to.now book.partners ≡ Some p
  pub named : named_by book p fields ≡ identity_of book s

pub is_addressed : (book : BookData) (s : Submission) (p : Partner) (fields : Fields) (code : List ℕ) → AreFieldsOf s fields → Some p ≡ partner_at code book.partners
    → code ≡ s.to.now → IsAddressed book s p fields
is_addressed book s p fields code h value same =
    let found = found_at p code s.to.now book.partners value same in
    record { found = found; named = names_file book p fields s h (found_code s.to.now book.partners p found) }

-- what was read of a submission is a file
pub offered_file : (s : Submission) (offer : Offer) → IsOffer s offer → IsFileOf s offer.rows
offered_file s offer h = record { fields = h.fields.ranges; content = h.content }

-- what is submitted is a file, and it is registered or refused
module _ (book : BookData) (r : Register) (s : Submission) (rows : List (List ℕ)) (file : IsFileOf s rows) where
  abbrev here : Bool
  here = is_some (partner_at s.to.now book.partners)

  pub is_unknown : here ≡ false → Submits book r s (refuses refusal.Unknown)
  is_unknown missing = inl (rows, file, sym (cond-false here _ (refuses refusal.Unknown) missing))

  pub is_big : here ≡ true → is_too_big r.limits rows ≡ true → (deed : Deed)
      → deed ≡ cond (is_outgoing r (identity_of book s)) (refuses refusal.Duplicate) (refuses refusal.Limit) → Submits book r s deed
  is_big found many deed is =
      let limit = cond-true (is_too_big r.limits rows) (refuses refusal.Limit) (registered (identity_of book s) s rows r) many in
      inl (rows, file, is ∙ ap (cond (is_outgoing r (identity_of book s)) (refuses refusal.Duplicate)) (sym limit) ∙ sym (cond-true here _ (refuses refusal.Unknown) found))

  pub is_sent : here ≡ true → is_too_big r.limits rows ≡ false → (deed : Deed) → deed ≡ registered (identity_of book s) s rows r → Submits book r s deed
  is_sent found small deed is =
      let identity = identity_of book s in
      let sent = registered identity s rows r in
      let within : cond (is_too_big r.limits rows) (refuses refusal.Limit) sent ≡ sent = cond-false (is_too_big r.limits rows) (refuses refusal.Limit) sent small in
      let again : sent ≡ cond (is_outgoing r identity) (refuses refusal.Duplicate) sent =
      elim (cases_Bool (is_outgoing r identity)) [
        | inl there ↦ refuses_again identity s rows r there ∙ sym (cond-true (is_outgoing r identity) (refuses refusal.Duplicate) sent there)
        | inr new ↦ sym (cond-false (is_outgoing r identity) (refuses refusal.Duplicate) sent new)
      ] in
      inl (rows, file, is ∙ again ∙ ap (cond (is_outgoing r identity) (refuses refusal.Duplicate)) (sym within) ∙ sym (cond-true here _ (refuses refusal.Unknown) found))

-- a submitted file has the code of a partner in the book, and its identity is that of its fields
pub record IsArrived (book : BookData) (s : Submission) (offer : Offer) (identity : Identity) : Type 0 where
  pub offered : IsOffer s offer
  pub found : is_some (partner_at s.to.now book.partners) ≡ true
  pub named : identity ≡ identity_of book s

pub arrived : (book : BookData) (s : Submission) (read : Option Offer) (offer : Offer) (p : Partner) (code : List ℕ) (identity : Identity) → read ≡ Some offer → IfSome read (IsOffer s)
    → Some p ≡ partner_at code book.partners → code ≡ s.to.now → identity ≡ named_by book p offer.fields → IsArrived book s offer identity
arrived book s read offer p code identity is some value same named =
    let offered = some_at (IsOffer s) read offer is some in
    let to = is_addressed book s p offer.fields code offered.fields value same in
    record { offered = offered; found = ap is_some to.found; named = named ∙ to.named }

-- such a file exceeds the limits and is refused, or it is registered
module _ (book : BookData) (s : Submission) (offer : Offer) (identity : Identity) (it : IsArrived book s offer identity) (old new : View) (result : Result Told RunFault) where
  pub attempts_big : is_too_big old.register.limits offer.rows ≡ true
      → Attempts (codes "done: submit ") (λ deed. deed ≡ cond (is_outgoing old.register identity) (refuses refusal.Duplicate) (refuses refusal.Limit)) old new result
      → Attempts (codes "done: submit ") (Submits book old.register s) old new result
  attempts_big many does =
      attempts_as (codes "done: submit ") _ (Submits book old.register s) old new result
      (λ (deed : Deed) is. is_big book old.register s offer.rows (offered_file s offer it.offered) it.found many deed
      (is ∙ ap (λ (i : Identity). cond (is_outgoing old.register i) (refuses refusal.Duplicate) (refuses refusal.Limit)) it.named)) does

  pub attempts_sent : is_too_big old.register.limits offer.rows ≡ false
      → Attempts (codes "done: submit ") (λ deed. deed ≡ registered identity s offer.rows old.register) old new result
      → Attempts (codes "done: submit ") (Submits book old.register s) old new result
  attempts_sent few does =
      attempts_as (codes "done: submit ") _ (Submits book old.register s) old new result
      (λ (deed : Deed) is. is_sent book old.register s offer.rows (offered_file s offer it.offered) it.found few deed
      (is ∙ ap (λ (i : Identity). registered i s offer.rows old.register) it.named)) does
