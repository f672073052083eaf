-- The octets of each file that the office returned in a list.
use Rattle.std.proofs.Common.{◌≡◌, ◌+◌, ◌-◌, ◌*◌, ◌^◌, ◌<◌, ◌≤◌, ◌⊎◌, inl, inr, ℕ, zero, suc, add-one, min, List, [], ◌∷◌, ◌++◌, length, map, take, drop, get_or, slice_get, Some, Result, Ok, refl, sym, ap, subst, ◌∙◌, arith, take_all}
use Rattle.std.specs.Option.{option_map, unwrap_or}
use Rattle.std.proofs.Math.Seq.{take-suc}
use Rattle.std.proofs.lemmas.List.{length-drop, map-append}
use Rattle.std.proofs.lemmas.Option.{slice_get-map}
use Rattle.std.proofs.lemmas.Result.{IfOk-weaker}
use Rattle.oftp_vfile.specs.declared.format.Format.{Format}
use Rattle.oftp_vfile.specs.declared.format.Format.TheVariants.{Fixed, Unstructured, Text}
use Rattle.oftp_vfile.specs.declared.format.TheConstants.{BLOCK}
use Rattle.oftp_vfile.specs.VirtualFile.{units_in}
use Rattle.oftp_register.specs.declared.entries.IncomingEntry.{IncomingEntry}
use Rattle.oftp_register.specs.declared.entries.OutgoingEntry.{OutgoingEntry}
use Rattle.oftp_register.specs.declared.entries.Side.{Side}
use Rattle.oftp_register.specs.declared.entries.Side.TheVariants as side
use Rattle.oftp_register.specs.declared.fit.TheConstants.{MOST_UNITS}
use Rattle.oftp_register.specs.declared.office.OfficeFault.{OfficeFault}
use Rattle.oftp_register.specs.LookUps.{file_rows, incoming_entry, list_in, list_out, numbered, outgoing_entry, units_of}
use Rattle.oftp_register.specs.Offices.{LooksUp, Only, View}
use Rattle.oftp_register.specs.Register.{Register, Incoming, Outgoing}
use Rattle.oftp_register.specs.Soundness.{IsSound}
use Rattle.oftp_register.specs.Units.{units_in_blocks, units_told}
use Rattle.oftp_register.proofs.FileRowLemmas.{few_units}
use Rattle.oftp_register.proofs.FormatUnitLemmas.{units_of_file}
use Rattle.oftp_listing.specs.InsideResource.{CountsBlocks, IsAmong, IsListed}
use Rattle.oftp_listing.specs.Texts.{Asks}
use Rattle.oftp_listing.proofs.Asking.{asks_on, asks_once, told_first}

-- ---- what else a result says

-- of a register that is sound
pub looks_further : {S T : Type 0} {A : Register → S → Type 0} {B : Register → T → Type 0} (old new : View) (x : S) (y : T) → LooksUp A old new (Ok x)
    → (old.clean → old.stands → IsSound old.register) → ((r : Register) → IsSound r → A r x → B r y) → LooksUp B old new (Ok y)
looks_further old new x y looks sound further = record {
  clean = looks.clean;
  answer = λ k s. further old.register (sound (looks.clean k) s) (looks.answer k s);
  stays = looks.stays;
  register = looks.register;
  left = looks.left;
  unrefused = tt;
  counts = looks.counts;
}

-- whether or not an error is returned
pub looks_weaker : {T : Type 0} {A B : Register → T → Type 0} (old new : View) (result : Result T OfficeFault) → LooksUp A old new result
    → (old.clean → old.stands → IsSound old.register) → ((r : Register) (x : T) → IsSound r → A r x → B r x) → LooksUp B old new result
looks_weaker {A = A} {B = B} old new result looks sound weaker = record {
  clean = looks.clean;
  answer = λ k s. IfOk-weaker result (A old.register) (B old.register) (λ x told. weaker old.register x (sound (looks.clean k) s) told) (looks.answer k s);
  stays = looks.stays;
  register = looks.register;
  left = looks.left;
  unrefused = looks.unrefused;
  counts = looks.counts;
}

-- the office wasn't called
pub looks_at_nothing : {T : Type 0} {A : Register → T → Type 0} (v : View) (x : T) → (v.clean → v.stands → Only v.register v) → (v.clean → v.stands → A v.register x) → LooksUp A v v (Ok x)
looks_at_nothing v x alone told = record {
  clean = λ k. k;
  answer = told;
  stays = λ k s. s;
  register = λ k s is_open. refl;
  left = alone;
  unrefused = tt;
  counts = refl;
}

-- ---- the octets of a file

unsaturated : (x n : ℕ) → n ≡ min x (2 ^ 64 - 1) → x ≤ MOST_UNITS → n ≡ x
unsaturated x n is few = omega (arith, is, few)

-- of records of one length
pub records_listed : (r : Register) (which : Side) (n longest rows units : ℕ) → IsSound r → IsListed r which n Fixed longest rows
    → units ≡ min (rows * longest) (2 ^ 64 - 1) → units ≡ units_of r which n
records_listed r which n longest rows units sound listed is =
    let whole : rows * longest ≡ units_of r which n = ap (λ k. k * longest) listed.1 ∙ units_of_file r which n Fixed longest sound listed.0 in
    unsaturated (rows * longest) units is (subst (λ k. k ≤ MOST_UNITS) (sym whole) (few_units r which n sound)) ∙ whole

-- of blocks, of which only the last is measured
pub blocks_listed : (bodies : List (List ℕ)) (rows full product octets units : ℕ) (last : List (List ℕ)) → full ≡ rows - 1 → last ≡ take 1 (drop full bodies)
    → (length last ≤ 1 → octets ≡ units_in last) → product ≡ min (full * BLOCK) (2 ^ 64 - 1) → units ≡ min (product + octets) (2 ^ 64 - 1)
    → CountsBlocks rows bodies units
blocks_listed bodies rows full product octets units last full_is last_is octets_are product_is units_are counted few =
    let at : full ≡ length bodies - 1 = full_is ∙ ap (λ k. k - 1) counted in
    let one : length (drop full bodies) ≤ 1 = omega (arith, at, length-drop full bodies) in
    let same : last ≡ drop full bodies = last_is ∙ take_all 1 (drop full bodies) one in
    let measured : octets ≡ units_in (drop full bodies) = octets_are (subst (λ l. length l ≤ 1) (sym same) one) ∙ ap units_in same in
    let whole : full * BLOCK + units_in (drop full bodies) ≡ units_in_blocks bodies = ap (λ k. k * BLOCK + units_in (drop k bodies)) at in
    let small : full * BLOCK + units_in (drop full bodies) ≤ MOST_UNITS = subst (λ k. k ≤ MOST_UNITS) (sym whole) few in
    let front : product ≡ full * BLOCK = unsaturated (full * BLOCK) product product_is (omega (arith, small)) in
    let sum : product + octets ≡ full * BLOCK + units_in (drop full bodies) = ap (λ k. k + octets) front ∙ ap (λ k. full * BLOCK + k) measured in
    unsaturated (product + octets) units units_are (subst (λ k. k ≤ MOST_UNITS) (sym sum) small) ∙ sum ∙ whole

-- in U and T
in_blocks : (r : Register) (which : Side) (n longest rows units : ℕ) (format : Format) → IsSound r → IsListed r which n format longest rows
    → units_told format longest (file_rows r which n) ≡ units_in_blocks (file_rows r which n)
    → CountsBlocks rows (file_rows r which n) units → units ≡ units_of r which n
in_blocks r which n longest rows units format sound listed blocks told =
    let whole : units_in_blocks (file_rows r which n) ≡ units_of r which n = sym blocks ∙ units_of_file r which n format longest sound listed.0 in
    told listed.1 (subst (λ k. k ≤ MOST_UNITS) (sym whole) (few_units r which n sound)) ∙ whole

pub stream_listed : (r : Register) (which : Side) (n longest rows units : ℕ) (format : Format) → (format ≡ Unstructured) ⊎ (format ≡ Text) → IsSound r → IsListed r which n format longest rows
    → CountsBlocks rows (file_rows r which n) units → units ≡ units_of r which n
stream_listed r which n longest rows units format (inl is) sound listed =
    in_blocks r which n longest rows units format sound listed (ap (λ f. units_told f longest (file_rows r which n)) is)
stream_listed r which n longest rows units format (inr is) sound listed =
    in_blocks r which n longest rows units format sound listed (ap (λ f. units_told f longest (file_rows r which n)) is)

-- ---- the files of a list

-- an entry of a list is that of the file at its place
record IsOfFile {X E : Type 0} (entry : ℕ → X → E) (k : ℕ) (xs : List X) (i : ℕ) (e : E) : Type 0 where
  x : X
  there : slice_get xs i ≡ Some x
  is : e ≡ entry k x

of_file : {X E : Type 0} (entry : ℕ → X → E) (n i : ℕ) (xs : List X) (e : E) → slice_get (numbered entry n xs) i ≡ Some e → IsOfFile entry (n + i) xs i e
of_file entry n i [] e is = absurd (let no_such = is in cc)
of_file entry n zero (x ∷ xs) e is =
    let here : n ≡ n + 0 = omega arith in
    let same : e ≡ entry n x = cc in
    record { x = x; there = refl; is = same ∙ ap (λ m. entry m x) here }
of_file entry n (suc i) (x ∷ xs) e is =
    let later = of_file entry (n + 1) i xs e is in
    let here : (n + 1) + i ≡ n + suc i = omega arith in
    record { x = later.x; there = later.there; is = later.is ∙ ap (λ m. entry m later.x) here }

first_suc : (i : ℕ) → 1 + i ≡ suc i
first_suc i = omega arith

format_there : {X : Type 0} (format_of : X → Format × ℕ) (xs : List X) (i : ℕ) (x : X) → slice_get xs i ≡ Some x → Some (format_of x) ≡ option_map format_of (slice_get xs i)
format_there format_of xs i x is = sym (ap (option_map format_of) is)

rows_there : {X : Type 0} (rows : X → List (List ℕ)) (xs : List X) (i : ℕ) (x : X) → slice_get xs i ≡ Some x → length (rows x) ≡ length (unwrap_or (slice_get (map rows xs) i) [])
rows_there rows xs i x is = sym (ap (λ o. length (unwrap_or o [])) (slice_get-map rows xs i ∙ ap (option_map rows) is))

pub incoming_listed : (r : Register) (e : IncomingEntry) → IsAmong e (list_in r) → IsListed r side.Incoming e.no e.format e.longest e.rows
incoming_listed r e (i, is) =
    let file = of_file incoming_entry 1 i r.incoming e is in
    let here : e ≡ incoming_entry (suc i) file.x = file.is ∙ ap (λ m. incoming_entry m file.x) (first_suc i) in
    subst (λ (e : IncomingEntry). IsListed r side.Incoming e.no e.format e.longest e.rows) (sym here)
    (format_there (λ (f : Incoming). (f.format, f.longest)) r.incoming i file.x file.there, rows_there (λ (f : Incoming). f.rows) r.incoming i file.x file.there)

pub outgoing_listed : (r : Register) (e : OutgoingEntry) → IsAmong e (list_out r) → IsListed r side.Outgoing e.no e.format e.longest e.rows
outgoing_listed r e (i, is) =
    let file = of_file outgoing_entry 1 i r.outgoing e is in
    let here : e ≡ outgoing_entry (suc i) file.x = file.is ∙ ap (λ m. outgoing_entry m file.x) (first_suc i) in
    subst (λ (e : OutgoingEntry). IsListed r side.Outgoing e.no e.format e.longest e.rows) (sym here)
    (format_there (λ (f : Outgoing). (f.format, f.longest)) r.outgoing i file.x file.there, rows_there (λ (f : Outgoing). f.rows) r.outgoing i file.x file.there)

-- ---- one file after another

-- the office was asked for the numbers of these entries, of all that it returned
pub record IsAsked {E : Type 0} (all : Register → List E) (related : Register → E → ℕ) (old now : View) (told entries : List E) (numbers : List ℕ) : Type 0 where
  pub asks : Asks old now
  pub untold : now.told ≡ old.told
  pub right : now.clean → old.stands → told ≡ all old.register → numbers ≡ map (related old.register) entries

pub take_next : {E : Type 0} (entries : List E) (i : ℕ) (e : E) → i < length entries → e ≡ get_or entries i e → take (i + 1) entries ≡ take i entries ++ e ∷ []
take_next entries i e within is = rw add-one (take-suc entries i e within ∙ ap (λ (x : _). take i entries ++ x ∷ []) (sym is))

-- the next is one of them
is_there : {E : Type 0} (entries : List E) (i : ℕ) (e : E) → i < length entries → e ≡ get_or entries i e → slice_get entries i ≡ Some e
is_there [] i e within is = absurd (omega (arith, within))
is_there (x ∷ entries) zero e within is = ap Some (sym is)
is_there (x ∷ entries) (suc i) e within is = is_there entries i e (omega (arith, within)) is

pub is_among : {E : Type 0} (entries : List E) (i : ℕ) (e : E) → i < length entries → e ≡ get_or entries i e → IsAmong e entries
is_among entries i e within is = (i, is_there entries i e within is)

-- and of one more
pub asked_on : {E : Type 0} (all : Register → List E) (related : Register → E → ℕ) (old now new : View) (told entries : List E) (numbers longer : List ℕ) (e : E) (n : ℕ)
    → IsAsked all related old now told entries numbers → IsAmong e told → LooksUp (λ r n. IsAmong e (all r) → n ≡ related r e) now new (Ok n) → longer ≡ numbers ++ n ∷ []
    → IsAsked all related old new told (entries ++ e ∷ []) longer
asked_on all related old now new told entries numbers longer e n asked among looks grown = record {
  asks = asks_on old now new asked.asks asked.untold (asks_once now new (Ok n) looks);
  untold = looks.counts ∙ asked.untold;
  right = λ k s whole.
      let is : n ≡ related old.register e =
      told_first {Tells = λ r n. IsAmong e (all r) → n ≡ related r e} old now new n asked.asks asked.untold looks k s (subst (IsAmong e) whole among) in
      grown ∙ ap (λ ns. ns ++ n ∷ []) (asked.right (looks.clean k) s whole) ∙ ap (λ x. map (related old.register) entries ++ x ∷ []) is
      ∙ sym (map-append (related old.register) entries (e ∷ []));
}

-- and of all
pub asked_all : {E : Type 0} (all : Register → List E) (related : Register → E → ℕ) (old now : View) (told : List E) (i : ℕ) (numbers : List ℕ)
    → IsAsked all related old now told (take i told) numbers → length told ≤ i → now.clean → old.stands → told ≡ all old.register
    → numbers ≡ map (related old.register) (all old.register)
asked_all all related old now told i numbers asked long k s whole = asked.right k s whole ∙ ap (map (related old.register)) (take_all i told long ∙ whole)
