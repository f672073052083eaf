-- What the changes of incoming files preserve.
use Rattle.std.proofs.Common.{◌≡◌, ◌⊎◌, ℕ, true, false, cond, nat_lt, nat_le, ◌≤◌, List, [], ◌∷◌, ◌++◌, length, take, map, All, Option, None, Some, is_some, Result, Ok, Err, refl, ap, sym, ◌∙◌, subst, inl, inr, arith, length-append, length-take}
use Rattle.std.proofs.lemmas.Bool.{cases_Bool, cond-true, cond-false, ltb-false}
use Rattle.std.proofs.lemmas.List.Elements.{All-cons, All-head, All-tail, All-nil}
use Rattle.std.specs.List.{list_any}
use Rattle.std.proofs.lemmas.Bool.{or_from}
use Rattle.oftp_vfile.specs.VirtualFile.{IsLongest}
use Rattle.oftp_vfile.specs.declared.format.TheConstants.{MOST_ROWS}
use Rattle.oftp_register.specs.declared.change.Cause.{Cause}
use Rattle.oftp_register.specs.declared.change.Cause.TheVariants.{State, Full}
use Rattle.oftp_register.specs.declared.entry.IncomingState.{IncomingState}
use Rattle.oftp_register.specs.declared.entry.IncomingState.TheVariants.{Open, Whole}
use Rattle.oftp_register.specs.declared.entry.Dispatch.{Dispatch}
use Rattle.oftp_register.specs.declared.entry.Dispatch.TheVariants.{Due, Sent}
use Rattle.oftp_register.specs.Register.{Register, Incoming, Issued, same_identity}
use Rattle.oftp_register.specs.Changes.{begun, closed, given_up, gone_on, if_open, if_unanswered, issued, issued_on, kept, mapped, sent, sent_as, sent_of, started_in}
use Rattle.oftp_register.specs.Soundness.{AreFullRows, AreNamedOnce, Ends, FitsState, GoesOn, IfOpen, IsAnsweredWhole, IsResponse, IsSoundAnswer, IsSoundIncoming, MayGoOn, MayStart}
use Rattle.oftp_register.proofs.NameLemmas.{once-append, same_identity-true}
use Rattle.oftp_register.proofs.NumberLemmas.{mapped_ok, not_both, one_result}
use Rattle.oftp_register.proofs.RowLemmas.{full-nil, full-append, rows-append}

-- an open file, and what is known of it
pub open_rows : (file : Incoming) → IsSoundIncoming file → file.state ≡ Open → AreFullRows file.format file.longest file.rows
open_rows file sound is = subst (λ state. FitsState state file.format file.longest file.rows) is sound.fits

pub open_unanswered : (file : Incoming) → IsSoundIncoming file → file.state ≡ Open → is_some file.response ≡ false
open_unanswered file sound is = subst (λ state. IsAnsweredWhole state file.response) is sound.answered

-- a change that only an open file allows
pub if_open_ok : (file : Incoming) (rows : List (List ℕ)) (next state : IncomingState) (after : Incoming) → if_open file rows next state ≡ Ok after
    → (state ≡ Open) × (record file { rows = rows; state = next } ≡ after)
if_open_ok file rows next Open after h = (refl, cc)
if_open_ok file rows next Whole after h = absurd (cc)

-- an incoming file in another state, with other rows that fit it
in_state_sound : (file : Incoming) (rows : List (List ℕ)) (next : IncomingState) → IsSoundIncoming file → length rows ≤ MOST_ROWS → FitsState next file.format file.longest rows
    → IsAnsweredWhole next file.response → IsSoundIncoming (record file { rows = rows; state = next })
in_state_sound file rows next sound few fits answered =
    record { longest = sound.longest; few = few; fits = fits; answered = answered; answer = sound.answer }

pub kept_sound : (rows : List (List ℕ)) (file after : Incoming) → IsSoundIncoming file → IfOpen file.state (GoesOn rows file) → kept rows file ≡ Ok after → IsSoundIncoming after
kept_sound rows file after sound asked h =
    let made = if_open_ok file (file.rows ++ rows) Open file.state after h in
    let fit : GoesOn rows file = subst (λ state. IfOpen state (GoesOn rows file)) made.0 asked in
    let fits = full-append file.format file.longest file.rows rows (open_rows file sound made.0) fit.fits in
    subst IsSoundIncoming made.1
    (in_state_sound file (file.rows ++ rows) Open sound (omega (arith, fit.few, length-append file.rows rows)) fits (open_unanswered file sound made.0))

pub closed_sound : (rows : List (List ℕ)) (file after : Incoming) → IsSoundIncoming file → IfOpen file.state (Ends rows file) → closed rows file ≡ Ok after → IsSoundIncoming after
closed_sound rows file after sound asked h =
    let made = if_open_ok file (file.rows ++ rows) Whole file.state after h in
    let fit : Ends rows file = subst (λ state. IfOpen state (Ends rows file)) made.0 asked in
    let fits = rows-append file.format file.longest file.rows rows (open_rows file sound made.0) fit.fits in
    subst IsSoundIncoming made.1 (in_state_sound file (file.rows ++ rows) Whole sound (omega (arith, fit.few, length-append file.rows rows)) fits tt)

pub given_up_sound : (file after : Incoming) → IsSoundIncoming file → given_up file ≡ Ok after → IsSoundIncoming after
given_up_sound file after sound h =
    let made = if_open_ok file [] Open file.state after h in
    subst IsSoundIncoming made.1 (in_state_sound file [] Open sound (omega arith) (full-nil file.format file.longest) (open_unanswered file sound made.0))

-- a response is issued only to a whole file
pub issued_on_ok : (response : Issued) (file : Incoming) (state : IncomingState) (after : Incoming) → issued_on response file state ≡ Ok after
    → (state ≡ Whole) × (record file { response = Some response } ≡ after)
issued_on_ok response file Open after h = absurd (cc)
issued_on_ok response file Whole after h = (refl, unanswered_ok file.response h)
  where
    unanswered_ok : (other : Option Issued) → if_unanswered response file other ≡ Ok after → record file { response = Some response } ≡ after
    unanswered_ok None g = cc
    unanswered_ok (Some other) g = absurd (cc)

pub issued_sound : (response : Issued) (file after : Incoming) → IsSoundIncoming file → IsResponse response.kind response.reason [] response.text → issued response file ≡ Ok after
    → IsSoundIncoming after
issued_sound response file after sound fit h =
    let made = issued_on_ok response file file.state after h in
    subst IsSoundIncoming made.1 (record {
      longest = sound.longest;
      few = sound.few;
      fits = sound.fits;
      answered = subst (λ state. IsAnsweredWhole state (Some response)) (sym made.0) tt;
      answer = fit;
    })

-- a response that was sent was issued
pub sent_of_ok : (file : Incoming) (response : Option Issued) (after : Incoming) → sent_of file response ≡ Ok after
    → (was : Issued) × (answer : Issued) × (response ≡ Some was) × (record file { response = Some answer } ≡ after) × (sent_as was was.dispatch ≡ Ok answer)
sent_of_ok file None after h = absurd (cc)
sent_of_ok file (Some response) after h =
    let part = mapped_ok (λ answer. record file { response = Some answer }) (sent_as response response.dispatch) after h in
    (response, part.0, refl, part.2, part.1)

-- a response says the same after it was sent
sent_as_says : (was answer : Issued) (dispatch : Dispatch) → sent_as was dispatch ≡ Ok answer → IsSoundAnswer (Some was) → IsSoundAnswer (Some answer)
sent_as_says was answer Due h says = subst (λ response. IsSoundAnswer (Some response)) (one_result (sent_as was Due) (record was { dispatch = Sent }) answer refl h) says
sent_as_says was answer Sent h says = absurd (cc)

answered_still : {A : Type 0} (state : IncomingState) (was is : A) (response : Option A) → response ≡ Some was → IsAnsweredWhole state response → IsAnsweredWhole state (Some is)
answered_still Open was is response some none = let e : true ≡ false = subst (λ r. is_some r ≡ false) some none in absurd (cc)
answered_still Whole was is response some none = tt

pub sent_sound : (file after : Incoming) → IsSoundIncoming file → sent file ≡ Ok after → IsSoundIncoming after
sent_sound file after sound h =
    let made = sent_of_ok file file.response after h in
    subst IsSoundIncoming made.3 (record {
      longest = sound.longest;
      few = sound.few;
      fits = sound.fits;
      answered = answered_still file.state made.0 made.1 file.response made.2 sound.answered;
      answer = sent_as_says made.0 made.1 made.0.dispatch made.4 (subst IsSoundAnswer made.2 sound.answer);
    })

-- none of these changes the identity
pub kept_same : (rows : List (List ℕ)) (file after : Incoming) → kept rows file ≡ Ok after → after.identity ≡ file.identity
kept_same rows file after h = ap (λ (f : Incoming). f.identity) (sym (if_open_ok file (file.rows ++ rows) Open file.state after h).1)

pub closed_same : (rows : List (List ℕ)) (file after : Incoming) → closed rows file ≡ Ok after → after.identity ≡ file.identity
closed_same rows file after h = ap (λ (f : Incoming). f.identity) (sym (if_open_ok file (file.rows ++ rows) Whole file.state after h).1)

pub given_up_same : (file after : Incoming) → given_up file ≡ Ok after → after.identity ≡ file.identity
given_up_same file after h = ap (λ (f : Incoming). f.identity) (sym (if_open_ok file [] Open file.state after h).1)

pub issued_same : (response : Issued) (file after : Incoming) → issued response file ≡ Ok after → after.identity ≡ file.identity
issued_same response file after h = ap (λ (f : Incoming). f.identity) (sym (issued_on_ok response file file.state after h).1)

pub sent_same : (file after : Incoming) → sent file ≡ Ok after → after.identity ≡ file.identity
sent_same file after h = ap (λ (f : Incoming). f.identity) (sym (sent_of_ok file file.response after h).3)

-- a file goes on if it is open and has these rows
pub gone_on_ok : (header : Incoming) (count : ℕ) (file : Incoming) (state : IncomingState) (after : Incoming) → gone_on header count file state ≡ Ok after
    → (state ≡ Open) × (record header { rows = take count file.rows; response = file.response } ≡ after) × (nat_lt (length file.rows) count ≡ false)
gone_on_ok header count file Open after h =
    let past = nat_lt (length file.rows) count in
    let going : Incoming = record header { rows = take count file.rows; response = file.response } in
    let answer : Result Incoming Cause = cond past (Err State) (Ok going) in
    elim (cases_Bool past) [
      | inl e ↦ absurd (not_both answer State after (cond-true past (Err State) (Ok going) e) h)
      | inr e ↦ (refl, one_result answer going after (cond-false past (Err State) (Ok going) e) h, e)
    ]
gone_on_ok header count file Whole after h = absurd (cc)

-- a header that starts a file
pub record Begins (header : Incoming) : Type 0 where
  pub longest : IsLongest header.format header.longest
  pub state : header.state ≡ Open
  pub rows : header.rows ≡ []
  pub response : header.response ≡ None

begins_sound : (header : Incoming) → Begins header → IsSoundIncoming header
begins_sound header begins = let none = full-nil header.format header.longest in record {
  longest = begins.longest;
  few = omega (arith, ap length begins.rows);
  fits = subst (λ state. FitsState state header.format header.longest header.rows) (sym begins.state)
      (subst (AreFullRows header.format header.longest) (sym begins.rows) none);
  answered = subst (λ state. IsAnsweredWhole state header.response) (sym begins.state) (ap is_some begins.response);
  answer = subst IsSoundAnswer (sym begins.response) tt;
}

-- a file starts at its first row
pub begun_ok : (r : Register) (header : Incoming) (count : ℕ) (after : Incoming) → begun r header count ≡ Ok after → (header ≡ after) × (count ≡ 0)
begun_ok r header count after h =
    let full = nat_le r.limits.files (length r.incoming) in
    let table : Result Incoming Cause = cond full (Err Full) (Ok header) in
    let answer : Result Incoming Cause = cond (nat_lt 0 count) (Err State) table in
    elim (cases_Bool (nat_lt 0 count)) [
      | inl e ↦ absurd (not_both answer State after (cond-true (nat_lt 0 count) (Err State) table e) h)
      | inr e ↦ (let room : table ≡ Ok after = sym (cond-false (nat_lt 0 count) (Err State) table e) ∙ h in
          elim (cases_Bool full) [
            | inl d ↦ absurd (not_both table Full after (cond-true full (Err Full) (Ok header) d) room)
            | inr d ↦ (one_result table header after (cond-false full (Err Full) (Ok header) d) room, omega (arith, ltb-false 0 count e))
          ])
    ]

-- a file that goes on stays sound
gone_on_sound : (header : Incoming) (count : ℕ) (file after : Incoming) → Begins header → IsSoundIncoming file → MayGoOn header.format header.longest count file
    → gone_on header count file file.state ≡ Ok after → IsSoundIncoming after
gone_on_sound header count file after begins sound asked h =
    let made = gone_on_ok header count file file.state after h in
    let fit = subst (λ state. IfOpen state (count ≤ length file.rows → AreFullRows header.format header.longest (take count file.rows))) made.0 asked (ltb-false (length file.rows) count made.2) in
    subst IsSoundIncoming made.1 (record {
      longest = begins.longest;
      few = omega (arith, length-take count file.rows, sound.few);
      fits = subst (λ state. FitsState state header.format header.longest (take count file.rows)) (sym begins.state) fit;
      answered = subst (λ state. IsAnsweredWhole state file.response) (sym begins.state) (open_unanswered file sound made.0);
      answer = sound.answer;
    })

-- the start of a file keeps the files sound
pub started_sound : (r : Register) (header : Incoming) (count : ℕ) (files after : List Incoming) → Begins header → All IsSoundIncoming files
    → All (MayStart header.identity header.format header.longest count) files
    → started_in r header count files ≡ Ok after → All IsSoundIncoming after
unfolding MayStart
started_sound r header count [] after begins all fit h =
    let part = mapped_ok (λ f. f ∷ []) (begun r header count) after h in
    subst (All IsSoundIncoming) part.2 (All-cons IsSoundIncoming part.0 [] (subst IsSoundIncoming (begun_ok r header count part.0 part.1).0 (begins_sound header begins)) (All-nil IsSoundIncoming))
started_sound r header count (file ∷ files) after begins all fit h =
    let named = same_identity file.identity header.identity in
    let going = mapped (λ f. f ∷ files) (gone_on header count file file.state) in
    let later = mapped (λ fs. file ∷ fs) (started_in r header count files) in
    let Fit = MayStart header.identity header.format header.longest count in
    let first = All-head IsSoundIncoming file files all in
    let rest = All-tail IsSoundIncoming file files all in
    elim (cases_Bool named) [
      | inl e ↦ (let part = mapped_ok (λ f. f ∷ files) (gone_on header count file file.state) after (sym (cond-true named going later e) ∙ h) in
          let gone = gone_on_sound header count file part.0 begins first (All-head Fit file files fit e) part.1 in
          subst (All IsSoundIncoming) part.2 (All-cons IsSoundIncoming part.0 files gone rest))
      | inr e ↦ (let part = mapped_ok (λ fs. file ∷ fs) (started_in r header count files) after (sym (cond-false named going later e) ∙ h) in
          let later = started_sound r header count files part.0 begins rest (All-tail Fit file files fit) part.1 in
          subst (All IsSoundIncoming) part.2 (All-cons IsSoundIncoming file part.0 first later))
    ]

-- the identities after a start: as before, or with one more that is new
started_names : (r : Register) (header : Incoming) (count : ℕ) (files after : List Incoming) → started_in r header count files ≡ Ok after
    → (map (λ (f : Incoming). f.identity) after ≡ map (λ (f : Incoming). f.identity) files)
    ⊎ ((map (λ (f : Incoming). f.identity) after ≡ map (λ (f : Incoming). f.identity) files ++ header.identity ∷ [])
    × (list_any (λ x. same_identity x header.identity) (map (λ (f : Incoming). f.identity) files) ≡ false))
started_names r header count [] after h =
    let part = mapped_ok (λ f. f ∷ []) (begun r header count) after h in
    inr (ap (map (λ (f : Incoming). f.identity)) (sym part.2) ∙ ap (λ (f : Incoming). f.identity ∷ []) (sym (begun_ok r header count part.0 part.1).0), refl)
started_names r header count (file ∷ files) after h =
    let name = λ (f : Incoming). f.identity in
    let named = same_identity file.identity header.identity in
    let going = mapped (λ f. f ∷ files) (gone_on header count file file.state) in
    let later = mapped (λ fs. file ∷ fs) (started_in r header count files) in
    elim (cases_Bool named) [
      | inl e ↦ (let part = mapped_ok (λ f. f ∷ files) (gone_on header count file file.state) after (sym (cond-true named going later e) ∙ h) in
          let same = ap name (sym (gone_on_ok header count file file.state part.0 part.1).1) ∙ sym (same_identity-true file.identity header.identity e) in
          inl (ap (map name) (sym part.2) ∙ ap (λ x. x ∷ map name files) same))
      | inr e ↦ (let part = mapped_ok (λ fs. file ∷ fs) (started_in r header count files) after (sym (cond-false named going later e) ∙ h) in
          elim (started_names r header count files part.0 part.1) [
            | inl same ↦ inl (ap (map name) (sym part.2) ∙ ap (λ xs. file.identity ∷ xs) same)
            | inr more ↦ inr (ap (map name) (sym part.2) ∙ ap (λ xs. file.identity ∷ xs) more.0, or_from named (list_any (λ x. same_identity x header.identity) (map name files)) e more.1)
          ])
    ]

-- the start of a file keeps the identities different
pub started_once : (r : Register) (header : Incoming) (count : ℕ) (files after : List Incoming) → AreNamedOnce (map (λ (f : Incoming). f.identity) files) → started_in r header count files ≡ Ok after
    → AreNamedOnce (map (λ (f : Incoming). f.identity) after)
started_once r header count files after once h =
    elim (started_names r header count files after h) [
      | inl same ↦ subst AreNamedOnce (sym same) once
      | inr more ↦ subst AreNamedOnce (sym more.0) (once-append (map (λ (f : Incoming). f.identity) files) header.identity once more.1)
    ]
