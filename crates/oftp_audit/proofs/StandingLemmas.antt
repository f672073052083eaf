-- An audit finds an entry sound exactly if the register's own invariant holds of it.
use Rattle.std.proofs.Common.{◌≡◌, ℕ, suc, ◌<◌, ◌≤◌, ◌+◌, ◌-◌, ◌==◌, ◌&&◌, not, true, false, cond, nat_le, nat_lt, List, [], ◌∷◌, length, All, Option, None, Some, is_some, refl, ap, sym, ◌∙◌, arith}
use Rattle.std.proofs.lemmas.Bool.{and_from, and_parts, cond_both, eq-eqb, eqb-true, le-leb, leb-true, lt-ltb, ltb-true, ne_eqb}
use Rattle.std.proofs.lemmas.List.Elements.{All-cons, All-head, All-nil, All-tail}
use Rattle.std.specs.Option.{option_map}
use Rattle.oftp_vfile.specs.declared.format.Format.{Format}
use Rattle.oftp_vfile.specs.declared.format.Format.TheVariants.{Fixed, Variable, Unstructured, Text}
use Rattle.oftp_vfile.specs.declared.format.TheConstants.{BLOCK, LONGEST_RECORD, MOST_ROWS}
use Rattle.oftp_vfile.specs.VirtualFile.{AreBlocks, IsLongest}
use Rattle.oftp_register.specs.declared.entry.IncomingState.{IncomingState}
use Rattle.oftp_register.specs.declared.entry.IncomingState.TheVariants.{Open, Whole}
use Rattle.oftp_register.specs.declared.entry.ResponseKind.{ResponseKind}
use Rattle.oftp_register.specs.declared.entry.ResponseKind.TheVariants.{EndResponse, NegativeEndResponse}
use Rattle.oftp_register.specs.LookUps.{issued_response}
use Rattle.oftp_register.specs.Register.{Issued, Incoming, Outgoing, Received}
use Rattle.oftp_register.specs.Soundness.{FitsState, IsAnsweredWhole, IsResponse, IsSoundAnswer, IsSoundIncoming, IsSoundOutgoing, IsSoundReceived}
use Rattle.oftp_audit.specs.Losses.{allows, is_blank, is_full, is_last, is_open, may_have, may_say}
use Rattle.oftp_audit.specs.Passing.{AnswerPasses, IncomingStands, LengthsPass, OutgoingStands, ReceivedStands, SoundnessIsExact}
use Rattle.oftp_audit.specs.declared.loss.Loss.TheVariants as loss
use Rattle.oftp_audit.specs.declared.rows.Shape.{Shape}
use Rattle.oftp_audit.proofs.LossLemmas.{holds, told}

-- ---- the longest record

within_is : (longest : ℕ) → (0 < longest) × (longest ≤ LONGEST_RECORD) → (nat_lt 0 longest && nat_le longest LONGEST_RECORD) ≡ true
within_is longest h = and_from _ _ (lt-ltb 0 longest h.0) (le-leb longest LONGEST_RECORD h.1)

within_back : (longest : ℕ) → (nat_lt 0 longest && nat_le longest LONGEST_RECORD) ≡ true → (0 < longest) × (longest ≤ LONGEST_RECORD)
within_back longest h =
    let parts = and_parts (nat_lt 0 longest) (nat_le longest LONGEST_RECORD) h in
    (ltb-true 0 longest parts.0, leb-true longest LONGEST_RECORD parts.1)

zero_is : (n : ℕ) → n ≡ 0 → (n == 0) ≡ true
zero_is n e = eq-eqb n 0 e

longest_is : (format : Format) (longest : ℕ) → IsLongest format longest → allows format longest ≡ true
longest_is Fixed longest h = within_is longest h
longest_is Variable longest h = within_is longest h
longest_is Unstructured longest h = zero_is longest h
longest_is Text longest h = zero_is longest h

longest_back : (format : Format) (longest : ℕ) → allows format longest ≡ true → IsLongest format longest
longest_back Fixed longest h = within_back longest h
longest_back Variable longest h = within_back longest h
longest_back Unstructured longest h = eqb-true longest 0 h
longest_back Text longest h = eqb-true longest 0 h

-- ---- the lengths of rows

-- a fact of each row's length is a fact of all rows
lengths_all : (shape : Shape) (P : List ℕ → Type 0) → ((at : ℕ) (row : List ℕ) → may_have shape at (length row) ≡ true → P row) → (at : ℕ) (rows : List (List ℕ))
    → LengthsPass shape at rows → All P rows
lengths_all shape P means at [] h = All-nil P
lengths_all shape P means at (row ∷ rows) h =
    All-cons P row rows (means at row (holds (may_have shape at (length row)) loss.UnfitLength h.0)) (lengths_all shape P means (suc at) rows h.1)

all_lengths : (shape : Shape) (P : List ℕ → Type 0) → ((at : ℕ) (row : List ℕ) → P row → may_have shape at (length row) ≡ true) → (at : ℕ) (rows : List (List ℕ))
    → All P rows → LengthsPass shape at rows
all_lengths shape P means at [] h = tt
all_lengths shape P means at (row ∷ rows) h =
    (told (may_have shape at (length row)) loss.UnfitLength (means at row (All-head P row rows h)), all_lengths shape P means (suc at) rows (All-tail P row rows h))

number_are : (n m : ℕ) → n ≡ m → (n == m) ≡ true
number_are n m e = eq-eqb n m e

-- the shape of a file
abbrev shaped : Format → ℕ → IncomingState → ℕ → Shape
shaped format longest state rows = record { format = format; longest = longest; state = state; rows = rows }

-- in F and V the last row is like the others
fixed_have : (longest total : ℕ) (state : IncomingState) (at len : ℕ) → may_have (shaped Fixed longest state total) at len ≡ (len == longest)
fixed_have longest total Open at len = refl
fixed_have longest total Whole at len = cond_both (total - at == 1) (len == longest) (len == longest) (λ b. b ≡ (len == longest)) (λ _. refl) (λ _. refl)

variable_have : (longest total : ℕ) (state : IncomingState) (at len : ℕ) → may_have (shaped Variable longest state total) at len ≡ nat_le len longest
variable_have longest total Open at len = refl
variable_have longest total Whole at len = cond_both (total - at == 1) (nat_le len longest) (nat_le len longest) (λ b. b ≡ nat_le len longest) (λ _. refl) (λ _. refl)

fixed_lengths : (longest total : ℕ) (state : IncomingState) (at : ℕ) (rows : List (List ℕ)) → All (λ (r : List ℕ). length r ≡ longest) rows → LengthsPass (shaped Fixed longest state total) at rows
fixed_lengths longest total state =
    all_lengths (shaped Fixed longest state total) (λ (r : List ℕ). length r ≡ longest) (λ at row e. fixed_have longest total state at (length row) ∙ number_are (length row) longest e)

fixed_all : (longest total : ℕ) (state : IncomingState) (at : ℕ) (rows : List (List ℕ)) → LengthsPass (shaped Fixed longest state total) at rows → All (λ (r : List ℕ). length r ≡ longest) rows
fixed_all longest total state =
    lengths_all (shaped Fixed longest state total) (λ (r : List ℕ). length r ≡ longest) (λ at row h. eqb-true (length row) longest (sym (fixed_have longest total state at (length row)) ∙ h))

variable_lengths : (longest total : ℕ) (state : IncomingState) (at : ℕ) (rows : List (List ℕ)) → All (λ (r : List ℕ). length r ≤ longest) rows
    → LengthsPass (shaped Variable longest state total) at rows
variable_lengths longest total state =
    all_lengths (shaped Variable longest state total) (λ (r : List ℕ). length r ≤ longest) (λ at row e. variable_have longest total state at (length row) ∙ le-leb (length row) longest e)

variable_all : (longest total : ℕ) (state : IncomingState) (at : ℕ) (rows : List (List ℕ)) → LengthsPass (shaped Variable longest state total) at rows
    → All (λ (r : List ℕ). length r ≤ longest) rows
variable_all longest total state =
    lengths_all (shaped Variable longest state total) (λ (r : List ℕ). length r ≤ longest) (λ at row h. leb-true (length row) longest (sym (variable_have longest total state at (length row)) ∙ h))

-- in U and T each row of an incomplete file is a full block
block_lengths : (format : Format) (longest total : ℕ) → ((len : ℕ) → is_full format longest len ≡ (len == BLOCK)) → (at : ℕ) (rows : List (List ℕ))
    → All (λ (r : List ℕ). length r ≡ BLOCK) rows → LengthsPass (shaped format longest Open total) at rows
block_lengths format longest total full =
    all_lengths (shaped format longest Open total) (λ (r : List ℕ). length r ≡ BLOCK) (λ at row e. full (length row) ∙ number_are (length row) BLOCK e)

block_all : (format : Format) (longest total : ℕ) → ((len : ℕ) → is_full format longest len ≡ (len == BLOCK)) → (at : ℕ) (rows : List (List ℕ))
    → LengthsPass (shaped format longest Open total) at rows → All (λ (r : List ℕ). length r ≡ BLOCK) rows
block_all format longest total full =
    lengths_all (shaped format longest Open total) (λ (r : List ℕ). length r ≡ BLOCK) (λ at row h. eqb-true (length row) BLOCK (sym (full (length row)) ∙ h))

-- the last place, and one before it
at_last : (total at : ℕ) → total ≡ at + 1 → (total - at == 1) ≡ true
at_last total at e = eq-eqb (total - at) 1 (omega (arith, e))

before_last : (total at n : ℕ) → total ≡ at + suc (suc n) → (total - at == 1) ≡ false
before_last total at n e = ne_eqb (total - at) 1 (λ one. omega (arith, e, one))

-- in U and T the last row of a whole file may be shorter
record IsStream (format : Format) (longest : ℕ) : Type 0 where
  full : (len : ℕ) → is_full format longest len ≡ (len == BLOCK)
  last : (len : ℕ) → is_last format longest len ≡ (nat_lt 0 len && nat_le len BLOCK)

last_have : (format : Format) (longest total at len : ℕ) → IsStream format longest → total ≡ at + 1
    → may_have (shaped format longest Whole total) at len ≡ (nat_lt 0 len && nat_le len BLOCK)
last_have format longest total at len stream e = ap (λ b. cond b (is_last format longest len) (is_full format longest len)) (at_last total at e) ∙ stream.last len

full_have : (format : Format) (longest total at n len : ℕ) → IsStream format longest → total ≡ at + suc (suc n) → may_have (shaped format longest Whole total) at len ≡ (len == BLOCK)
full_have format longest total at n len stream e = ap (λ b. cond b (is_last format longest len) (is_full format longest len)) (before_last total at n e) ∙ stream.full len

stream_lengths : (format : Format) (longest total : ℕ) → IsStream format longest → (at : ℕ) (rows : List (List ℕ)) → total ≡ at + length rows → AreBlocks BLOCK rows
    → LengthsPass (shaped format longest Whole total) at rows
stream_lengths format longest total stream at [] e h = tt
stream_lengths format longest total stream at (r ∷ []) e h =
    (told _ loss.UnfitLength (last_have format longest total at (length r) stream e ∙ and_from _ _ (lt-ltb 0 (length r) h.0) (le-leb (length r) BLOCK h.1)), tt)
stream_lengths format longest total stream at (r ∷ q ∷ rs) e h = (
  told _ loss.UnfitLength (full_have format longest total at (length rs) (length r) stream e ∙ number_are (length r) BLOCK h.0),
  stream_lengths format longest total stream (suc at) (q ∷ rs) (omega (arith, e)) h.1,
)

stream_blocks : (format : Format) (longest total : ℕ) → IsStream format longest → (at : ℕ) (rows : List (List ℕ)) → total ≡ at + length rows
    → LengthsPass (shaped format longest Whole total) at rows → AreBlocks BLOCK rows
stream_blocks format longest total stream at [] e h = tt
stream_blocks format longest total stream at (r ∷ []) e h =
    let may = holds (may_have (shaped format longest Whole total) at (length r)) loss.UnfitLength h.0 in
    let parts = and_parts (nat_lt 0 (length r)) (nat_le (length r) BLOCK) (sym (last_have format longest total at (length r) stream e) ∙ may) in
    (ltb-true 0 (length r) parts.0, leb-true (length r) BLOCK parts.1)
stream_blocks format longest total stream at (r ∷ q ∷ rs) e h =
    let may = holds (may_have (shaped format longest Whole total) at (length r)) loss.UnfitLength h.0 in (
      eqb-true (length r) BLOCK (sym (full_have format longest total at (length rs) (length r) stream e) ∙ may),
      stream_blocks format longest total stream (suc at) (q ∷ rs) (omega (arith, e)) h.1,
    )

unstructured : (longest : ℕ) → IsStream Unstructured longest
unstructured longest = record { full = λ len. refl; last = λ len. refl }

text : (longest : ℕ) → IsStream Text longest
text longest = record { full = λ len. refl; last = λ len. refl }

-- the rows of a file fit its format
lengths_are : (state : IncomingState) (format : Format) (longest : ℕ) (rows : List (List ℕ)) → FitsState state format longest rows → LengthsPass (shaped format longest state (length rows)) 0 rows
lengths_are Open Fixed longest rows h = fixed_lengths longest (length rows) Open 0 rows h
lengths_are Open Variable longest rows h = variable_lengths longest (length rows) Open 0 rows h
lengths_are Open Unstructured longest rows h = block_lengths Unstructured longest (length rows) (λ len. refl) 0 rows h
lengths_are Open Text longest rows h = block_lengths Text longest (length rows) (λ len. refl) 0 rows h
lengths_are Whole Fixed longest rows h = fixed_lengths longest (length rows) Whole 0 rows h
lengths_are Whole Variable longest rows h = variable_lengths longest (length rows) Whole 0 rows h
lengths_are Whole Unstructured longest rows h = stream_lengths Unstructured longest (length rows) (unstructured longest) 0 rows (omega arith) h
lengths_are Whole Text longest rows h = stream_lengths Text longest (length rows) (text longest) 0 rows (omega arith) h

lengths_back : (state : IncomingState) (format : Format) (longest : ℕ) (rows : List (List ℕ)) → LengthsPass (shaped format longest state (length rows)) 0 rows → FitsState state format longest rows
lengths_back Open Fixed longest rows h = fixed_all longest (length rows) Open 0 rows h
lengths_back Open Variable longest rows h = variable_all longest (length rows) Open 0 rows h
lengths_back Open Unstructured longest rows h = block_all Unstructured longest (length rows) (λ len. refl) 0 rows h
lengths_back Open Text longest rows h = block_all Text longest (length rows) (λ len. refl) 0 rows h
lengths_back Whole Fixed longest rows h = fixed_all longest (length rows) Whole 0 rows h
lengths_back Whole Variable longest rows h = variable_all longest (length rows) Whole 0 rows h
lengths_back Whole Unstructured longest rows h = stream_blocks Unstructured longest (length rows) (unstructured longest) 0 rows (omega arith) h
lengths_back Whole Text longest rows h = stream_blocks Text longest (length rows) (text longest) 0 rows (omega arith) h

-- ---- responses

early_is : {A : Type 0} (state : IncomingState) (response : Option A) → IsAnsweredWhole state response → not (is_open state && is_some response) ≡ true
early_is Open response h = ap not h
early_is Whole response h = refl

early_back : {A : Type 0} (state : IncomingState) (response : Option A) → not (is_open state && is_some response) ≡ true → IsAnsweredWhole state response
early_back Open None h = refl
early_back Open (Some x) h = absurd (cc)
early_back Whole response h = tt

some_mapped : (response : Option Issued) → is_some (option_map issued_response response) ≡ is_some response
some_mapped None = refl
some_mapped (Some x) = refl

blank_back : (xs : List ℕ) → is_blank xs ≡ true → xs ≡ []
blank_back [] h = refl
blank_back (x ∷ xs) h = absurd (cc)

says_is : (kind : ResponseKind) (reason : ℕ) (creator text : List ℕ) → IsResponse kind reason creator text → may_say kind reason creator text ≡ true
says_is EndResponse reason creator text h = and_from _ _ (zero_is reason h.0) (and_from _ _ (ap is_blank h.1) (ap is_blank h.2))
says_is NegativeEndResponse reason creator text h = refl

says_back : (kind : ResponseKind) (reason : ℕ) (creator text : List ℕ) → may_say kind reason creator text ≡ true → IsResponse kind reason creator text
says_back EndResponse reason creator text h =
    let parts = and_parts (reason == 0) (is_blank creator && is_blank text) h in
    let blank = and_parts (is_blank creator) (is_blank text) parts.1 in
    (eqb-true reason 0 parts.0, blank_back creator blank.0, blank_back text blank.1)
says_back NegativeEndResponse reason creator text h = tt

answer_is : (response : Option Issued) → IsSoundAnswer response → AnswerPasses response
answer_is None h = tt
answer_is (Some x) h = told (may_say x.kind x.reason [] x.text) loss.UnfitWords (says_is x.kind x.reason [] x.text h)

answer_back : (response : Option Issued) → AnswerPasses response → IsSoundAnswer response
answer_back None h = tt
answer_back (Some x) h = says_back x.kind x.reason [] x.text (holds (may_say x.kind x.reason [] x.text) loss.UnfitWords h)

-- ---- entries

incoming_stands : (x : Incoming) → IsSoundIncoming x → IncomingStands x
incoming_stands x sound =
    let early : not (is_open x.state && is_some (option_map issued_response x.response)) ≡ true =
    ap (λ b. not (is_open x.state && b)) (some_mapped x.response) ∙ early_is x.state x.response sound.answered in
    record {
      entry = (
        told (allows x.format x.longest) loss.UnfitLongest (longest_is x.format x.longest sound.longest),
        (
          told (nat_le (length x.rows) MOST_ROWS) loss.UnfitCount (le-leb (length x.rows) MOST_ROWS sound.few),
          (
            told _ loss.UnfitResponse early,
            tt,
          ),
        ),
      );
      rows = lengths_are x.state x.format x.longest x.rows sound.fits;
      response = answer_is x.response sound.answer;
    }

incoming_sound : (x : Incoming) → IncomingStands x → IsSoundIncoming x
incoming_sound x stands =
    let entry = stands.entry in
    let early = holds (not (is_open x.state && is_some (option_map issued_response x.response))) loss.UnfitResponse entry.1.1.0 in
    record {
      longest = longest_back x.format x.longest (holds (allows x.format x.longest) loss.UnfitLongest entry.0);
      few = leb-true (length x.rows) MOST_ROWS (holds (nat_le (length x.rows) MOST_ROWS) loss.UnfitCount entry.1.0);
      fits = lengths_back x.state x.format x.longest x.rows stands.rows;
      answered = early_back x.state x.response (sym (ap (λ b. not (is_open x.state && b)) (some_mapped x.response)) ∙ early);
      answer = answer_back x.response stands.response;
    }

outgoing_stands : (x : Outgoing) → IsSoundOutgoing x → OutgoingStands x
outgoing_stands x sound = record {
  entry = (
    told (allows x.format x.longest) loss.UnfitLongest (longest_is x.format x.longest sound.longest),
    (
      told (nat_le (length x.rows) MOST_ROWS) loss.UnfitCount (le-leb (length x.rows) MOST_ROWS sound.few),
      (
        told (nat_le x.mark (length x.rows)) loss.UnfitMark (le-leb x.mark (length x.rows) sound.marked),
        tt,
      ),
    ),
  );
  rows = lengths_are Whole x.format x.longest x.rows sound.fits;
}

outgoing_sound : (x : Outgoing) → OutgoingStands x → IsSoundOutgoing x
outgoing_sound x stands =
    let entry = stands.entry in
    record {
      longest = longest_back x.format x.longest (holds (allows x.format x.longest) loss.UnfitLongest entry.0);
      few = leb-true (length x.rows) MOST_ROWS (holds (nat_le (length x.rows) MOST_ROWS) loss.UnfitCount entry.1.0);
      fits = lengths_back Whole x.format x.longest x.rows stands.rows;
      marked = leb-true x.mark (length x.rows) (holds (nat_le x.mark (length x.rows)) loss.UnfitMark entry.1.1.0);
    }

received_stands : (x : Received) → IsSoundReceived x → ReceivedStands x
received_stands x sound = told (may_say x.kind x.reason x.creator x.text) loss.UnfitWords (says_is x.kind x.reason x.creator x.text sound)

received_sound : (x : Received) → ReceivedStands x → IsSoundReceived x
received_sound x stands = says_back x.kind x.reason x.creator x.text (holds (may_say x.kind x.reason x.creator x.text) loss.UnfitWords stands)

pub soundness_is_exact : SoundnessIsExact
soundness_is_exact = record {
  incoming = λ x. (incoming_stands x, incoming_sound x);
  outgoing = λ x. (outgoing_stands x, outgoing_sound x);
  received = λ x. (received_stands x, received_sound x);
}
