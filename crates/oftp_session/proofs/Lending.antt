-- A filler borrows rows of a register, and makes the next payload from them.
use Rattle.std.proofs.Common.{◌≡◌, ℕ, suc, zero, ◌+◌, ◌-◌, ◌≤◌, Bool, min, List, [], ◌∷◌, ◌++◌, length, take, drop, slice_get, None, Some, refl, sym, ap, ◌∙◌, subst, arith, inl, inr}
use Rattle.std.proofs.Math.Seq.{take-add}
use Rattle.std.proofs.lemmas.Bool.{cases_lt, eqb-true, eqb-false}
use Rattle.std.proofs.lemmas.List.{length-drop, length-take, take-append-drop, take_min, drop-drop, drop-take}
use Rattle.oftp_codec.specs.Header.{header_of}
use Rattle.oftp_vfile.specs.declared.format.Format.{Format}
use Rattle.oftp_vfile.specs.VirtualFile.{AreRows, IsLongest}
use Rattle.oftp_vfile.specs.Fill.{payloads_of}
use Rattle.oftp_vfile.specs.Filling.{Filling, AreLent, IsInRows, Moves, Sent}
use Rattle.oftp_vfile.proofs.LendLemmas.{behind_lent, rows_from as left_rows}
use Rattle.oftp_register.specs.declared.entries.Side.TheVariants as side
use Rattle.oftp_register.specs.LookUps.{rows_of}
use Rattle.oftp_register.specs.Register.{Register}
use Rattle.oftp_register.specs.Soundness.{IsSound, IsSoundOutgoing}
use Rattle.oftp_register.proofs.RowLemmas.{rows-part}
use Rattle.oftp_register.proofs.EntryLemmas.{all_at}
use Rattle.oftp_session.specs.declared.frame.TheConstants.{DATA_HEAD}
use Rattle.oftp_session.specs.declared.sending.OutgoingTransfer.{OutgoingTransfer}
use Rattle.oftp_session.specs.declared.state.Contact.{Contact}
use Rattle.oftp_session.specs.Phases.{Transfer}
use Rattle.oftp_session.specs.Sending.{payload_size, payloads_in, rows_from}
use Rattle.oftp_session.specs.Steps.{IsSent}
use Rattle.oftp_session.specs.Standings.{AreAtHand, Ships, at_hand}
use Rattle.oftp_session.specs.InsideFrame.{IsAllSent, IsNextData}
use Rattle.oftp_session.specs.InsidePayloads.{IsDataSaid, MayLend, is_last, next_row}
use Rattle.oftp_session.proofs.Framing.{data_framed}
use Rattle.oftp_session.proofs.Items.{rows_lent_are}

-- what a filler wrote after a header is the next DATA
pub next_data : (size room count : ℕ) (old new : Filling) (rows : List (List ℕ)) (last : Bool) (head out rest : List ℕ) → room ≡ size → length out ≡ room → count ≤ room
    → head ≡ header_of (count + 5) ++ 68 ∷ [] → Moves old new rows last
    → ((from : ℕ) (file payloads : List (List ℕ)) → Sent old room from file payloads → AreLent old from file rows last → Sent new room from file (payloads ++ take count out ∷ []))
    → (count ≤ size) × IsNextData size old new rows last (take (count + DATA_HEAD) (head ++ (out ++ rest)))
next_data size room count old new rows last head out rest e l within h moves sent = (
  omega arith,
  record {
    payload = take count out;
    said = data_framed head out rest count h (omega arith);
    moves = moves;
    sent = subst (λ n. (from : ℕ) (file payloads : List (List ℕ)) → Sent old n from file payloads → AreLent old from file rows last → Sent new n from file (payloads ++ take count out ∷ [])) e sent;
  },
)

-- the file that is sent is one that a register may have
pub sound_file : (r : Register) (t : Transfer) → IsSound r → IsSent r t → IsSoundOutgoing t.file
sound_file r t sound holds = all_at IsSoundOutgoing t.number r.outgoing t.file sound.outgoing holds.entry

left_from : (contact : Contact) (t : Transfer) (s : OutgoingTransfer) → Ships contact t s → drop (s.filler.row - t.from) (rows_from t) ≡ drop s.filler.row t.file.rows
left_from contact t s at =
    let began = at.sent.began in
    drop-drop (s.filler.row - t.from) t.from t.file.rows ∙ ap (λ n. drop n t.file.rows) (omega (arith, began))

-- The filler is within the file, and so are the rows at hand.
record IsWithin (t : Transfer) (s : OutgoingTransfer) : Type 0 where
  row : s.filler.row ≤ length t.file.rows
  left : length (drop s.filler.row t.file.rows) ≡ length t.file.rows - s.filler.row
  hand : length (at_hand s.page) ≤ length t.file.rows - s.filler.row

within : (r : Register) (contact : Contact) (t : Transfer) (s : OutgoingTransfer) → IsSent r t → Ships contact t s → IsWithin t s
within r contact t s holds at =
    let rest = drop s.filler.row t.file.rows in
    let w = at.sent.within in
    let f = holds.within in
    let left : length rest ≡ length t.file.rows - s.filler.row = length-drop s.filler.row t.file.rows in
    let count : length (at_hand s.page) ≡ min (length (at_hand s.page)) (length rest) = ap length at.page.first ∙ length-take (length (at_hand s.page)) rest in
    record { row = omega (arith, w, f, length-drop t.from t.file.rows); left = left; hand = omega (arith, count, left) }

-- the filler may borrow the rows at hand
pub are_lent : (r : Register) (contact : Contact) (t : Transfer) (s : OutgoingTransfer) → IsSound r → IsSent r t → Ships contact t s
    → AreLent s.filler t.from (rows_from t) (at_hand s.page) (is_last s)
are_lent r contact t s sound holds at =
    let file = sound_file r t sound holds in
    let format = sym at.format in
    let longest = subst (λ (f : Format). IsLongest f t.file.longest) format file.longest in
    let hand = at_hand s.page in
    let n = length hand in
    let rest = drop s.filler.row t.file.rows in
    let more = drop n rest in
    let fits = left_rows t.file.format t.file.longest n rest (left_rows t.file.format t.file.longest s.filler.row t.file.rows file.fits) in
    let are = subst (λ (f : Format). AreRows f t.file.longest more) format fits in
    let w = within r contact t s holds at in
    let count : length more ≡ length rest - n = length-drop n rest in
    let row = w.row in
    let left = w.left in
    let few = w.hand in
    let total = at.rows in (
      more,
      left_from contact t s at ∙ sym (take-append-drop n rest) ∙ ap (λ (x : List (List ℕ)). x ++ more) (sym at.page.first),
      behind_lent s.filler.format t.file.longest (is_last s) more longest are
          (λ q. let all = eqb-true (s.filler.row + n) s.rows q in omega (arith, all, count, left, row, total))
          (λ q. elim (cases_lt (s.filler.row + n) s.rows) [
            | inl l ↦ omega (arith, l, count, left, row, total)
            | inr g ↦ absurd (eqb-false (s.filler.row + n) s.rows q (omega (arith, g, row, few, total)))
          ]),
    )

-- the rows at hand of a sound register pass the checks
pub may_lend : (r : Register) (contact : Contact) (t : Transfer) (s : OutgoingTransfer) → IsSound r → IsSent r t → Ships contact t s → MayLend s (at_hand s.page)
may_lend r contact t s sound holds at =
    let file = sound_file r t sound holds in
    let n = length (at_hand s.page) in
    let w = within r contact t s holds at in
    let row = w.row in
    let hand = w.hand in
    let total = at.rows in
    let few = file.few in
    record {
      within = omega (arith, row, hand, total);
      few = omega (arith, row, hand, few);
      fits =
          subst (λ (f : Format). AreRows f s.longest (at_hand s.page)) (sym at.format)
          (subst (λ k. AreRows t.file.format k (at_hand s.page)) (sym at.longest)
          (subst (λ (x : List (List ℕ)). AreRows t.file.format t.file.longest x) (sym at.page.first) (rows-part t.file.format t.file.longest s.filler.row n t.file.rows file.fits)));
      place = at.page.place;
    }

-- a part of the first rows is taken whole
take_whole : (n : ℕ) (xs rows : List (List ℕ)) → xs ≡ take n rows → xs ≡ take (length xs) rows
take_whole n xs rows e = e ∙ sym (take_min n rows) ∙ ap (λ k. take k rows) (sym (ap length e ∙ length-take n rows))

-- the filler's place is in the first row, whatever follows it
place_in : (f : Filling) (rows more : List (List ℕ)) → IsInRows f rows → IsInRows f (rows ++ more)
place_in f [] more h = λ some. absurd (let no = h some in omega (arith, no))
place_in f (r ∷ rs) more h = h

-- rows that are looked up are added to those at hand
pub looked_up : (r : Register) (contact : Contact) (t : Transfer) (s : OutgoingTransfer) (most : ℕ) (rows more : List (List ℕ)) → IsSent r t → Ships contact t s
    → more ≡ rows_of r side.Outgoing s.number (next_row s) most → rows ≡ at_hand s.page ++ more → Ships contact t (record s { page = Some rows })
looked_up r contact t s most rows more holds at e is =
    let hand = at_hand s.page in
    let n = length hand in
    let rest = drop s.filler.row t.file.rows in
    let found : more ≡ take most (drop n rest) =
    e ∙ ap (λ k. rows_of r side.Outgoing k (next_row s) most) at.number ∙ rows_lent_are r t.number (next_row s) most t.file holds.entry
    ∙ ap (take most) (sym (drop-drop n s.filler.row t.file.rows)) in
    let all : rows ≡ take (n + most) rest = is ∙ ap (λ (x : List (List ℕ)). x ++ more) at.page.first ∙ ap (λ (x : List (List ℕ)). take n rest ++ x) found ∙ sym (take-add n most rest) in
    record {
      number = at.number;
      format = at.format;
      longest = at.longest;
      rows = at.rows;
      units = at.units;
      mark = at.mark;
      credit = at.credit;
      covered = at.covered;
      room = at.room;
      most = at.most;
      sent = at.sent;
      page = record { first = take_whole (n + most) rows rest all; place = subst (λ (x : List (List ℕ)). IsInRows s.filler x) (sym is) (place_in s.filler hand more at.page.place) };
    }

-- rows that are wholly sent are dropped
left_at_hand : (t : Transfer) (s new : OutgoingTransfer) (last : Bool) → AreAtHand t.file.rows s → Moves s.filler new.filler (at_hand s.page) last
    → at_hand new.page ≡ drop (new.filler.row - s.filler.row) (at_hand s.page) → AreAtHand t.file.rows new
left_at_hand t s new last are moves e =
    let k = new.filler.row - s.filler.row in
    let n = length (at_hand s.page) in
    let rest = drop s.filler.row t.file.rows in
    let ahead = moves.ahead in
    let within = moves.within in
    let split : n ≡ k + (n - k) = omega (arith, within) in
    let place : s.filler.row + k ≡ new.filler.row = omega (arith, ahead) in
    let first : at_hand new.page ≡ take (n - k) (drop new.filler.row t.file.rows) =
    e ∙ ap (drop k) (are.first ∙ ap (λ m. take m rest) split) ∙ drop-take k (n - k) rest
    ∙ ap (take (n - k)) (drop-drop k s.filler.row t.file.rows ∙ ap (λ m. drop m t.file.rows) place) in
    record {
      first = take_whole (n - k) (at_hand new.page) (drop new.filler.row t.file.rows) first;
      place = subst (λ (x : List (List ℕ)). IsInRows new.filler x) (sym e) moves.place;
    }

-- the payload after the first ones
behind : (k : ℕ) (all rest : List (List ℕ)) (p : List ℕ) → k ≤ length all → (take k all ++ p ∷ []) ++ rest ≡ all → (slice_get all k ≡ Some p) × (take (suc k) all ≡ take k all ++ p ∷ [])
behind zero [] rest p h e = absurd (let no : ⊥ = cc in no)
behind zero (x ∷ xs) rest p h e = let q : p ≡ x = cc in (ap (λ (y : List ℕ). Some y) (sym q), ap (λ (y : List ℕ). y ∷ []) (sym q))
behind (suc k) [] rest p h e = absurd (omega arith)
behind (suc k) (x ∷ xs) rest p h e =
    let q : (take k xs ++ p ∷ []) ++ rest ≡ xs = cc in
    let ih = behind k xs rest p (omega arith) q in
    (ih.0, ap (λ (ys : List (List ℕ)). x ∷ ys) ih.1)

none_behind : (k : ℕ) (all : List (List ℕ)) → take k all ≡ all → slice_get all k ≡ None
none_behind zero [] e = refl
none_behind zero (x ∷ xs) e = absurd (let no : ⊥ = cc in no)
none_behind (suc k) [] e = refl
none_behind (suc k) (x ∷ xs) e = none_behind k xs (let q : take k xs ≡ xs = cc in q)

-- a DATA that was made has the next payload of the file
pub data_said : (contact : Contact) (t : Transfer) (s new : OutgoingTransfer) (size : ℕ) (last : Bool) (frame : List ℕ) → Ships contact t s
    → size ≡ payload_size contact → AreLent s.filler t.from (rows_from t) (at_hand s.page) last → at_hand new.page ≡ drop (new.filler.row - s.filler.row) (at_hand s.page)
    → IsNextData size s.filler new.filler (at_hand s.page) last frame → IsDataSaid contact t new frame
data_said contact t s new size last frame at is lent page n =
    let all : List (List ℕ) = payloads_in contact t in
    let old = subst (λ k. Sent s.filler k t.from (rows_from t) (take t.sent all)) (sym is) at.sent in
    let sent = subst (λ k. Sent new.filler k t.from (rows_from t) (take t.sent all ++ n.payload ∷ [])) is (n.sent t.from (rows_from t) (take t.sent all) old lent) in
    let format : new.filler.format ≡ t.file.format = n.moves.format ∙ at.format in
    let whole = sent.split ∙ ap (λ (f : Format). payloads_of f (payload_size contact) (rows_from t)) format in
    let next = behind t.sent all _ n.payload at.most whole in
    let one : suc t.sent ≡ t.sent + 1 = omega arith in
    record {
      payload = n.payload;
      left = next.0;
      said = n.said;
      format = format;
      sent = subst (Sent new.filler (payload_size contact) t.from (rows_from t)) (sym next.1 ∙ ap (λ k. take k all) one) sent;
      page = left_at_hand t s new last at.page n.moves page;
    }

-- if nothing is left, all payloads were sent
pub nothing_left : (contact : Contact) (t : Transfer) (s : OutgoingTransfer) (new : Filling) (size : ℕ) (rows : List (List ℕ)) (last : Bool) → Ships contact t s
    → size ≡ payload_size contact → AreLent s.filler t.from (rows_from t) rows last → IsAllSent size s.filler new rows last
    → slice_get (payloads_in contact t) t.sent ≡ None
nothing_left contact t s new size rows last at is lent n =
    let all : List (List ℕ) = payloads_in contact t in
    let old = subst (λ k. Sent s.filler k t.from (rows_from t) (take t.sent all)) (sym is) at.sent in
    let whole = n.all t.from (rows_from t) (take t.sent all) old lent
    ∙ ap (λ k. payloads_of s.filler.format k (rows_from t)) is ∙ ap (λ (f : Format). payloads_of f (payload_size contact) (rows_from t)) at.format in
    none_behind t.sent all whole
