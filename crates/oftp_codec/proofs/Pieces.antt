-- Octets written over others.
use Rattle.std.proofs.Common.{◌≡◌, ℕ, zero, suc, ◌+◌, ◌-◌, ◌/◌, ◌%◌, ◌<◌, ◌≤◌, List, [], ◌∷◌, ◌++◌, length, get_or, set, take, drop, sym, ap, ◌∙◌, append_assoc, add-zero, arith}
use Rattle.std.specs.Borrow.{Bor}
use Rattle.std.proofs.lemmas.List.{length-append, length-take, length-replicate, take_at, drop_at, drop-drop, drop_more, set_at, take-append-drop}
use Rattle.std.proofs.lemmas.List.{take_more, flat_map_more}
use Rattle.std.proofs.lemmas.List.Folds.{length-flat_map-take}
use Rattle.oftp_codec.specs.declared.piece.Piece.{Piece}
use Rattle.oftp_codec.specs.declared.piece.Piece.TheVariants as pieces
use Rattle.oftp_wire.specs.Octets.{decimal, spaces, put}
use Rattle.oftp_codec.specs.Piece.{octets_of, spelling, IsRight}
use Rattle.oftp_wire.proofs.Decimals.{length-decimal}
use Rattle.oftp_codec.proofs.Forms.{length-padded}

-- a padded value has its field's length
pub padded_len : (p : Piece) (w : Bor (List ℕ)) (n : ℕ) → p ≡ pieces.Padded w n → IsRight p → n ≡ length (octets_of p)
padded_len p w n e h = rw e (sym (length-padded n w.now (rw e at h)))

-- a number has its field's length
pub decimal_len : (p : Piece) (v n : ℕ) → p ≡ pieces.Decimal v n → n ≡ length (octets_of p)
decimal_len p v n e = rw e (sym (length-decimal n v))

-- an empty write changes nothing
pub put_none : (at : ℕ) (o : List ℕ) → put at [] o ≡ o
put_none at o = rw add-zero (take-append-drop at o)

-- one more octet
pub put_push : (at : ℕ) (w : List ℕ) (c : ℕ) (o : List ℕ) → at + length w < length o → set (put at w o) (at + length w) c ≡ put at (w ++ c ∷ []) o
put_push at w c o h =
    let k = at + length w in
    let rest = drop_more o k 0 h in
    let len : length (take at o ++ w) ≡ k = omega (arith, length-append (take at o) w, length-take at o) in
    let before : put at w o ≡ (take at o ++ w) ++ get_or o k 0 ∷ drop (k + 1) o = sym (append_assoc (take at o) w (drop k o)) ∙ ap (λ (x : List ℕ). (take at o ++ w) ++ x) rest in
    let end : at + length (w ++ c ∷ []) ≡ k + 1 = omega (arith, length-append w (c ∷ [])) in
    ap (λ (x : List ℕ). set x k c) before
    ∙ set_at (take at o ++ w) (get_or o k 0) (drop (k + 1) o) c k len
    ∙ append_assoc (take at o) w (c ∷ drop (k + 1) o)
    ∙ ap (λ (x : List ℕ). take at o ++ x) (sym (append_assoc w (c ∷ []) (drop (k + 1) o)) ∙ ap (λ (j : ℕ). (w ++ c ∷ []) ++ drop j o) (sym end))

-- what was written, and what follows
pub put_more : (k : ℕ) (p w o old : List ℕ) → o ≡ p ++ drop k old → length p ≡ k → k + length w ≤ length old → put k w o ≡ (p ++ w) ++ drop (k + length w) old
put_more k p w o old e len room =
    let a : take k o ≡ p = ap (take k) e ∙ take_at p (drop k old) k len in
    let b : drop (k + length w) o ≡ drop (k + length w) old =
    sym (drop-drop (length w) k o) ∙ ap (λ (x : List ℕ). drop (length w) x) (ap (drop k) e ∙ drop_at p (drop k old) k len) ∙ drop-drop (length w) k old in
    rw (a, b) (sym (append_assoc p w (drop (k + length w) old)))

-- octets and then others
pub put_put : (at : ℕ) (v w o : List ℕ) → at + length v + length w ≤ length o → put (at + length v) w (put at v o) ≡ put at (v ++ w) o
put_put at v w o room =
    let k = at + length v in
    let len : length (take at o ++ v) ≡ k = omega (arith, length-append (take at o) v, length-take at o) in
    let end : at + length (v ++ w) ≡ k + length w = omega (arith, length-append v w) in
    put_more k (take at o ++ v) w (put at v o) o (sym (append_assoc (take at o) v (drop k o))) len room
    ∙ ap (λ (x : List ℕ). x ++ drop (k + length w) o) (append_assoc (take at o) v w)
    ∙ append_assoc (take at o) (v ++ w) (drop (k + length w) o)
    ∙ ap (λ (j : ℕ). take at o ++ ((v ++ w) ++ drop j o)) (sym end)

-- a value and then spaces are a padded value
pub put_padded : (p : Piece) (w : Bor (List ℕ)) (n at : ℕ) (a b o : List ℕ) → p ≡ pieces.Padded w n → IsRight p
    → at + length (octets_of p) ≤ length o → a ≡ put at w.now o → b ≡ put (at + length w.now) (spaces (n - length w.now)) a
    → b ≡ put at (octets_of p) o
put_padded p w n at a b o e h room ha hb =
    let le : length w.now ≤ n = rw e at h in
    let len = padded_len p w n e h in
    let fits : at + length w.now + length (spaces (n - length w.now)) ≤ length o = omega (arith, length-replicate {A = ℕ} (n - length w.now) 32) in
    rw e (hb ∙ ap (put (at + length w.now) (spaces (n - length w.now))) ha ∙ put_put at w.now (spaces (n - length w.now)) o fits)

-- the digits before the last, and the last
pub put_digit : (at n v : ℕ) (o new : List ℕ) → 0 < n → at + n ≤ length o → new ≡ put at (decimal (n - 1) (v / 10)) o → set new (at + n - 1) (48 + v % 10) ≡ put at (decimal n v) o
unfolding decimal
put_digit at zero v o new pos room h = absurd (omega arith)
put_digit at (suc n) v o new pos room h =
    let e : suc n - 1 ≡ n = omega arith in
    let w = decimal n (v / 10) in
    let k : at + suc n - 1 ≡ at + length w = omega (arith, length-decimal n (v / 10)) in
    ap (λ (x : List ℕ). set x (at + suc n - 1) (48 + v % 10)) (h ∙ ap (λ (m : ℕ). put at (decimal m (v / 10)) o) e)
    ∙ ap (λ (j : ℕ). set (put at w o) j (48 + v % 10)) k
    ∙ put_push at w (48 + v % 10) o (omega (arith, length-decimal n (v / 10)))

-- no digits change nothing
pub put_no_digit : (at n v : ℕ) (o : List ℕ) → n ≤ 0 → o ≡ put at (decimal n v) o
unfolding decimal
put_no_digit at zero v o h = sym (put_none at o)
put_no_digit at (suc n) v o h = absurd (omega arith)

-- ---- pieces one after the other

-- the pieces up to the next
pub spelling_more : (ps : List Piece) (i : ℕ) (d : Piece) → i < length ps → spelling (take (i + 1) ps) ≡ spelling (take i ps) ++ octets_of (get_or ps i d)
spelling_more ps i d h = ap spelling (take_more ps i d h) ∙ sym (flat_map_more octets_of [] (take i ps) (get_or ps i d))

-- the next piece is within the encoding
pub within : (ps : List Piece) (i : ℕ) (d : Piece) → i < length ps → length (spelling (take i ps)) + length (octets_of (get_or ps i d)) ≤ length (spelling ps)
within ps i d h = length-flat_map-take octets_of ps i d h

-- the next piece is written after those before it
pub spelling_step : (ps : List Piece) (i : ℕ) (d : Piece) (at : ℕ) (out new old : List ℕ) → i < length ps → at ≡ length (spelling (take i ps))
    → out ≡ spelling (take i ps) ++ drop at old → length (spelling ps) ≤ length old
    → new ≡ put at (octets_of (get_or ps i d)) out → new ≡ spelling (take (i + 1) ps) ++ drop (at + length (octets_of (get_or ps i d))) old
spelling_step ps i d at out new old h n e room w =
    w ∙ put_more at (spelling (take i ps)) (octets_of (get_or ps i d)) out old e (sym n) (omega (arith, within ps i d h))
    ∙ ap (λ (x : List ℕ). x ++ drop (at + length (octets_of (get_or ps i d))) old) (sym (spelling_more ps i d h))

-- a read past the end
abbrev pub no_piece : Piece
no_piece = pieces.Octets (record { ref_ptr = (0, 0); now = [] })
