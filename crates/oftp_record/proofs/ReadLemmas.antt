-- Octets as records: entries one after another, and what is told behind them.
use Rattle.std.proofs.Common.{◌≡◌, ℕ, List, [], ◌∷◌, ◌++◌, drop, refl, sym, ap, ◌∙◌, subst, append_assoc, append-nil}
use Rattle.std.specs.List.{AllByRecursion}
use Rattle.oftp_record.specs.Entries.{IsEntry, Noted, entry_body, entry_digest, entry_length, entry_octets}
use Rattle.oftp_record.specs.Next.{IsNext, Next, Whole, Ends}
use Rattle.oftp_record.specs.Records.{IsRead, IsStop, last_digest, record_octets}
use Rattle.oftp_record.proofs.HeaderLemmas.{digest_length, same_entry, same_front}
use Rattle.oftp_record.proofs.NextLemmas.{one_next, written_next}

-- entries that were written, and octets behind them of which this is told
pub read_before : (before rest : List ℕ) (entries : List Noted) (x : Next) → AllByRecursion IsEntry entries → IsNext (last_digest before entries) rest x → IsStop x
    → IsRead before (record_octets before entries ++ rest) entries x
read_before before rest entries x each told stops = record { rest = rest; whole = refl; each = each; told = told; stops = stops }

-- one more entry in front
pub read_front : (before rest : List ℕ) (e : Noted) (entries : List Noted) (x : Next) → IsEntry e → IsRead (entry_digest e before) rest entries x
    → IsRead before (entry_octets e before ++ rest) (e ∷ entries) x
read_front before rest e entries x is r = record {
  rest = r.rest;
  whole = ap (λ (z : List ℕ). entry_octets e before ++ z) r.whole
      ∙ sym (append_assoc (entry_octets e before) (record_octets (entry_digest e before) entries) r.rest);
  each = (is, r.each);
  told = r.told;
  stops = r.stops;
}

pub read_more : (before octets digest : List ℕ) (e : Noted) (count : ℕ) (entries : List Noted) (x : Next) → IsNext before octets (Whole e count digest)
    → IsRead digest (drop count octets) entries x → IsRead before octets (e ∷ entries) x
read_more before octets digest e count entries x p r = subst (λ (z : List ℕ). IsRead before z (e ∷ entries) x) (sym p.stored)
    (read_front before (drop count octets) e entries x p.sound (subst (λ (d : List ℕ). IsRead d (drop count octets) entries x) p.digest_is r))

pub read_stop : (before octets : List ℕ) (x : Next) → IsNext before octets x → IsStop x → IsRead before octets [] x
read_stop before octets x told stops = record { rest = octets; whole = refl; each = tt; told = told; stops = stops }

pub read_all : (before : List ℕ) (entries : List Noted) → AllByRecursion IsEntry entries → IsRead before (record_octets before entries) entries Ends
read_all before entries each = record { rest = []; whole = sym (append-nil (record_octets before entries)); each = each; told = refl; stops = tt }

-- what is told of octets that begin with a written entry is no stop
not_written : (before octets rest : List ℕ) (e : Noted) (x : Next) → IsEntry e → octets ≡ entry_octets e before ++ rest → IsNext before octets x → IsStop x → ⊥
not_written before octets rest e x is same told stops =
    let whole = one_next before octets x (Whole e (entry_length e) (entry_digest e before)) told
    (subst (λ (z : List ℕ). IsNext before z (Whole e (entry_length e) (entry_digest e before))) (sym same) (written_next before rest e is)) in
    let no : IsStop (Whole e (entry_length e) (entry_digest e before)) = subst IsStop whole stops in
    no

-- the first entries of one record, and what follows them
same_first : (before : List ℕ) (e f : Noted) (es fs : List Noted) (r q : List ℕ) → IsEntry e → IsEntry f
    → record_octets before (e ∷ es) ++ r ≡ record_octets before (f ∷ fs) ++ q
    → (e ≡ f) × (record_octets (entry_digest e before) es ++ r ≡ record_octets (entry_digest f before) fs ++ q)
same_first before e f es fs r q is it same =
    let x = record_octets (entry_digest e before) es ++ r in
    let y = record_octets (entry_digest f before) fs ++ q in
    let whole : entry_body e ++ (entry_digest e before ++ x) ≡ entry_body f ++ (entry_digest f before ++ y) =
    sym (append_assoc (entry_body e) (entry_digest e before) x) ∙ sym (append_assoc (entry_octets e before) (record_octets (entry_digest e before) es) r) ∙ same
    ∙ append_assoc (entry_octets f before) (record_octets (entry_digest f before) fs) q ∙ append_assoc (entry_body f) (entry_digest f before) y in
    let entries = same_entry e f (entry_digest e before ++ x) (entry_digest f before ++ y) is it whole in
    let tails = same_front (entry_digest e before) (entry_digest f before) x y (digest_length e before ∙ sym (digest_length f before)) entries.1 in
    (entries.0, tails.1)

one_read_by : (before : List ℕ) (xs ys : List Noted) (r q : List ℕ) (x y : Next) → record_octets before xs ++ r ≡ record_octets before ys ++ q
    → AllByRecursion IsEntry xs → AllByRecursion IsEntry ys → IsNext (last_digest before xs) r x → IsNext (last_digest before ys) q y → IsStop x → IsStop y
    → (xs ≡ ys) × (x ≡ y)
one_read_by before [] [] r q x y same f g p t s u = (refl, one_next before q x y (subst (λ (z : List ℕ). IsNext before z x) same p) t)
one_read_by before [] (b ∷ others) r q x y same f g p t s u =
    absurd (not_written before r (record_octets (entry_digest b before) others ++ q) b x g.0
    (same ∙ append_assoc (entry_octets b before) (record_octets (entry_digest b before) others) q) p s)
one_read_by before (a ∷ more) [] r q x y same f g p t s u =
    absurd (not_written before q (record_octets (entry_digest a before) more ++ r) a y f.0
    (sym same ∙ append_assoc (entry_octets a before) (record_octets (entry_digest a before) more) r) t u)
one_read_by before (a ∷ more) (b ∷ others) r q x y same f g p t s u =
    let first = same_first before a b more others r q f.0 g.0 same in
    let heads : a ≡ b = first.0 in
    let later = one_read_by (entry_digest a before) more others r q x y
    (first.1 ∙ ap (λ (z : Noted). record_octets (entry_digest z before) others ++ q) (sym heads)) f.1 g.1 p
    (subst (λ (z : Noted). IsNext (last_digest (entry_digest z before) others) q y) (sym heads) t) s u in
    let tails : more ≡ others = later.0 in
    (cc, later.1)

-- octets are read as one list of entries
pub one_read : (before octets : List ℕ) (xs ys : List Noted) (x y : Next) → IsRead before octets xs x → IsRead before octets ys y → (xs ≡ ys) × (x ≡ y)
one_read before octets xs ys x y p q =
    one_read_by before xs ys p.rest q.rest x y (sym p.whole ∙ q.whole) p.each q.each p.told q.told p.stops q.stops
