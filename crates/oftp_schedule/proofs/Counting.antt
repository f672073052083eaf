-- How many connections are in a phase, after each edit of the table.
use Rattle.std.proofs.Common.{◌||◌, ◌≡◌, ◌≤◌, ◌+◌, ◌==◌, [], ◌∷◌, ◌++◌, ◌∙◌, ℕ, Bool, true, false, not, List, Some, None, map, filter, find, subst, refl, ap, sym, arith, cond}
use Rattle.std.proofs.lemmas.Bool.Decides.{nat_tests}
use Rattle.std.specs.List.{list_any}
use Rattle.oftp_schedule.specs.declared.connection.Phase.{Phase}
use Rattle.oftp_schedule.specs.declared.connection.Connection.{Connection}
use Rattle.oftp_schedule.specs.Rules.{in_phase, is_other, phase_at, became}
use Rattle.oftp_schedule.specs.Apart.{one_if, how_many}
use Rattle.oftp_schedule.proofs.Numbers.{Distinct, on_phase}

pub one_if_le : (b : Bool) → one_if b ≤ 1
one_if_le true = omega arith
one_if_le false = omega arith

-- nobody has this number, so nothing is edited
pub untouched : (t : Phase → Bool) (id : ℕ) (q : Phase) (cs : List Connection) → phase_at id cs ≡ None → how_many t (map (became id q) cs) ≡ how_many t cs
untouched t id q [] e = refl
untouched t id q (c ∷ cs) e = cases (c.id == id) refl (λ h. untouched t id q cs h)
  where
    cases : (b : Bool) → (c.id == id) ≡ b → (phase_at id cs ≡ None → how_many t (map (became id q) cs) ≡ how_many t cs) → how_many t (map (became id q) (c ∷ cs)) ≡ how_many t (c ∷ cs)
    cases true y again = let bad : Some c.phase ≡ None = ap (λ b. cond b (Some c.phase) (phase_at id cs)) (sym y) ∙ e in cc
    cases false n again =
        let h = again (ap (λ b. cond b (Some c.phase) (phase_at id cs)) (sym n) ∙ e) in
        ap (λ b. one_if (t (cond b q c.phase)) + how_many t (map (became id q) cs)) n ∙ ap (λ k. one_if (t c.phase) + k) h

pub counted_became : (t : Phase → Bool) (id : ℕ) (p q : Phase) (hi : ℕ) (cs : List Connection) → Distinct hi cs → phase_at id cs ≡ Some p
    → how_many t (map (became id q) cs) + one_if (t p) ≡ how_many t cs + one_if (t q)
counted_became t id p q hi [] o e = cc
counted_became t id p q hi (c ∷ cs) o e = cases (c.id == id) refl (λ h. counted_became t id p q hi cs o.1.1 h)
  where
    cases : (b : Bool) → (c.id == id) ≡ b → (phase_at id cs ≡ Some p → how_many t (map (became id q) cs) + one_if (t p) ≡ how_many t cs + one_if (t q))
        → how_many t (map (became id q) (c ∷ cs)) + one_if (t p) ≡ how_many t (c ∷ cs) + one_if (t q)
    cases true y again =
        let is : c.id ≡ id = grind (arith, nat_tests, y) in
        let none : phase_at id cs ≡ None = subst (λ (i : ℕ). phase_at i cs ≡ None) is o.1.0 in
        let h = untouched t id q cs none in
        let pe : c.phase ≡ p = inj (ap (λ b. cond b (Some c.phase) (phase_at id cs)) (sym y) ∙ e) in
        let te : one_if (t c.phase) ≡ one_if (t p) = ap (λ p. one_if (t p)) pe in
        ap (λ b. one_if (t (cond b q c.phase)) + how_many t (map (became id q) cs) + one_if (t p)) y ∙ sum (one_if (t q)) (how_many t (map (became id q) cs))
        (how_many t cs) (one_if (t c.phase)) (one_if (t p)) h te
      where
        inj : Some c.phase ≡ Some p → c.phase ≡ p
        inj e = cc

        sum : (a x y b d : ℕ) → x ≡ y → b ≡ d → a + x + d ≡ b + y + a
        sum a x y b d e f = omega arith
    cases false n again =
        let h = again (ap (λ b. cond b (Some c.phase) (phase_at id cs)) (sym n) ∙ e) in
        ap (λ b. one_if (t (cond b q c.phase)) + how_many t (map (became id q) cs) + one_if (t p)) n ∙ sum (one_if (t c.phase)) (how_many t (map (became id q) cs))
        (one_if (t p)) (how_many t cs) (one_if (t q)) h
      where
        sum : (a x d y f : ℕ) → x + d ≡ y + f → a + x + d ≡ a + y + f
        sum a x d y f e = omega arith

without : (t : Phase → Bool) (id : ℕ) (cs : List Connection) → phase_at id cs ≡ None → how_many t (filter (is_other id) cs) ≡ how_many t cs
without t id [] e = refl
without t id (c ∷ cs) e = cases (c.id == id) refl (λ h. without t id cs h)
  where
    cases : (b : Bool) → (c.id == id) ≡ b → (phase_at id cs ≡ None → how_many t (filter (is_other id) cs) ≡ how_many t cs)
        → how_many t (cond (not (c.id == id)) (c ∷ filter (is_other id) cs) (filter (is_other id) cs)) ≡ one_if (t c.phase) + how_many t cs
    cases true y again = let bad : Some c.phase ≡ None = ap (λ b. cond b (Some c.phase) (phase_at id cs)) (sym y) ∙ e in cc
    cases false n again =
        let h = again (ap (λ b. cond b (Some c.phase) (phase_at id cs)) (sym n) ∙ e) in
        ap (λ b. how_many t (cond (not b) (c ∷ filter (is_other id) cs) (filter (is_other id) cs))) n ∙ ap (λ k. one_if (t c.phase) + k) h

pub counted_removed : (t : Phase → Bool) (id : ℕ) (p : Phase) (hi : ℕ) (cs : List Connection) → Distinct hi cs → phase_at id cs ≡ Some p
    → how_many t (filter (is_other id) cs) + one_if (t p) ≡ how_many t cs
counted_removed t id p hi [] o e = cc
counted_removed t id p hi (c ∷ cs) o e = cases (c.id == id) refl (λ h. counted_removed t id p hi cs o.1.1 h)
  where
    cases : (b : Bool) → (c.id == id) ≡ b → (phase_at id cs ≡ Some p → how_many t (filter (is_other id) cs) + one_if (t p) ≡ how_many t cs)
        → how_many t (cond (not (c.id == id)) (c ∷ filter (is_other id) cs) (filter (is_other id) cs)) + one_if (t p) ≡ one_if (t c.phase) + how_many t cs
    cases true y again =
        let is : c.id ≡ id = grind (arith, nat_tests, y) in
        let none : phase_at id cs ≡ None = subst (λ (i : ℕ). phase_at i cs ≡ None) is o.1.0 in
        let h = without t id cs none in
        let te : one_if (t c.phase) ≡ one_if (t p) = ap (λ p. one_if (t p)) (inj (ap (λ b. cond b (Some c.phase) (phase_at id cs)) (sym y) ∙ e)) in
        ap (λ b. how_many t (cond (not b) (c ∷ filter (is_other id) cs) (filter (is_other id) cs)) + one_if (t p)) y ∙ sum (how_many t (filter (is_other id) cs))
        (how_many t cs) (one_if (t c.phase)) (one_if (t p)) h te
      where
        inj : Some c.phase ≡ Some p → c.phase ≡ p
        inj e = cc

        sum : (x y b d : ℕ) → x ≡ y → b ≡ d → x + d ≡ b + y
        sum x y b d e f = omega arith
    cases false n again =
        let h = again (ap (λ b. cond b (Some c.phase) (phase_at id cs)) (sym n) ∙ e) in
        ap (λ b. how_many t (cond (not b) (c ∷ filter (is_other id) cs) (filter (is_other id) cs)) + one_if (t p)) n ∙ sum (one_if (t c.phase))
        (how_many t (filter (is_other id) cs)) (one_if (t p)) (how_many t cs) h
      where
        sum : (a x d y : ℕ) → x + d ≡ y → a + x + d ≡ a + y
        sum a x d y e = omega arith

pub counted_pushed : (t : Phase → Bool) (cs : List Connection) (d : Connection) → how_many t (cs ++ d ∷ []) ≡ how_many t cs + one_if (t d.phase)
counted_pushed t [] d = omega arith
counted_pushed t (c ∷ cs) d = let h = counted_pushed t cs d in omega arith

pub counted_edited : (t : Phase → Bool) (f : Phase → Phase) → ((p : Phase) → t (f p) ≡ t p) → (cs : List Connection) → how_many t (map (on_phase f) cs) ≡ how_many t cs
counted_edited t f k [] = refl
counted_edited t f k (c ∷ cs) =
    let h = counted_edited t f k cs in
    let e = ap one_if (k c.phase) in
    sum (one_if (t (f c.phase))) (one_if (t c.phase)) (how_many t (map (on_phase f) cs)) (how_many t cs) e h
  where
    sum : (a b x y : ℕ) → a ≡ b → x ≡ y → a + x ≡ b + y
    sum a b x y e f = omega arith

nothing : (k : ℕ) → k ≡ 0 → 0 + k ≡ 0
nothing k e = omega arith

pub none_any : (t : Connection → Bool) (cs : List Connection) → find t cs ≡ None → list_any t cs ≡ false
none_any t [] f = refl
none_any t (c ∷ cs) f = split (none_any t cs) (t c) f
  where
    split : (find t cs ≡ None → list_any t cs ≡ false) → (b : Bool) → cond b (Some c) (find t cs) ≡ None → (b || list_any t cs) ≡ false
    split more true f = cc
    split more false f = more f

pub not_any : (t : Phase → Bool) (cs : List Connection) → list_any (in_phase t) cs ≡ false → how_many t cs ≡ 0
not_any t [] e = refl
not_any t (c ∷ cs) e = cases (t c.phase) refl (λ h. not_any t cs h)
  where
    cases : (b : Bool) → t c.phase ≡ b → (list_any (in_phase t) cs ≡ false → how_many t cs ≡ 0) → one_if (t c.phase) + how_many t cs ≡ 0
    cases true y again = let bad : true ≡ false = ap (λ b. b || list_any (in_phase t) cs) (sym y) ∙ e in cc
    cases false n again =
        let h = again (ap (λ b. b || list_any (in_phase t) cs) (sym n) ∙ e) in
        ap (λ b. one_if b + how_many t cs) n ∙ nothing (how_many t cs) h

pub none_found : (t : Phase → Bool) (cs : List Connection) → find (in_phase t) cs ≡ None → how_many t cs ≡ 0
none_found t cs e = not_any t cs (none_any (in_phase t) cs e)
