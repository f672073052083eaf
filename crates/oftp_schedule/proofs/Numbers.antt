-- Connections with numbers of their own, and the phase of each.
use Rattle.std.proofs.Common.{◌≡◌, ◌≢◌, ◌<◌, ◌≤◌, ◌+◌, ◌==◌, [], ◌∷◌, ◌++◌, ◌∙◌, ℕ, Bool, true, false, nat_lt, List, Option, Some, None, map, filter, find, subst, refl, ap, sym, arith, cond}
use Rattle.std.proofs.lemmas.Bool.Decides.{nat_tests}
use Rattle.oftp_schedule.specs.declared.connection.Door.{Door}
use Rattle.oftp_schedule.specs.declared.connection.Phase.{Phase}
use Rattle.oftp_schedule.specs.declared.connection.Connection.{Connection}
use Rattle.oftp_schedule.specs.Rules.{connection_at, phase_at, became}
use Rattle.oftp_schedule.specs.Machine.{at_door}

-- each number is below hi, and none stands twice
abbrev pub Distinct : ℕ → List Connection → Type 0
Distinct hi [] = Unit {0}
Distinct hi (c ∷ cs) = (c.id < hi) × ((phase_at c.id cs ≡ None) × Distinct hi cs)

abbrev pub set_to : Phase → Option Phase → Option Phase
set_to q None = None
set_to q (Some p) = Some q

pub same : (id : ℕ) → (id == id) ≡ true
same id = grind (arith, nat_tests)

pub differs : (i id : ℕ) → i ≢ id → (i == id) ≡ false
differs i id ne = grind (arith, nat_tests)

pub became_same : (id : ℕ) (q : Phase) (cs : List Connection) → phase_at id (map (became id q) cs) ≡ set_to q (phase_at id cs)
became_same id q [] = refl
became_same id q (c ∷ cs) =
    elim (c.id == id) as (λ b. cond b (Some (cond b q c.phase)) (phase_at id (map (became id q) cs)) ≡ set_to q (cond b (Some c.phase) (phase_at id cs)))
    [ true ↦ refl | false ↦ became_same id q cs ]

-- the phase in the list, else that of the connection at its end
abbrev pub or_last : Option Phase → Bool → Phase → Option Phase
or_last (Some p) b q = Some p
or_last None true q = Some q
or_last None false q = None

pub pushed : (id : ℕ) (cs : List Connection) (d : Connection) → phase_at id (cs ++ d ∷ []) ≡ or_last (phase_at id cs) (d.id == id) d.phase
pushed id [] d = elim (d.id == id) as (λ b. cond b (Some d.phase) None ≡ or_last None b d.phase) [ true ↦ refl | false ↦ refl ]
pushed id (c ∷ cs) d =
    elim (c.id == id) as (λ b. cond b (Some c.phase) (phase_at id (cs ++ d ∷ [])) ≡ or_last (cond b (Some c.phase) (phase_at id cs)) (d.id == id) d.phase)
    [ true ↦ refl | false ↦ pushed id cs d ]

-- an edit of phases
abbrev pub on_phase : (Phase → Phase) → Connection → Connection
on_phase f c = record { id = c.id; door = c.door; phase = f c.phase }

abbrev pub map_phase : (Phase → Phase) → Option Phase → Option Phase
map_phase f None = None
map_phase f (Some p) = Some (f p)

pub edited_phase : (f : Phase → Phase) (id : ℕ) (cs : List Connection) → phase_at id (map (on_phase f) cs) ≡ map_phase f (phase_at id cs)
edited_phase f id [] = refl
edited_phase f id (c ∷ cs) =
    elim (c.id == id) as (λ b. cond b (Some (f c.phase)) (phase_at id (map (on_phase f) cs)) ≡ map_phase f (cond b (Some c.phase) (phase_at id cs)))
    [ true ↦ refl | false ↦ edited_phase f id cs ]

none_map : (f : Connection → Connection) → ((c : Connection) → (f c).id ≡ c.id) → (id : ℕ) (cs : List Connection) → phase_at id cs ≡ None → phase_at id (map f cs) ≡ None
none_map f k id [] e = refl
none_map f k id (c ∷ cs) e =
    let kc = k c in
    let ne : c.id ≢ id = λ q. head c cs q e in
    let rest : phase_at id cs ≡ None = tail c cs ne e in
    let h = none_map f k id cs rest in grind (arith, nat_tests, kc, ne, h)
  where
    head : (c : Connection) (cs : List Connection) → c.id ≡ id → phase_at id (c ∷ cs) ≡ None → ⊥
    head c cs q e = let y : (c.id == id) ≡ true = grind (arith, nat_tests, q) in let bad : Some c.phase ≡ None = ap (λ b. cond b (Some c.phase) (phase_at id cs)) (sym y) ∙ e in cc

    tail : (c : Connection) (cs : List Connection) → c.id ≢ id → phase_at id (c ∷ cs) ≡ None → phase_at id cs ≡ None
    tail c cs ne e = ap (λ b. cond b (Some c.phase) (phase_at id cs)) (sym (differs c.id id ne)) ∙ e

none_filter : (t : Connection → Bool) (id : ℕ) (cs : List Connection) → phase_at id cs ≡ None → phase_at id (filter t cs) ≡ None
none_filter t id [] e = refl
none_filter t id (c ∷ cs) e = cases (λ h. none_filter t id cs h) (c.id == id) refl (t c)
  where
    cases : (phase_at id cs ≡ None → phase_at id (filter t cs) ≡ None) → (b : Bool) → (c.id == id) ≡ b → (u : Bool) → phase_at id (cond u (c ∷ filter t cs) (filter t cs)) ≡ None
    cases again true y u = let bad : Some c.phase ≡ None = ap (λ b. cond b (Some c.phase) (phase_at id cs)) (sym y) ∙ e in cc
    cases again false n true = let rest : phase_at id cs ≡ None = ap (λ b. cond b (Some c.phase) (phase_at id cs)) (sym n) ∙ e in ap
        (λ b. cond b (Some c.phase) (phase_at id (filter t cs))) n ∙ again rest
    cases again false n false = let rest : phase_at id cs ≡ None = ap (λ b. cond b (Some c.phase) (phase_at id cs)) (sym n) ∙ e in again rest

pub Distinct-map : (f : Connection → Connection) → ((c : Connection) → (f c).id ≡ c.id) → (hi : ℕ) (cs : List Connection) → Distinct hi cs → Distinct hi (map f cs)
Distinct-map f k hi [] o = o
Distinct-map f k hi (c ∷ cs) o =
    let P : ℕ → Type 0 = λ i. (i < hi) × ((phase_at i (map f cs) ≡ None) × Distinct hi (map f cs)) in
    subst P (sym (k c)) (o.0, (none_map f k c.id cs o.1.0, Distinct-map f k hi cs o.1.1))

pub Distinct-filter : (t : Connection → Bool) (hi : ℕ) (cs : List Connection) → Distinct hi cs → Distinct hi (filter t cs)
Distinct-filter t hi [] o = o
Distinct-filter t hi (c ∷ cs) o =
    let rest = Distinct-filter t hi cs o.1.1 in
    elim (t c) as (λ b. Distinct hi (cond b (c ∷ filter t cs) (filter t cs)))
    [ true ↦ (o.0, (none_filter t c.id cs o.1.0, rest)) | false ↦ rest ]

pub Distinct-more : (hi : ℕ) (cs : List Connection) → Distinct hi cs → Distinct (hi + 1) cs
Distinct-more hi [] o = o
Distinct-more hi (c ∷ cs) o = (omega (arith, o.0), (o.1.0, Distinct-more hi cs o.1.1))

-- one more at the end, whose number isn't there
pub Distinct-push : (hi : ℕ) (cs : List Connection) (d : Connection) → Distinct hi cs → d.id < hi → phase_at d.id cs ≡ None → Distinct hi (cs ++ d ∷ [])
Distinct-push hi [] d o l e = (l, (refl, tt))
Distinct-push hi (c ∷ cs) d o l e = cases (λ h. Distinct-push hi cs d o.1.1 l h) (c.id == d.id) refl
  where
    cases : (phase_at d.id cs ≡ None → Distinct hi (cs ++ d ∷ [])) → (b : Bool) → (c.id == d.id) ≡ b → Distinct hi (c ∷ (cs ++ d ∷ []))
    cases again true y = let bad : Some c.phase ≡ None = ap (λ b. cond b (Some c.phase) (phase_at d.id cs)) (sym y) ∙ e in cc
    cases again false n =
        let rest : phase_at d.id cs ≡ None = ap (λ b. cond b (Some c.phase) (phase_at d.id cs)) (sym n) ∙ e in
        let n' : (d.id == c.id) ≡ false = grind (arith, nat_tests, n) in
        (o.0, (pushed c.id cs d ∙ ap (λ x. or_last x (d.id == c.id) d.phase) o.1.0 ∙ ap (λ b. or_last None b d.phase) n', again rest))

-- a number that wasn't given isn't there
pub above_none : (id hi : ℕ) (cs : List Connection) → hi ≤ id → Distinct hi cs → phase_at id cs ≡ None
above_none id hi [] l o = refl
above_none id hi (c ∷ cs) l o =
    let h = above_none id hi cs l o.1.1 in
    let less = o.0 in
    let ne : c.id ≢ id = omega arith in grind (arith, nat_tests, h, ne)

pub Distinct-new : (hi : ℕ) (cs : List Connection) (d : Door) (p : Phase) → Distinct hi cs → Distinct (hi + 1) (cs ++ at_door hi d p ∷ [])
Distinct-new hi cs d p o =
    let l : hi ≤ hi = omega arith in
    let less : hi < hi + 1 = omega arith in
    Distinct-push (hi + 1) cs (at_door hi d p) (Distinct-more hi cs o) less (above_none hi hi cs l o)

-- what is in the table has a number that was given
pub known : (id hi : ℕ) (cs : List Connection) (p : Phase) → phase_at id cs ≡ Some p → Distinct hi cs → nat_lt id hi ≡ true
known id hi cs p h o =
    let none : hi ≤ id → phase_at id cs ≡ None = λ l. above_none id hi cs l o in
    grind (arith, nat_tests, none, h)

-- who is found passes the test
pub passes : (t : Connection → Bool) (cs : List Connection) (c : Connection) → find t cs ≡ Some c → t c ≡ true
passes t [] c f = cc
passes t (d ∷ cs) c f = split (passes t cs c) (t d) refl f
  where
    split : (find t cs ≡ Some c → t c ≡ true) → (b : Bool) → t d ≡ b → cond b (Some d) (find t cs) ≡ Some c → t c ≡ true
    split more true y f = let q : d ≡ c = cc in ap t (sym q) ∙ y
    split more false n f = more f

-- the connection with a number, and its phase
pub at_number : (id : ℕ) (cs : List Connection) (c : Connection) → connection_at id cs ≡ Some c → (c.id ≡ id) × (phase_at id cs ≡ Some c.phase)
at_number id [] c e = cc
at_number id (d ∷ cs) c e = cases (λ h. at_number id cs c h) (d.id == id) refl e
  where
    cases : (connection_at id cs ≡ Some c → (c.id ≡ id) × (phase_at id cs ≡ Some c.phase)) → (b : Bool) → (d.id == id) ≡ b
        → cond b (Some d) (connection_at id cs) ≡ Some c → (c.id ≡ id) × (phase_at id (d ∷ cs) ≡ Some c.phase)
    cases again true y e =
        let q : d ≡ c = cc in
        let i : d.id ≡ id = grind (arith, nat_tests, y) in
        subst (λ (x : Connection). (x.id ≡ id) × (phase_at id (d ∷ cs) ≡ Some x.phase)) q (i, ap (λ b. cond b (Some d.phase) (phase_at id cs)) y)
    cases again false n e =
        let h = again e in (h.0, ap (λ b. cond b (Some d.phase) (phase_at id cs)) n ∙ h.1)
