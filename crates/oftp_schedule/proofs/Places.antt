-- The connection with a number, after each edit of the table.
use Rattle.std.proofs.Common.{◌≡◌, ◌≢◌, ◌≤◌, ◌==◌, [], ◌∷◌, ◌++◌, ◌∙◌, ℕ, Bool, true, false, nat_lt, List, Option, Some, None, map, filter, find, subst, refl, ap, sym, arith, cond}
use Rattle.std.proofs.lemmas.Bool.Decides.{nat_tests}
use Rattle.oftp_schedule.specs.declared.connection.Phase.{Phase}
use Rattle.oftp_schedule.specs.declared.connection.Connection.{Connection}
use Rattle.oftp_schedule.specs.Rules.{is_other, connection_at, phase_at, became}
use Rattle.oftp_schedule.specs.Machine.{at_door}
use Rattle.oftp_schedule.proofs.Numbers.{Distinct, same, above_none, passes, at_number}

-- its phase
abbrev pub phase_of : Option Connection → Option Phase
phase_of None = None
phase_of (Some c) = Some c.phase

pub phase_found : (id : ℕ) (cs : List Connection) → phase_at id cs ≡ phase_of (connection_at id cs)
phase_found id [] = refl
phase_found id (c ∷ cs) =
    elim (c.id == id) as (λ b. cond b (Some c.phase) (phase_at id cs) ≡ phase_of (cond b (Some c) (connection_at id cs)))
    [ true ↦ refl | false ↦ phase_found id cs ]

pub no_number : (id : ℕ) (cs : List Connection) → connection_at id cs ≡ None → phase_at id cs ≡ None
no_number id cs e = phase_found id cs ∙ ap phase_of e

pub absent : (id : ℕ) (cs : List Connection) → phase_at id cs ≡ None → connection_at id cs ≡ None
absent id cs e = cases (connection_at id cs) (sym (phase_found id cs) ∙ e)
  where
    cases : (at : Option Connection) → phase_of at ≡ None → at ≡ None
    cases None e = refl
    cases (Some c) e = cc

abbrev pub map_found : (Connection → Connection) → Option Connection → Option Connection
map_found f None = None
map_found f (Some c) = Some (f c)

-- an edit that keeps each number
pub mapped : (f : Connection → Connection) → ((c : Connection) → (f c).id ≡ c.id) → (id : ℕ) (cs : List Connection) → connection_at id (map f cs) ≡ map_found f (connection_at id cs)
mapped f k id [] = refl
mapped f k id (c ∷ cs) =
    ap (λ i. cond (i == id) (Some (f c)) (connection_at id (map f cs))) (k c)
    ∙ (elim (c.id == id) as (λ b. cond b (Some (f c)) (connection_at id (map f cs)) ≡ map_found f (cond b (Some c) (connection_at id cs)))
    [ true ↦ refl | false ↦ mapped f k id cs ])

-- of one who becomes something, another is as it was
pub became_elsewhere : (i id : ℕ) (q : Phase) (cs : List Connection) → i ≢ id → connection_at id (map (became i q) cs) ≡ connection_at id cs
became_elsewhere i id q cs ne = mapped (became i q) (λ _. refl) id cs ∙ cases (connection_at id cs) refl
  where
    cases : (at : Option Connection) → connection_at id cs ≡ at → map_found (became i q) at ≡ at
    cases None e = refl
    cases (Some c) e =
        let h = (at_number id cs c e).0 in
        let n : (c.id == i) ≡ false = grind (arith, nat_tests, h, ne) in
        ap (λ (b : Bool). Some (record { id = c.id; door = c.door; phase = cond b q c.phase })) n

pub removed : (id : ℕ) (cs : List Connection) → connection_at id (filter (is_other id) cs) ≡ None
removed id [] = refl
removed id (c ∷ cs) = let h = removed id cs in grind (arith, nat_tests, h)

pub removed_elsewhere : (i id : ℕ) (cs : List Connection) → i ≢ id → connection_at id (filter (is_other i) cs) ≡ connection_at id cs
removed_elsewhere i id [] ne = refl
removed_elsewhere i id (c ∷ cs) ne = let h = removed_elsewhere i id cs ne in grind (arith, nat_tests, h)

-- so its phase is as it was
same_phase : (id : ℕ) (cs ds : List Connection) → connection_at id ds ≡ connection_at id cs → phase_at id ds ≡ phase_at id cs
same_phase id cs ds e = phase_found id ds ∙ ap phase_of e ∙ sym (phase_found id cs)

pub became_other : (i id : ℕ) (q : Phase) (cs : List Connection) → i ≢ id → phase_at id (map (became i q) cs) ≡ phase_at id cs
became_other i id q cs ne = same_phase id cs (map (became i q) cs) (became_elsewhere i id q cs ne)

pub other_same : (id : ℕ) (cs : List Connection) → phase_at id (filter (is_other id) cs) ≡ None
other_same id cs = no_number id (filter (is_other id) cs) (removed id cs)

pub other_other : (i id : ℕ) (cs : List Connection) → i ≢ id → phase_at id (filter (is_other i) cs) ≡ phase_at id cs
other_other i id cs ne = same_phase id cs (filter (is_other i) cs) (removed_elsewhere i id cs ne)

-- the one in the list, else the one at its end
abbrev pub or_at_end : Option Connection → Bool → Connection → Option Connection
or_at_end (Some c) b d = Some c
or_at_end None true d = Some d
or_at_end None false d = None

pub pushed_at : (id : ℕ) (cs : List Connection) (d : Connection) → connection_at id (cs ++ d ∷ []) ≡ or_at_end (connection_at id cs) (d.id == id) d
pushed_at id [] d = elim (d.id == id) as (λ b. cond b (Some d) None ≡ or_at_end None b d) [ true ↦ refl | false ↦ refl ]
pushed_at id (c ∷ cs) d =
    elim (c.id == id) as (λ b. cond b (Some c) (connection_at id (cs ++ d ∷ [])) ≡ or_at_end (cond b (Some c) (connection_at id cs)) (d.id == id) d)
    [ true ↦ refl | false ↦ pushed_at id cs d ]

-- who becomes something
pub became_here : (c : Connection) (q : Phase) (cs : List Connection) → connection_at c.id cs ≡ Some c → connection_at c.id (map (became c.id q) cs) ≡ Some (at_door c.id c.door q)
became_here c q cs e =
    mapped (became c.id q) (λ _. refl) c.id cs ∙ ap (map_found (became c.id q)) e
    ∙ ap (λ (b : Bool). Some (record { id = c.id; door = c.door; phase = cond b q c.phase })) (same c.id)

-- who becomes something as the last in the table
pub moved_here : (c : Connection) (q : Phase) (cs : List Connection) → connection_at c.id (filter (is_other c.id) cs ++ at_door c.id c.door q ∷ []) ≡ Some (at_door c.id c.door q)
moved_here c q cs =
    pushed_at c.id (filter (is_other c.id) cs) (at_door c.id c.door q) ∙ ap (λ at. or_at_end at (c.id == c.id) (at_door c.id c.door q)) (removed c.id cs)
    ∙ ap (λ b. or_at_end None b (at_door c.id c.door q)) (same c.id)

pub pushed_elsewhere : (id : ℕ) (cs : List Connection) (d : Connection) → (d.id == id) ≡ false → connection_at id (cs ++ d ∷ []) ≡ connection_at id cs
pushed_elsewhere id cs d n = pushed_at id cs d ∙ ap (λ b. or_at_end (connection_at id cs) b d) n ∙ none_new (connection_at id cs)
  where
    none_new : (at : Option Connection) → or_at_end at false d ≡ at
    none_new None = refl
    none_new (Some c) = refl

-- a number that wasn't given is nobody's
pub unborn_at : (id hi : ℕ) (cs : List Connection) → Distinct hi cs → nat_lt id hi ≡ false → connection_at id cs ≡ None
unborn_at id hi cs o h =
    let l : hi ≤ id = grind (arith, nat_tests, h) in absent id cs (above_none id hi cs l o)

-- the one that is found first is the one of its number
pub found_at : (t : Connection → Bool) (hi : ℕ) (cs : List Connection) (d : Connection) → find t cs ≡ Some d → Distinct hi cs → connection_at d.id cs ≡ Some d
found_at t hi [] d f o = cc
found_at t hi (c ∷ cs) d f o =
    let P : Type 0 = connection_at d.id (c ∷ cs) ≡ Some d in
    let here : c ≡ d → P = λ e. subst (λ (d : Connection). connection_at d.id (c ∷ cs) ≡ Some d) e (at_head c cs) in
    let on : find t cs ≡ Some d → P = λ g. past c cs d (found_at t hi cs d g o.1.1) o.1.0 in
    split (t c) (find t cs) c d f P here on
  where
    at_head : (c : Connection) (cs : List Connection) → connection_at c.id (c ∷ cs) ≡ Some c
    at_head c cs = ap (λ b. cond b (Some c) (connection_at c.id cs)) (same c.id)

    past : (c : Connection) (cs : List Connection) (d : Connection) → connection_at d.id cs ≡ Some d → phase_at c.id cs ≡ None → connection_at d.id (c ∷ cs) ≡ Some d
    past c cs d h low = by (c.id == d.id) refl
      where
        by : (b : Bool) → (c.id == d.id) ≡ b → connection_at d.id (c ∷ cs) ≡ Some d
        by true y =
            let q : c.id ≡ d.id = grind (arith, nat_tests, y) in
            let bad : Some d ≡ None = sym h ∙ ap (λ i. connection_at i cs) (sym q) ∙ absent c.id cs low in cc
        by false n = ap (λ b. cond b (Some c) (connection_at d.id cs)) n ∙ h

    split : (b : Bool) (o : Option Connection) (c d : Connection) → cond b (Some c) o ≡ Some d → (P : Type 0) → (c ≡ d → P) → (o ≡ Some d → P) → P
    split true o c d e P here on = here (cc)
    split false o c d e P here on = on e

-- and passes the test
pub found : (t : Connection → Bool) (hi : ℕ) (cs : List Connection) (d : Connection) → find t cs ≡ Some d → Distinct hi cs → (phase_at d.id cs ≡ Some d.phase) × (t d ≡ true)
found t hi cs d f o = ((at_number d.id cs d (found_at t hi cs d f o)).1, passes t cs d f)
