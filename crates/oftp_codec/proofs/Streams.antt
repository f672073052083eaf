-- The beginning of octets, how more octets change it, and the result of `next`.
use Rattle.std.proofs.Common.{◌≡◌, ℕ, ◌+◌, ◌-◌, ◌*◌, ◌<◌, ◌≤◌, List, [], ◌∷◌, ◌++◌, length, take, drop, Option, None, Some, Ok, Err, refl, sym, ap, ◌∙◌, arith, subst, add-one, length-append, length-drop, Bool, true, false, cond, ltb, ◌||◌, ◌==◌}
use Rattle.std.proofs.lemmas.List.{drop-drop, take_rest, length-take-le}
use Rattle.std.proofs.lemmas.Bool.{ltb-false, le-ltb, or_parts}
use Rattle.oftp_codec.specs.declared.frame_fault.FrameFault.{FrameFault}
use Rattle.oftp_codec.specs.declared.frame_fault.FrameFault.TheVariants.{BadHeader, BadLength}
use Rattle.oftp_codec.specs.Header.{frame, IsCommand}
use Rattle.oftp_codec.specs.Stream.{Head, Whole, Waits, Bad, Stream, front, sized, len_of, past, with_fault, next_of, next_at, left_of, left_at, command_in, IsWithin, Finds}

-- what a length that was found says of the beginning
pub whole_from : (h : Head) (n : ℕ) → Ok (Some n) ≡ len_of h → h ≡ Whole n
whole_from (Whole m) n e = let same : n ≡ m = cc in ap Whole (sym same)
whole_from Waits n e = absurd (let h : ⊥ = cc in h)
whole_from (Bad fault) n e = absurd (let h : ⊥ = cc in h)

pub none_from : (o : Option FrameFault) → ((x : FrameFault) → o ≡ Some x → ⊥) → o ≡ None
none_from None h = refl
none_from (Some x) h = absurd (h x refl)

-- the slice that the code returns
command_at : (octets : List ℕ) (begin n : ℕ) → take (begin + n - (begin + 4)) (drop (begin + 4) octets) ≡ command_in n (drop begin octets)
command_at octets begin n = rw (drop-drop 4 begin octets) (ap (λ (k : ℕ). take k (drop (begin + 4) octets)) {y = n - 4} (omega arith))

-- `next` returns m and leaves `after`
pub record HandsOut (before after : Stream) (m : List ℕ) : Type 0 where
  pub left : after ≡ left_of before before.told
  pub value : Ok (Some m) ≡ next_of before before.told
  pub small : IsCommand before.limit m
  pub parts : before.rest ≡ frame m ++ drop (length m + 4) before.rest

-- `next` where a whole frame is there
pub hands_out : (s : Stream) (octets seen : List ℕ) (begin n limit room capacity : ℕ) (told : Option FrameFault)
    → record { limit = limit; rest = drop begin octets; told = told; room = room; capacity = capacity } ≡ s → told ≡ None → seen ≡ octets
    → Ok (Some n) ≡ len_of (front limit (take (length seen - begin) (drop begin seen)))
    → Finds limit (take (length seen - begin) (drop begin seen)) (Ok (Some n))
    → HandsOut s (record { limit = limit; rest = drop (begin + n) octets; told = told; room = room; capacity = capacity }) (take (begin + n - (begin + 4)) (drop (begin + 4) octets))
hands_out s octets seen begin n limit room capacity told view none same found cut =
    let rest = drop begin octets in
    let t : Stream = record { limit = limit; rest = rest; told = told; room = room; capacity = capacity } in
    let m = command_in n rest in
    let all : take (length seen - begin) (drop begin seen) ≡ rest = take_rest seen begin ∙ ap (drop begin) same in
    let here : front limit rest ≡ Whole n = whole_from (front limit rest) n (found ∙ ap (λ (x : List ℕ). len_of (front limit x)) all) in
    let parts : Finds limit rest (Ok (Some n)) = subst (λ (x : List ℕ). Finds limit x (Ok (Some n))) all cut in
    let long : length m + 4 ≡ n = omega (arith, length-take-le (n - 4) (drop 4 rest) (omega (arith, parts.0, parts.1, length-drop 4 rest)), parts.0) in
    subst (λ (u : Stream). HandsOut u (record { limit = limit; rest = drop (begin + n) octets; told = told; room = room; capacity = capacity })
    (take (begin + n - (begin + 4)) (drop (begin + 4) octets))) view
    (subst (HandsOut t (record { limit = limit; rest = drop (begin + n) octets; told = told; room = room; capacity = capacity })) (sym (command_at octets begin n)) (record {
      left = ap (λ (r : List ℕ). record t { rest = r }) (sym (drop-drop n begin octets)) ∙ sym (ap (left_of t) none ∙ ap (left_at t) here);
      value = sym (ap (next_of t) none ∙ ap (next_at t) here);
      small = parts.2;
      parts = parts.3 ∙ ap (λ (k : ℕ). frame m ++ drop k rest) (sym long);
    }))

-- what is read of octets is the same whatever follows them, except waiting
abbrev pub IsTold : Head → Type 0
IsTold (Whole n) = Unit {0}
IsTold Waits = ⊥
IsTold (Bad fault) = Unit {0}

choice_more : (b p q : Bool) (n : ℕ) → IsTold (cond b (Bad BadLength) (cond p Waits (Whole n))) → (p ≡ false → q ≡ false)
    → cond b (Bad BadLength) (cond q Waits (Whole n)) ≡ cond b (Bad BadLength) (cond p Waits (Whole n))
choice_more true p q n told h = refl
choice_more false true q n told h = absurd told
choice_more false false q n told h = ap (λ (r : Bool). cond r Waits (Whole n)) (h refl)

sized_more : (limit : ℕ) (s more : List ℕ) → IsTold (sized limit s) → sized limit (s ++ more) ≡ sized limit s
unfolding sized
sized_more limit [] more h = absurd h
sized_more limit (a ∷ []) more h = absurd h
sized_more limit (a ∷ b ∷ []) more h = absurd h
sized_more limit (a ∷ b ∷ c ∷ rest) more h =
    let n = a * 65536 + b * 256 + c in
    choice_more (ltb n 5 || ltb limit n) (ltb (length rest + 4) n) (ltb (length (rest ++ more) + 4) n) n h
    (λ e. le-ltb (length (rest ++ more) + 4) n (omega (arith, ltb-false _ _ e, length-append rest more)))

choice_at : (b : Bool) (x y z : Head) → IsTold (cond b x z) → (IsTold x → y ≡ x) → cond b y z ≡ cond b x z
choice_at true x y z told h = h told
choice_at false x y z told h = refl

-- what is read of octets is read of them with more after
pub front_more : (limit : ℕ) (s more : List ℕ) → IsTold (front limit s) → front limit (s ++ more) ≡ front limit s
unfolding front
front_more limit [] more h = absurd h
front_more limit (first ∷ rest) more h = choice_at (first == 16) (sized limit rest) (sized limit (rest ++ more)) (Bad BadHeader) h (sized_more limit rest more)

choice_within : (b p : Bool) (n count : ℕ) → (b ≡ false → 5 ≤ n) → (p ≡ false → n ≤ count) → IsWithin count (cond b (Bad BadLength) (cond p Waits (Whole n)))
choice_within true p n count five there = tt
choice_within false true n count five there = tt
choice_within false false n count five there = (five refl, there refl)

sized_within : (limit : ℕ) (s : List ℕ) → IsWithin (length s + 1) (sized limit s)
unfolding sized
sized_within limit [] = tt
sized_within limit (a ∷ []) = tt
sized_within limit (a ∷ b ∷ []) = tt
sized_within limit (a ∷ b ∷ c ∷ rest) =
    let n = a * 65536 + b * 256 + c in
    choice_within (ltb n 5 || ltb limit n) (ltb (length rest + 4) n) n (length (a ∷ b ∷ c ∷ rest) + 1) (λ e. ltb-false _ _ (or_parts _ _ e).0)
    (λ e. let h = ltb-false (length rest + 4) n e in omega arith)

choice_both : (b : Bool) (x y : Head) (count : ℕ) → IsWithin count x → IsWithin count y → IsWithin count (cond b x y)
choice_both true x y count p q = p
choice_both false x y count p q = q

-- a whole frame has its header and is there
pub front_within : (limit : ℕ) (s : List ℕ) → IsWithin (length s) (front limit s)
unfolding front
front_within limit [] = tt
front_within limit (first ∷ rest) = choice_both (first == 16) (sized limit rest) (Bad BadHeader) (length (first ∷ rest))
    (subst (λ (k : ℕ). IsWithin k (sized limit rest)) (add-one (length rest)) (sized_within limit rest)) tt

-- what a result of `next` says

some_at : (s : Stream) (h : Head) (x : List ℕ) → next_at s h ≡ Ok (Some x) → (n : ℕ) × (h ≡ Whole n) × (command_in n s.rest ≡ x) × (left_at s h ≡ past s n)
some_at s (Whole n) x e = (n, refl, cc, refl)
some_at s Waits x e = absurd (let h : ⊥ = cc in h)
some_at s (Bad fault) x e = absurd (let h : ⊥ = cc in h)

none_at : (s : Stream) (h : Head) → next_at s h ≡ Ok None → (h ≡ Waits) × (left_at s h ≡ s)
none_at s (Whole n) e = absurd (let h : ⊥ = cc in h)
none_at s Waits e = (refl, refl)
none_at s (Bad fault) e = absurd (let h : ⊥ = cc in h)

err_at : (s : Stream) (h : Head) (x : FrameFault) → next_at s h ≡ Err x → (h ≡ Bad x) × (left_at s h ≡ with_fault s x)
err_at s (Whole n) x e = absurd (let h : ⊥ = cc in h)
err_at s Waits x e = absurd (let h : ⊥ = cc in h)
err_at s (Bad fault) x e = let h : fault ≡ x = cc in (ap (λ (y : FrameFault). Bad y) h, ap (with_fault s) h)

some_of : (s : Stream) (t : Option FrameFault) (x : List ℕ) → next_of s t ≡ Ok (Some x) → (n : ℕ) × (front s.limit s.rest ≡ Whole n) × (command_in n s.rest ≡ x) × (left_of s t ≡ past s n)
some_of s None x e = some_at s (front s.limit s.rest) x e
some_of s (Some fault) x e = absurd (let h : ⊥ = cc in h)

none_of : (s : Stream) (t : Option FrameFault) → next_of s t ≡ Ok None → (front s.limit s.rest ≡ Waits) × (left_of s t ≡ s)
none_of s None e = none_at s (front s.limit s.rest) e
none_of s (Some fault) e = absurd (let h : ⊥ = cc in h)

pub next_some : (s : Stream) (x : List ℕ) → next_of s s.told ≡ Ok (Some x) → (n : ℕ) × (front s.limit s.rest ≡ Whole n) × (command_in n s.rest ≡ x) × (left_of s s.told ≡ past s n)
next_some s x e = some_of s s.told x e

pub next_none : (s : Stream) → next_of s s.told ≡ Ok None → (front s.limit s.rest ≡ Waits) × (left_of s s.told ≡ s)
next_none s e = none_of s s.told e

pub next_err : (s : Stream) (x : FrameFault) → s.told ≡ None → next_of s s.told ≡ Err x → (front s.limit s.rest ≡ Bad x) × (left_of s s.told ≡ with_fault s x)
next_err s x told e =
    let h = err_at s (front s.limit s.rest) x (sym (ap (next_of s) told) ∙ e) in
    (h.0, ap (left_of s) told ∙ h.1)

-- removing a frame makes the rest shorter
pub past_shorter : (s : Stream) (n : ℕ) → front s.limit s.rest ≡ Whole n → length (past s n).rest < length s.rest
past_shorter s n whole =
    let within : IsWithin (length s.rest) (Whole n) = subst (IsWithin (length s.rest)) whole (front_within s.limit s.rest) in
    omega (arith, within.0, within.1, length-drop n s.rest)
