-- The beginning of octets, in the words of `Front`, and that a stream is read in one way.
use Rattle.std.proofs.Common.{◌≡◌, ℕ, ◌+◌, ◌-◌, ◌*◌, ◌/◌, ◌%◌, ◌<◌, ◌≤◌, List, [], ◌∷◌, ◌++◌, length, take, drop, None, Some, refl, sym, ap, subst, ◌∙◌, append_assoc, arith, Bool, true, false, cond, ltb, ◌||◌, ◌==◌, length-append, length-drop, inl, inr, zero, suc}
use Rattle.std.specs.Borrow.{Bor}
use Rattle.std.specs.Prelude.{Option, is_some}
use Rattle.std.proofs.lemmas.Grind.{flat_map-append}
use Rattle.oftp_codec.specs.declared.frame_fault.FrameFault.{FrameFault}
use Rattle.std.specs.List.{flat_map, All, AllByRecursion}
use Rattle.std.proofs.lemmas.List.{take_at, drop_at, drop-drop, take-append-drop, length-take-le}
use Rattle.std.proofs.lemmas.List.Elements.{All-tail, All-drop}
use Rattle.std.proofs.lemmas.Bool.{ltb-false, ltb-true, eqb-true, eqb-false, le-ltb, false≢true, or_parts, or_cases, or_from}
use Rattle.oftp_codec.specs.declared.frame_fault.FrameFault.TheVariants.{BadHeader, BadLength}
use Rattle.oftp_codec.specs.Header.{frame, header_of, IsCommand}
use Rattle.oftp_codec.specs.Stream.{Head, Whole, Waits, Bad, front, sized, len_of, command_in, NoFrame, length_fault, rest_fault, Front, Finds, head_of, IsRest, joined, Reads}

same_number : (n m : ℕ) → n / 65536 ≡ m / 65536 → n / 256 % 256 ≡ m / 256 % 256 → n % 256 ≡ m % 256 → n ≡ m
same_number n m a b c = omega arith

same_body : (c d x y : List ℕ) → c ++ x ≡ d ++ y → length c ≡ length d → (c ≡ d) × (x ≡ y)
same_body c d x y e n = (
  sym (take_at c x (length c) refl) ∙ ap (take (length c)) e ∙ take_at d y (length c) (sym n),
  sym (drop_at c x (length c) refl) ∙ ap (drop (length c)) e ∙ drop_at d y (length c) (sym n),
)

one_frame : (c d x y : List ℕ) → frame c ++ x ≡ frame d ++ y → (c ≡ d) × (x ≡ y)
one_frame c d x y e =
    let a : (length c + 4) / 65536 ≡ (length d + 4) / 65536 = cc in
    let b : (length c + 4) / 256 % 256 ≡ (length d + 4) / 256 % 256 = cc in
    let f : (length c + 4) % 256 ≡ (length d + 4) % 256 = cc in
    let n = same_number (length c + 4) (length d + 4) a b f in
    let body : c ++ x ≡ d ++ y = cc in
    same_body c d x y body (omega (arith, n))

one_front_by : (limit : ℕ) (cs ds : List (List ℕ)) (r q : List ℕ) → flat_map frame cs ++ r ≡ flat_map frame ds ++ q
    → AllByRecursion (IsCommand limit) cs → AllByRecursion (IsCommand limit) ds → NoFrame limit r → NoFrame limit q → (cs ≡ ds) × (r ≡ q)
one_front_by limit [] [] r q e f g nor noq = (refl, e)
one_front_by limit [] (d ∷ ds) r q e f g nor noq = absurd (nor d (flat_map frame ds ++ q) g.0 (e ∙ append_assoc (frame d) (flat_map frame ds) q))
one_front_by limit (c ∷ cs) [] r q e f g nor noq = absurd (noq c (flat_map frame cs ++ r) f.0 (sym e ∙ append_assoc (frame c) (flat_map frame cs) r))
one_front_by limit (c ∷ cs) (d ∷ ds) r q e f g nor noq =
    let one = one_frame c d (flat_map frame cs ++ r) (flat_map frame ds ++ q) (sym (append_assoc (frame c) (flat_map frame cs) r) ∙ e ∙ append_assoc (frame d) (flat_map frame ds) q) in
    let both = one_front_by limit cs ds r q one.1 f.1 g.1 nor noq in
    let heads : c ≡ d = one.0 in
    let tails : cs ≡ ds = both.0 in
    (cc, both.1)

-- a stream is read in one way
pub one_front : (limit : ℕ) (stream : List ℕ) (cs ds : List (List ℕ)) (r q : List ℕ) → Front limit stream cs r → Front limit stream ds q → (cs ≡ ds) × (r ≡ q)
one_front limit stream cs ds r q f g = one_front_by limit cs ds r q (sym f.whole ∙ g.whole) f.each g.each f.last g.last

-- the length in a header
said : (n : ℕ) → n / 65536 * 65536 + n / 256 % 256 * 256 + n % 256 ≡ n
said n = omega arith

header_again : (a b c n : ℕ) → b < 256 → c < 256 → a * 65536 + b * 256 + c ≡ n → header_of n ≡ 16 ∷ a ∷ b ∷ c ∷ []
header_again a b c n small_b small_c e =
    let x : n / 65536 ≡ a = omega arith in
    let y : n / 256 % 256 ≡ b = omega arith in
    let z : n % 256 ≡ c = omega arith in
    cc

-- if these octets begin with a frame, it has the length that they encode, and is whole
framed : (a b c : ℕ) (rest m more : List ℕ) → 16 ∷ a ∷ b ∷ c ∷ rest ≡ frame m ++ more → (a * 65536 + b * 256 + c ≡ length m + 4) × (length m ≤ length rest)
framed a b c rest m more e =
    let n = length m + 4 in
    let x : a ≡ n / 65536 = cc in
    let y : b ≡ n / 256 % 256 = cc in
    let z : c ≡ n % 256 = cc in
    let body : rest ≡ m ++ more = cc in
    (omega (arith, x, y, z, said n), omega (arith, ap length body, length-append m more))

-- no command has a length that is out of range
out_of_range : (limit n : ℕ) (m : List ℕ) → n ≡ length m + 4 → IsCommand limit m → (ltb n 5 || ltb limit n) ≡ true → ⊥
out_of_range limit n m e c out = elim (or_cases (ltb n 5) (ltb limit n) out) [
  | inl l ↦ omega (arith, ltb-true n 5 l, e, c.0)
  | inr r ↦ omega (arith, ltb-true limit n r, e, c.1)
]

found : (limit x y z : ℕ) (rest : List ℕ) (b p : Bool) → y < 256 → z < 256
    → (ltb (x * 65536 + y * 256 + z) 5 || ltb limit (x * 65536 + y * 256 + z)) ≡ b → ltb (length rest + 4) (x * 65536 + y * 256 + z) ≡ p
    → Finds limit (16 ∷ x ∷ y ∷ z ∷ rest) (len_of (cond b (Bad BadLength) (cond p Waits (Whole (x * 65536 + y * 256 + z)))))
found limit x y z rest true p small_y small_z out far =
    let n = x * 65536 + y * 256 + z in (
      λ m more c e. out_of_range limit n m (framed x y z rest m more e).0 c out,
      ap (λ (b : Bool). cond b (Some BadLength) None) out,
    )
found limit x y z rest false true small_y small_z out far = (
  λ m more c e. let f = framed x y z rest m more e in omega (arith, ltb-true (length rest + 4) (x * 65536 + y * 256 + z) far, f.0, f.1),
  ap (λ (b : Bool). cond b (Some BadLength) None) out,
)
found limit x y z rest false false small_y small_z out far =
    let n = x * 65536 + y * 256 + z in
    let s = 16 ∷ x ∷ y ∷ z ∷ rest in
    let parts_of = or_parts (ltb n 5) (ltb limit n) out in
    let five : 5 ≤ n = ltb-false n 5 parts_of.0 in
    let within : n ≤ limit = ltb-false limit n parts_of.1 in
    let there : n ≤ length rest + 4 = ltb-false (length rest + 4) n far in
    let m = take (n - 4) rest in
    let len : length m + 4 ≡ n = omega (arith, length-take-le (n - 4) rest (omega arith)) in
    let head : header_of (length m + 4) ≡ 16 ∷ x ∷ y ∷ z ∷ [] = ap header_of len ∙ header_again x y z n small_y small_z refl in
    let behind : drop (n - 4) rest ≡ drop n s = drop-drop (n - 4) 4 s ∙ ap (λ (k : ℕ). drop k s) {y = n} (omega arith) in
    let parts : take (n - 4) rest ++ drop (n - 4) rest ≡ rest = take-append-drop (n - 4) rest in
    (five, omega arith, (omega arith, omega arith), ap (λ (t : List ℕ). 16 ∷ x ∷ y ∷ z ∷ t) (sym parts ∙ ap (λ (t : List ℕ). m ++ t) behind) ∙ ap (λ (h : List ℕ). h ++ (m ++ drop n s)) (sym head))

sized_finds : (limit : ℕ) (rest : List ℕ) → All (λ c. c < 256) rest → Finds limit (16 ∷ rest) (len_of (sized limit rest))
unfolding sized
sized_finds limit [] small = (λ m more c e. let h : ⊥ = cc in h, refl)
sized_finds limit (x ∷ []) small = (λ m more c e. let h : ⊥ = cc in h, refl)
sized_finds limit (x ∷ y ∷ []) small = (λ m more c e. let h : ⊥ = cc in h, refl)
sized_finds limit (x ∷ y ∷ z ∷ rest) small =
    found limit x y z rest _ _ (small 1 0 (omega arith)) (small 2 0 (omega arith)) refl refl

front_finds_by : (b : Bool) (limit first : ℕ) (rest : List ℕ) → (first == 16) ≡ b → All (λ c. c < 256) rest → Finds limit (first ∷ rest) (len_of (cond b (sized limit rest) (Bad BadHeader)))
front_finds_by true limit first rest is small = subst (λ (f : ℕ). Finds limit (f ∷ rest) (len_of (sized limit rest))) (sym (eqb-true first 16 is)) (sized_finds limit rest small)
front_finds_by false limit first rest is small = (
  λ m more c e. let same : first ≡ 16 = cc in eqb-false first 16 is same,
  ap (λ (b : Bool). cond b (length_fault limit rest) (Some BadHeader)) is,
)

-- the beginning of octets, in the words of `Front`
pub front_finds : (limit : ℕ) (s : List ℕ) → All (λ c. c < 256) s → Finds limit s (len_of (front limit s))
unfolding front
front_finds limit [] small = (λ m more c e. let h : ⊥ = cc in h, refl)
front_finds limit (first ∷ rest) small = front_finds_by (first == 16) limit first rest refl (All-tail (λ (c : ℕ). c < 256) first rest small)

front_frame_by : (b p : Bool) (n : ℕ) → b ≡ false → p ≡ false → cond b (Bad BadLength) (cond p Waits (Whole n)) ≡ Whole n
front_frame_by b p n out far = ap (λ (x : Bool). cond x (Bad BadLength) (cond p Waits (Whole n))) out ∙ ap (λ (x : Bool). cond x Waits (Whole n)) far

-- a frame at the beginning is found
pub front_frame : (limit : ℕ) (m more : List ℕ) → IsCommand limit m → front limit (frame m ++ more) ≡ Whole (length m + 4)
unfolding front sized
front_frame limit m more small =
    let k = length m + 4 in
    let n = k / 65536 * 65536 + k / 256 % 256 * 256 + k % 256 in
    let same : n ≡ k = said k in
    let out : (ltb n 5 || ltb limit n) ≡ false = or_from (ltb n 5) (ltb limit n) (le-ltb n 5 (omega arith)) (le-ltb limit n (omega arith)) in
    let far : ltb (length (m ++ more) + 4) n ≡ false = le-ltb (length (m ++ more) + 4) n (omega (arith, length-append m more)) in
    front_frame_by (ltb n 5 || ltb limit n) (ltb (length (m ++ more) + 4) n) n out far ∙ ap (λ (x : ℕ). Whole x) same

front_rest_by : (limit : ℕ) (r : List ℕ) (h : Head) → NoFrame limit r → Finds limit r (len_of h) → h ≡ head_of (rest_fault limit r)
front_rest_by limit r (Whole n) none cut = absurd (none (command_in n r) (drop n r) cut.2 cut.3)
front_rest_by limit r Waits none cut = ap head_of (sym cut.1)
front_rest_by limit r (Bad fault) none cut = ap head_of (sym cut.1)

-- a rest without a whole frame begins with its error, or it waits
pub front_rest : (limit : ℕ) (r : List ℕ) → All (λ c. c < 256) r → NoFrame limit r → front limit r ≡ head_of (rest_fault limit r)
front_rest limit r small none = front_rest_by limit r (front limit r) none (front_finds limit r small)

record HasFront (limit : ℕ) (stream : List ℕ) : Type 0 where
  commands : List (List ℕ)
  rest : List ℕ
  front : Front limit stream commands rest

last_front : (limit : ℕ) (s : List ℕ) → NoFrame limit s → HasFront limit s
last_front limit s none = record { commands = []; rest = s; front = record { whole = refl; each = tt; last = none } }

some_front_at : (limit : ℕ) (s : List ℕ) (h : Head) → Finds limit s (len_of h)
    → ((t : List ℕ) → All (λ c. c < 256) t → length t < length s → HasFront limit t) → All (λ c. c < 256) s → HasFront limit s
some_front_at limit s (Whole n) cut rest_front small =
    let m = command_in n s in
    let behind = rest_front (drop n s) (All-drop (λ (c : ℕ). c < 256) n s small) (omega (arith, cut.0, cut.1, length-drop n s)) in
    record {
      commands = m ∷ behind.commands;
      rest = behind.rest;
      front = record {
        whole = cut.3 ∙ ap (λ (t : List ℕ). frame m ++ t) behind.front.whole ∙ sym (append_assoc (frame m) (flat_map frame behind.commands) behind.rest);
        each = (cut.2, behind.front.each);
        last = behind.front.last;
      };
    }
some_front_at limit s Waits cut rest_front small = last_front limit s cut.0
some_front_at limit s (Bad fault) cut rest_front small = last_front limit s cut.0

some_front_by : (n limit : ℕ) (s : List ℕ) → length s < n → All (λ c. c < 256) s → HasFront limit s
some_front_by zero limit s short small = absurd (omega arith)
some_front_by (suc n) limit s short small =
    some_front_at limit s (front limit s) (front_finds limit s small) (λ t all less. some_front_by n limit t (omega arith) all) small

-- every stream of octets is frames and a rest
pub some_front : (limit : ℕ) (stream : List ℕ) → All (λ c. c < 256) stream → (xs : List (List ℕ)) × (r : List ℕ) × Front limit stream xs r
some_front limit stream small =
    let found = some_front_by (suc (length stream)) limit stream (omega arith) small in
    (found.commands, found.rest, found.front)

out_of : (b : Bool) (x f : FrameFault) → cond b (Some x) None ≡ Some f → b ≡ true
out_of true x f e = refl
out_of false x f e = absurd (let h : ⊥ = cc in h)

length_more : (limit : ℕ) (t more : List ℕ) (f : FrameFault) → length_fault limit t ≡ Some f → NoFrame limit (16 ∷ (t ++ more)) × (length_fault limit (t ++ more) ≡ Some f)
length_more limit [] more f e = absurd (let h : ⊥ = cc in h)
length_more limit (x ∷ []) more f e = absurd (let h : ⊥ = cc in h)
length_more limit (x ∷ y ∷ []) more f e = absurd (let h : ⊥ = cc in h)
length_more limit (x ∷ y ∷ z ∷ rest) more f e =
    let n = x * 65536 + y * 256 + z in
    let out : (ltb n 5 || ltb limit n) ≡ true = out_of (ltb n 5 || ltb limit n) BadLength f e in (
      λ m after c found. out_of_range limit n m (framed x y z (rest ++ more) m after found).0 c out,
      e,
    )

rest_more_by : (b : Bool) (limit first : ℕ) (t more : List ℕ) (f : FrameFault) → (first == 16) ≡ b
    → cond b (length_fault limit t) (Some BadHeader) ≡ Some f
    → NoFrame limit (first ∷ (t ++ more)) × (cond b (length_fault limit (t ++ more)) (Some BadHeader) ≡ Some f)
rest_more_by true limit first t more f is e =
    let h = length_more limit t more f e in
    (subst (λ (x : ℕ). NoFrame limit (x ∷ (t ++ more))) (sym (eqb-true first 16 is)) h.0, h.1)
rest_more_by false limit first t more f is e = (λ m after c found. let same : first ≡ 16 = cc in eqb-false first 16 is same, e)

-- a rest with an error has it with more octets after it
pub rest_more : (limit : ℕ) (s more : List ℕ) (f : FrameFault) → rest_fault limit s ≡ Some f → IsRest limit (s ++ more) (Some f)
rest_more limit [] more f e = absurd (let h : ⊥ = cc in h)
rest_more limit (first ∷ t) more f e = rest_more_by (first == 16) limit first t more f refl e

-- a stream whose first pieces end in an error
pub reads_early : (limit n : ℕ) (pieces : List (Bor (List ℕ))) (cs : List (List ℕ)) (rest : List ℕ) (fault : Option FrameFault)
    → joined (take n pieces) ≡ flat_map frame cs ++ rest → AllByRecursion (IsCommand limit) cs → IsRest limit rest fault → is_some fault ≡ true → Reads limit (joined pieces) cs fault
reads_early limit n pieces cs rest None whole each last is = absurd (false≢true is)
reads_early limit n pieces cs rest (Some f) whole each last is =
    let behind = joined (drop n pieces) in
    let more = rest_more limit rest behind f last.1 in
    let all : joined pieces ≡ joined (take n pieces) ++ behind = ap joined (sym (take-append-drop n pieces)) ∙ flat_map-append (λ (p : Bor (List ℕ)). p.now) (take n pieces) (drop n pieces) in
    record {
      rest = rest ++ behind;
      front = record { whole = all ∙ ap (λ (t : List ℕ). t ++ behind) whole ∙ append_assoc (flat_map frame cs) rest behind; each = each; last = more.0 };
      fault_is = more.1;
    }
