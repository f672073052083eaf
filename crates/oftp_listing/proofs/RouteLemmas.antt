-- What the router returns for a target.
use Rattle.std.proofs.Common.{◌≡◌, ◌⊎◌, ◌-◌, ◌≤◌, ltb, leb, drop, ◌+◌, ◌==◌, ◌<◌, nat_le, ℕ, zero, suc, true, false, List, [], ◌∷◌, ◌++◌, length, codes, Option, Some, None, refl, sym, ap, ◌∙◌, inl, inr, option_map, option_and_then, arith, subst}
use Rattle.std.proofs.lemmas.Bool.{cases_Bool}
use Rattle.std.proofs.lemmas.Bool.Decides.{nat_tests}
use Rattle.std.proofs.Math.Seq.{take-length}
use Rattle.std.proofs.lemmas.Str.{IsUtf8-drop, IsCharBoundary-after_ascii, IsUtf8-from_ascii}
use Rattle.std.specs.List.{list_all}
use Rattle.std.specs.Str.{IsUtf8, IsAscii}
use Rattle.matchit.specs.Rows.{RowsOf}
use Rattle.matchit.specs.Router.{RouteOf}
use Rattle.matchit.specs.Params.{walk, named, AllText, next_at, part_of}
use Rattle.matchit.specs.Seek.{seek, first, step, has_slash}
use Rattle.oftp_wire.specs.Octets.{is_digit}
use Rattle.oftp_listing.specs.declared.route.TheConstants.{MOST_DIGITS}
use Rattle.oftp_listing.specs.declared.route.Place.{Place}
use Rattle.oftp_listing.specs.declared.route.Place.TheVariants as place
use Rattle.oftp_listing.specs.declared.route.Route.{Route}
use Rattle.oftp_listing.specs.declared.route.Route.TheVariants.{Incoming, IncomingFile, Outgoing, OutgoingFile, Responses}
use Rattle.oftp_listing.specs.Routes.{behind, either, is_unpadded, number_of, route_at, table_at, whole_at}
use Rattle.oftp_listing.specs.Rows.{all_in, all_out, one_in, one_out, responses, routes}
use Rattle.oftp_listing.proofs.RowLemmas.{behind_is, first_behind, seek_byte, seek_none, slashed_cases, table, table_byte}

-- a text with a slash, and an empty text, are no number
slash_is_no_digit : (b : ℕ) → (b == 47) ≡ true → is_digit b ≡ false
slash_is_no_digit b h = grind (arith, nat_tests)

no_digits : (p : List ℕ) → has_slash p ≡ true → list_all is_digit p ≡ false
no_digits [] h = absurd (cc h)
no_digits (b ∷ p) h = elim (cases_Bool (b == 47)) [
  | inl slash ↦ rw (slash_is_no_digit b slash) refl
  | inr other ↦ elim (cases_Bool (is_digit b)) [ inl d ↦ rw d (no_digits p (rw other at h)) | inr d ↦ rw d refl ]
]

no_number : (p : List ℕ) → (p ≡ []) ⊎ (has_slash p ≡ true) → number_of p ≡ None
unfolding number_of
no_number p (inl e) = rw e refl
no_number p (inr h) = elim (cases_Bool (is_unpadded p)) [
  | inr u ↦ rw u refl
  | inl u ↦ elim (cases_Bool (nat_le (length p) MOST_DIGITS)) [ inl n ↦ rw (u, n, no_digits p h) refl | inr n ↦ rw (u, n) refl ]
]

-- a table's rows find the route of the target, the front before the table's own text
abbrev InTable : (p front : List ℕ) (whole : Route) (entry : ℕ → Route) (one all : RouteOf Place) → Option (RouteOf Place) → Type 0
InTable p front whole entry one all res =
    ((res ≡ None) × (route_at p ≡ None))
    ⊎ (((res ≡ Some all) × (route_at p ≡ Some whole))
    ⊎ ((res ≡ Some one) × (id : List ℕ) × (p ≡ front ++ 47 ∷ id) × (route_at p ≡ option_map entry (number_of id))))

in_table : (p front : List ℕ) (whole : Route) (entry : ℕ → Route) (one all : RouteOf Place) (v : Option (List ℕ)) → route_at p ≡ table_at whole entry v
    → ((t : List ℕ) → v ≡ Some t → p ≡ front ++ t) → InTable p front whole entry one all (option_and_then (first (table one all)) v)
unfolding seek
in_table p front whole entry one all None e is = inl (refl, e)
in_table p front whole entry one all (Some []) e is = inr (inl (refl, e))
in_table p front whole entry one all (Some (c ∷ t)) e is = rw (table_byte one all c t) (elim (cases_Bool (47 == c)) [
  | inl h ↦
      let same : c ≡ 47 = grind (arith, nat_tests) in
      let back : (c == 47) ≡ true = grind (arith, nat_tests) in
      rw h (elim (slashed_cases one t) [
        | inl found ↦ inr (inr (found, t, rw same at (is (c ∷ t) refl), rw back at e))
        | inr none ↦ inl (none.0, rw back at e ∙ ap (option_map entry) (no_number t none.1))
      ])
  | inr h ↦ let back : (c == 47) ≡ false = grind (arith, nat_tests) in rw h (inl (refl, rw back at e))
])

-- what a found row says of the target
abbrev pub IsFound : List ℕ → RouteOf Place → Place → Type 0
IsFound p r place.Incoming = route_at p ≡ Some Incoming
IsFound p r place.IncomingFile = (r ≡ one_in) × (id : List ℕ) × (p ≡ codes "/in/" ++ id) × (route_at p ≡ option_map IncomingFile (number_of id))
IsFound p r place.Outgoing = route_at p ≡ Some Outgoing
IsFound p r place.OutgoingFile = (r ≡ one_out) × (id : List ℕ) × (p ≡ codes "/out/" ++ id) × (route_at p ≡ option_map OutgoingFile (number_of id))
IsFound p r place.Responses = route_at p ≡ Some Responses

abbrev pub Finds : List ℕ → Option (RouteOf Place) → Type 0
Finds p None = route_at p ≡ None
Finds p (Some r) = IsFound p r r.value

finds_in : (p : List ℕ) (res : Option (RouteOf Place)) → InTable p (codes "/in") Incoming IncomingFile one_in all_in res → Finds p res
finds_in p res (inl (n, e)) = rw n e
finds_in p res (inr (inl (a, e))) = rw a e
finds_in p res (inr (inr (o, id, whole, e))) = rw o (refl, id, whole, e)

finds_out : (p : List ℕ) (res : Option (RouteOf Place)) → InTable p (codes "/out") Outgoing OutgoingFile one_out all_out res → Finds p res
finds_out p res (inl (n, e)) = rw n e
finds_out p res (inr (inl (a, e))) = rw a e
finds_out p res (inr (inr (o, id, whole, e))) = rw o (refl, id, whole, e)

-- the last route ends here
abbrev ended : RowsOf (RouteOf Place)
ended = ([], responses) ∷ []

finds_responses : (p : List ℕ) (v : Option (List ℕ)) → route_at p ≡ whole_at Responses v → Finds p (option_and_then (first ended) v)
unfolding seek
finds_responses p None e = e
finds_responses p (Some []) e = e
finds_responses p (Some (c ∷ t)) e = rw (seek_byte ended c t refl refl, seek_none 0 t) e

-- the rest of the rows after the slash
abbrev fork : RowsOf (RouteOf Place)
fork = step 47 routes

either_none : (route : Option Route) → either route None ≡ route
either_none None = refl
either_none (Some route) = refl

found_in : (t : List ℕ) → Finds (codes "/i" ++ t) (seek 0 (step 105 fork) t)
unfolding route_at
found_in t =
    let p = codes "/i" ++ t in
    rw (first_behind (codes "n") (table one_in all_in) t refl)
    (finds_in p _ (in_table p (codes "/in") Incoming IncomingFile one_in all_in (behind (codes "n") t) (either_none _) (behind_is (codes "/in") p)))

found_out : (t : List ℕ) → Finds (codes "/o" ++ t) (seek 0 (step 111 fork) t)
unfolding route_at
found_out t =
    let p = codes "/o" ++ t in
    rw (first_behind (codes "ut") (table one_out all_out) t refl)
    (finds_out p _ (in_table p (codes "/out") Outgoing OutgoingFile one_out all_out (behind (codes "ut") t) (either_none _) (behind_is (codes "/out") p)))

found_responses : (t : List ℕ) → Finds (codes "/r" ++ t) (seek 0 (step 114 fork) t)
unfolding route_at
found_responses t = rw (first_behind (codes "esponses") ended t refl) (finds_responses (codes "/r" ++ t) (behind (codes "esponses") t) refl)

no_route_behind : (y : ℕ) (t : List ℕ) → (105 == y) ≡ false → (111 == y) ≡ false → (114 == y) ≡ false → route_at (47 ∷ y ∷ t) ≡ None
unfolding route_at
no_route_behind y t i o r = rw (i, o, r) refl

no_route : (x : ℕ) (q : List ℕ) → (47 == x) ≡ false → route_at (x ∷ q) ≡ None
unfolding route_at
no_route x q h = rw h refl

found_behind : (q : List ℕ) → Finds (47 ∷ q) (seek 0 fork q)
unfolding seek route_at
found_behind [] = refl
found_behind (y ∷ t) = rw (seek_byte fork y t refl refl) (elim (cases_Bool (105 == y)) [
  | inl h ↦ let same : 105 ≡ y = grind (arith, nat_tests) in subst (λ y. Finds (47 ∷ y ∷ t) (seek 0 (step y fork) t)) same (found_in t)
  | inr i ↦ elim (cases_Bool (111 == y)) [
    | inl h ↦ let same : 111 ≡ y = grind (arith, nat_tests) in subst (λ y. Finds (47 ∷ y ∷ t) (seek 0 (step y fork) t)) same (found_out t)
    | inr o ↦ elim (cases_Bool (114 == y)) [
      | inl h ↦ let same : 114 ≡ y = grind (arith, nat_tests) in subst (λ y. Finds (47 ∷ y ∷ t) (seek 0 (step y fork) t)) same (found_responses t)
      | inr r ↦ rw (i, o, r, seek_none 0 t) (no_route_behind y t i o r)
    ]
  ]
])

-- what the router returns is the route of the target
pub found_route : (p : List ℕ) → Finds p (first routes p)
unfolding seek route_at
found_route [] = refl
found_route (x ∷ q) = rw (seek_byte routes x q refl refl) (elim (cases_Bool (47 == x)) [
  | inl h ↦ let same : 47 ≡ x = grind (arith, nat_tests) in subst (λ x. Finds (x ∷ q) (seek 0 (step x routes) q)) same (found_behind q)
  | inr h ↦ rw (h, seek_none 0 q) (no_route x q h)
])

pub none_found : (p : List ℕ) → first routes p ≡ None → route_at p ≡ None
none_found p e = subst (Finds p) e (found_route p)

pub row_found : (p : List ℕ) (r : RouteOf Place) (at : Place) → first routes p ≡ Some r → r.value ≡ at → IsFound p r at
row_found p r at e v = subst (IsFound p r) v (subst (Finds p) e (found_route p))

-- what the parameter of a file's route takes

next_is : (n k m : ℕ) → k < n → k + 1 ≡ m → next_at n k ≡ m
next_is n k m h e = elim (cases_Bool (ltb k n)) [ inl w ↦ rw w e | inr w ↦ absurd (grind arith) ]

leb_true : (m n : ℕ) → m ≤ n → leb m n ≡ true
leb_true m n h = elim (cases_Bool (leb m n)) [ inl w ↦ w | inr w ↦ absurd (grind arith) ]

part_behind : (k : ℕ) (path id : List ℕ) (n : ℕ) → n ≡ length path → k ≤ n → drop k path ≡ id → n - k ≡ length id → part_of path k n ≡ id
part_behind k path id n e h dropped left =
    let low = leb_true k n h in
    let high = leb_true n (length path) (omega (arith, e)) in
    rw (low, high, dropped, left) (take-length id)

-- what a route takes from a target
abbrev pub parts : RouteOf Place → List ℕ → List (List ℕ × List ℕ)
parts r p = walk r.pattern r.text p r.names 0 0

in_parts : (id : List ℕ) → parts one_in (codes "/in/" ++ id) ≡ (codes "id", id) ∷ []
in_parts id =
    let n : ℕ = length (codes "/in/" ++ id) in
    let part = part_behind 4 (codes "/in/" ++ id) id n refl (omega arith) refl (omega arith) in
    rw (next_is n 0 1 (omega arith) refl, next_is n 1 2 (omega arith) refl, next_is n 2 3 (omega arith) refl, next_is n 3 4 (omega arith) refl, part) refl

out_parts : (id : List ℕ) → parts one_out (codes "/out/" ++ id) ≡ (codes "id", id) ∷ []
out_parts id =
    let n : ℕ = length (codes "/out/" ++ id) in
    let part = part_behind 5 (codes "/out/" ++ id) id n refl (omega arith) refl (omega arith) in
    rw (next_is n 0 1 (omega arith) refl, next_is n 1 2 (omega arith) refl, next_is n 2 3 (omega arith) refl, next_is n 3 4 (omega arith) refl, next_is n 4 5 (omega arith) refl, part) refl

id_is_ascii : IsAscii (codes "id")
id_is_ascii zero = omega arith
id_is_ascii (suc zero) = omega arith
id_is_ascii (suc (suc i)) = omega arith

number_found : (r : RouteOf Place) (p id : List ℕ) (found : Option ℕ) → (AllText (parts r p) → found ≡ option_and_then number_of (named (codes "id") (parts r p)))
    → parts r p ≡ (codes "id", id) ∷ [] → IsUtf8 id → number_of id ≡ found
number_found r p id found tells is text = sym (rw is at (tells (rw is (IsUtf8-from_ascii (codes "id") id_is_ascii, text, tt))))

-- the number that was found in the target of an incoming file
pub in_found : (p : List ℕ) (r : RouteOf Place) (found : Option ℕ) → IsUtf8 p → first routes p ≡ Some r → r.value ≡ place.IncomingFile
    → (AllText (parts r p) → found ≡ option_and_then number_of (named (codes "id") (parts r p))) → route_at p ≡ option_map IncomingFile found
in_found p r found text e v tells =
    let (row, id, whole, asked) = row_found p r place.IncomingFile e v in
    let taken : parts r p ≡ (codes "id", id) ∷ [] = ap (λ x. parts x p) row ∙ ap (parts one_in) whole ∙ in_parts id in
    let shown : IsUtf8 id = IsUtf8-drop (codes "/in/" ++ id) 4 (subst IsUtf8 whole text) (IsCharBoundary-after_ascii (codes "/in/" ++ id) 3 (subst IsUtf8 whole text) (omega arith) (omega arith)) in
    asked ∙ ap (option_map IncomingFile) (number_found r p id found tells taken shown)

-- the number that was found in the target of an outgoing file
pub out_found : (p : List ℕ) (r : RouteOf Place) (found : Option ℕ) → IsUtf8 p → first routes p ≡ Some r → r.value ≡ place.OutgoingFile
    → (AllText (parts r p) → found ≡ option_and_then number_of (named (codes "id") (parts r p))) → route_at p ≡ option_map OutgoingFile found
out_found p r found text e v tells =
    let (row, id, whole, asked) = row_found p r place.OutgoingFile e v in
    let taken : parts r p ≡ (codes "id", id) ∷ [] = ap (λ x. parts x p) row ∙ ap (parts one_out) whole ∙ out_parts id in
    let shown : IsUtf8 id = IsUtf8-drop (codes "/out/" ++ id) 5 (subst IsUtf8 whole text) (IsCharBoundary-after_ascii (codes "/out/" ++ id) 4 (subst IsUtf8 whole text) (omega arith) (omega arith)) in
    asked ∙ ap (option_map OutgoingFile) (number_found r p id found tells taken shown)
