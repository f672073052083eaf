-- An index of partners by their codes.
use Rattle.std.specs.Prelude.{◌≡◌, ℕ, suc, if◌then◌else◌, List, [], ◌∷◌, Option, Some, None, option_map, Vec}
use Rattle.std.specs.declared.alloc.Global.{Global}
use Rattle.std.specs.Ordering.{nat_cmp}
use Rattle.std.specs.Cmp.Lexicographic.{slice_cmp}
use Rattle.std.specs.Str.{bytes_eq}
use Rattle.std.specs.BTreeMap.{BTreeMap, get_by}
use Rattle.oftp_partners.specs.declared.partner.Partner.{Partner}

-- the index of the first partner with a code
abbrev pub place_at : List ℕ → List Partner → Option ℕ
place_at code [] = None
place_at code (p ∷ ps) = if bytes_eq p.code code then Some 0 else option_map suc (place_at code ps)

-- what an index has under a code
abbrev pub indexed_at : BTreeMap (Vec ℕ Global) ℕ → List ℕ → Option ℕ
indexed_at places code = get_by (λ key. slice_cmp nat_cmp code key.items) places

-- under each code the index of its partner
abbrev pub IsIndex : BTreeMap (Vec ℕ Global) ℕ → List Partner → Type 0
IsIndex places ps = (code : List ℕ) → indexed_at places code ≡ place_at code ps
