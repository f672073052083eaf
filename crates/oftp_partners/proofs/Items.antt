-- The elements of an array, in order.
use Rattle.std.proofs.Common.{◌≡◌, ℕ, ◌+◌, ◌<◌, List, [], ◌∷◌, ◌++◌, length, get_or, drop, refl}
use Rattle.toml.specs.View.{view, items_view}
use Rattle.toml.specs.declared.value.Value.{Value}
use Rattle.toml.proofs.Views.{items_view-drop}
use Rattle.oftp_partners.specs.declared.partner.Station.{Station}
use Rattle.oftp_partners.specs.declared.partner.Partner.{Partner}
use Rattle.oftp_partners.specs.Keys.{◌>>=◌}
use Rattle.oftp_partners.specs.Book.{partner_of, partners_of, count_of}

-- there are as many elements as values
pub count_of_view : (vs : List Value) → count_of (items_view vs) ≡ length vs
count_of_view [] = refl
count_of_view (v ∷ vs) = rw (count_of_view vs)

-- one iteration of the loop over the elements
pub partners_of_step : (station : Station) (before : List Partner) (vs : List Value) (i : ℕ) (v : Value) → i < length vs → v ≡ get_or vs i v
    → partners_of station before (items_view (drop i vs)) ≡ (partner_of station before (view v) >>= λ p. partners_of station (before ++ p ∷ []) (items_view (drop (i + 1) vs)))
partners_of_step station before vs i v h same = rw (items_view-drop vs i v h, ← same)
