-- The rows of the router. Only private functions cite them.
use Rattle.std.specs.Prelude.{ℕ, List, [], ◌∷◌, ◌++◌, codes}
use Rattle.matchit.specs.Rows.{RowsOf, param_token}
use Rattle.matchit.specs.Router.{RouteOf}
use Rattle.matchit.specs.Params.{walk}
use Rattle.matchit.specs.declared.params.Params.{Params}
use Rattle.oftp_listing.specs.declared.route.Place.{Place}
use Rattle.oftp_listing.specs.declared.route.Place.TheVariants as place

abbrev pub all_in : RouteOf Place
all_in = record { pattern = codes "/in"; text = codes "/in"; names = []; value = place.Incoming }

abbrev pub one_in : RouteOf Place
one_in = record { pattern = codes "/in/" ++ param_token ∷ []; text = codes "/in/{id}"; names = (5, 7) ∷ []; value = place.IncomingFile }

abbrev pub all_out : RouteOf Place
all_out = record { pattern = codes "/out"; text = codes "/out"; names = []; value = place.Outgoing }

abbrev pub one_out : RouteOf Place
one_out = record { pattern = codes "/out/" ++ param_token ∷ []; text = codes "/out/{id}"; names = (6, 8) ∷ []; value = place.OutgoingFile }

abbrev pub responses : RouteOf Place
responses = record { pattern = codes "/responses"; text = codes "/responses"; names = []; value = place.Responses }

-- the five routes in the router's order
abbrev pub routes : RowsOf (RouteOf Place)
routes =
    (one_in.pattern, one_in) ∷ (all_in.pattern, all_in) ∷ (one_out.pattern, one_out) ∷ (all_out.pattern, all_out)
    ∷ (responses.pattern, responses) ∷ []

-- what the parameters of a match took from the path
abbrev pub parts_of : Params → List (List ℕ × List ℕ)
parts_of p = walk p.pattern.now p.text.now p.path.now p.names.now 0 0
