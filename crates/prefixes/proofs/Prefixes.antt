-- The rows of a list of prefixes: they have one length and are the routes of the prefixes.
use mathlib.Core.Path.{◌≡◌, refl, ap}
use mathlib.Core.List.{List, [], ◌∷◌, map}
use lib.ListN.{length-map}
use Rattle.route.specs.Rule.{Route}
use Rattle.route.specs.Lists.{EqualRows, routes}
use Rattle.route.specs.Shown.{route_of}
use Rattle.route.specs.declared.Route.{Route as RouteStruct}
use Rattle.prefixes.specs.Prefixes.{address_row, length_row, hop_row}

pub equal-rows : (ps : List RouteStruct) → EqualRows (address_row ps) (length_row ps) (hop_row ps)
equal-rows ps = record { second = simp length-map refl; third = simp length-map refl }

pub routes-of-rows : (ps : List RouteStruct) → routes (address_row ps) (length_row ps) (hop_row ps) ≡ map route_of ps
routes-of-rows [] = refl
routes-of-rows (p ∷ ps) = ap {B = List Route} (λ rs. route_of p ∷ rs) (routes-of-rows ps)
