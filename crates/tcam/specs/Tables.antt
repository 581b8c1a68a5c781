-- A table of slots and the set that it holds: a used slot says a route, and the table is a table of a set where it is well-formed and
-- says exactly the set's routes.
use Rattle.std.specs.Prelude.{◌≡◌, ℕ, cond, ◌↔◌, List, [], ◌∷◌, map}
use Rattle.route.specs.Rule.{Route}
use Rattle.route.specs.Refusals.{fine}
use Rattle.route.specs.RightHop.{◌∈◌}
use Rattle.tcam.specs.Slots.{Cell, cells, is_free, length_in, hop_in, image_fault, size_fault}

-- the two lent rows of a table
abbrev pub addresses : List Cell → List ℕ
addresses cs = map (λ c. c.address) cs

abbrev pub tags : List Cell → List ℕ
tags cs = map (λ c. c.tag) cs

abbrev pub route_of : Cell → Route
route_of c = record { address = c.address; length = length_in c; hop = hop_in c }

-- the routes that the used slots hold
abbrev pub routes_in : List Cell → List Route
routes_in [] = []
routes_in (c ∷ cs) = cond (is_free c) (routes_in cs) (route_of c ∷ routes_in cs)

-- a table of a set: of a right size, well-formed, with exactly its prefixes and hops
pub record TableOf (W : ℕ) (rs : List Route) (ad ts : List ℕ) : Type 0 where
  pub sized : size_fault ad ts ≡ fine
  pub well_formed : image_fault W 0 [] (cells ad ts) ≡ fine
  pub exactly : (r : Route) → (r ∈ routes_in (cells ad ts)) ↔ (r ∈ rs)
