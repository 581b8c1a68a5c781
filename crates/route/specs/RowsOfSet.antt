-- The lent rows of a set of routes: each route valid, no prefix twice.
use Rattle.std.specs.Prelude.{ℕ, ◌%◌, ◌≤◌, ◌<◌, ◌≡◌, List, [], ◌∷◌, length}
use Rattle.route.specs.Limits.{max_hop, max_routes}
use Rattle.route.specs.Rule.{Route, span}
use Rattle.route.specs.RightHop.{◌∈◌}
use Rattle.route.specs.Lists.{EqualRows, routes}

-- a prefix of at most W bits at a multiple of its span, with a hop
pub record Valid (W : ℕ) (r : Route) : Type 0 where
  pub short : r.length ≤ W
  pub aligned : r.address % span W r.length ≡ 0
  pub hopped : 0 < r.hop
  pub small : r.hop ≤ max_hop

-- no prefix stands at two places of a list
abbrev pub Distinct : List Route → Type 0
Distinct [] = Unit {0}
Distinct (r ∷ rs) = ((s : Route) → s ∈ rs → r.address ≡ s.address → r.length ≡ s.length → ⊥) × Distinct rs

-- the rows of a list that is to be accepted
pub record RowsOfSet (W : ℕ) (ad ns hs : List ℕ) : Type 0 where
  pub equal : EqualRows ad ns hs
  pub few : length ad ≤ max_routes
  pub valid : (r : Route) → r ∈ routes ad ns hs → Valid W r
  pub distinct : Distinct (routes ad ns hs)
