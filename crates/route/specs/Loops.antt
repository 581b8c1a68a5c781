-- What the contracts of leaves and of loops speak of. The contracts of the list's test and lookup cite none of it.
use Rattle.std.specs.Prelude.{ℕ, zero, suc, ◌+◌, ◌<◌, ◌≡◌, List, [], ◌∷◌, get_or, Option, None, Some}
use Rattle.route.specs.Rule.{Route, route, span, Match, nothing, best}
use Rattle.route.specs.Shown.{route_of}
use Rattle.route.specs.declared.Route.{Route as RouteStruct}

-- s is the span of length n, and can be divided by
pub record IsSpan (W n s : ℕ) : Type 0 where
  pub is : s ≡ span W n
  pub positive : 0 < s

-- what stood before place i of a row, nearest first
abbrev pub before : {A : Type 0} → (ℕ → A) → ℕ → List A
before at zero = []
before at (suc i) = at i ∷ before at i

-- what stands at k places of a row from place i on, the last first
abbrev pub places_from : {A : Type 0} → (ℕ → A) → ℕ → ℕ → List A
places_from at i zero = []
places_from at i (suc k) = at (i + k) ∷ places_from at i k

-- entry i of a list
abbrev pub entry_of : List Route → ℕ → Route
entry_of rs i = get_or rs i (route 0 0 0)

-- the longest match so far
abbrev pub match_of : Option RouteStruct → Match
match_of None = nothing
match_of (Some r) = best (route_of r)
