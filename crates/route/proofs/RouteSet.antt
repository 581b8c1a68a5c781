-- A set of routes: each valid, and one hop for each prefix. Valid routes of distinct prefixes are one.
use Prim.Native.Nat.{ℕ}
use mathlib.Core.Path.{◌≡◌, sym, ◌∙◌}
use mathlib.Core.List.Memᴰ
use mathlib.Core.List.{List}
use Rattle.route.specs.Rule.{Route}
use Rattle.route.specs.RightHop.{◌∈◌}
use Rattle.route.specs.RowsOfSet.{Valid, Distinct}

pub record RouteSet (W : ℕ) (rs : List Route) : Type 0 where
  pub valid : (r : Route) → r ∈ rs → Valid W r
  pub once : (r s : Route) → r ∈ rs → s ∈ rs → r.address ≡ s.address → r.length ≡ s.length → r ≡ s

once : (r s : Route) (rs : List Route) → Distinct rs → r ∈ rs → s ∈ rs → r.address ≡ s.address → r.length ≡ s.length → r ≡ s
once r s rs d (Memᴰ.head p) (Memᴰ.head q) a n = p ∙ sym q
once r s rs d (Memᴰ.head {x} p) (Memᴰ.tail k) a n = absurd (d.0 s k (cc) (cc))
once r s rs d (Memᴰ.tail m) (Memᴰ.head {x} q) a n = absurd (d.0 r m (cc) (cc))
once r s rs d (Memᴰ.tail {x} {xs} m) (Memᴰ.tail k) a n = once r s xs d.1 m k a n

pub route_set : (W : ℕ) (rs : List Route) → ((r : Route) → r ∈ rs → Valid W r) → Distinct rs → RouteSet W rs
route_set W rs v d = record { valid = v; once = λ r s. once r s rs d }
