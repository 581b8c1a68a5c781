-- RFC 4632's rule as a statement: what it means that a hop is the right answer for an address.
use Rattle.std.specs.Prelude.{ℕ, ◌≤◌, ◌<◌, ◌≡◌, true}
use mathlib.Core.List.{List, Memᴰ}
use Rattle.route.specs.Rule.{Route, matches}

infix 40 ◌∈◌
-- x is a member of a row
abbrev pub ◌∈◌ : {A : Type 0} → A → List A → Type 0
x ∈ xs = Memᴰ x xs

-- the route's prefix matches q
abbrev pub Matches : ℕ → Route → ℕ → Type 0
Matches W r q = matches W r.address r.length q ≡ true

-- r is the longest of the routes that match q
pub record Longest (W : ℕ) (rs : List Route) (q : ℕ) (r : Route) : Type 0 where
  pub member : r ∈ rs
  pub matching : Matches W r q
  pub longest : (s : Route) → s ∈ rs → Matches W s q → s.length ≤ r.length

-- what RFC 4632 asks of the answer h
pub data Right (W : ℕ) (rs : List Route) (q : ℕ) : ℕ → Type 0 where
  hop_of_longest : (r : Route) → Longest W rs q r → 0 < r.hop → Right W rs q r.hop
  no_match : ((r : Route) → r ∈ rs → Matches W r q → ⊥) → Right W rs q 0
