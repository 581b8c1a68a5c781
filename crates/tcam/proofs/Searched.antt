-- A search among places: what a block tells, and what the whole search does.
use Rattle.std.proofs.Common.{◌≡◌, ℕ, zero, suc, ◌+◌, ◌<◌, ◌≤◌, min, Bool, true, false, ◌||◌, is_some, sym, refl, ap, arith}
use Rattle.std.specs.Prelude.{Option, None, Some}
use Rattle.route.specs.Lists.{any}
use Rattle.route.specs.Loops.{places_from}
use Rattle.route.proofs.Searches.{FoundFrom, from_block, from-hit}
use Rattle.tcam.specs.Searches.{any_between, BlockOf}

-- a block from place j up to place k; nothing before it has the property
module _ (p : ℕ → Bool) (j k : ℕ) {from to : ℕ} (l : j < to) (f : FoundFrom p (λ (i : ℕ). i) from to (min j to) false) (n : (j ≤ k) × (k ≤ to)) {found : Bool}
    (e : found ≡ any_between p j k) where
  block : FoundFrom p (λ (i : ℕ). i) from to k (found || false)
  block = let z : min j to ≡ j = omega arith in from_block (rw z at f) k n.0 n.1 e

  pub block-none : found ≡ false → FoundFrom p (λ (i : ℕ). i) from to k false
  block-none t = rw t at block

  pub block-here : found ≡ true → BlockOf p from to (Some j)
  block-here t =
      let z : min j to ≡ j = omega arith in
      let inv = rw z at f in (inv.behind, sym inv.is, from-hit block (rw t))

-- the block that was found says whether a place has the property
pub block-found : (p : ℕ → Bool) (from to : ℕ) (r : Option ℕ) → BlockOf p from to r → is_some r ≡ any_between p from to
block-found p from to None e = sym e
block-found p from to (Some j) e = sym e.2

-- a property of what stands at some places is one of the places
pub any-places : {A : Type 0} (q : A → Bool) (at : ℕ → A) (m k : ℕ) → any (λ (j : ℕ). q (at j)) (places_from (λ (j : ℕ). j) m k) ≡ any q (places_from at m k)
any-places q at m zero = refl
any-places q at m (suc k) = ap (λ (b : Bool). q (at (m + k)) || b) (any-places q at m k)
