-- A search among what stands before a place, one by one or block by block, left where something has the property.
use Prim.Native.Nat.{ℕ, zero, suc, ◌+◌, ◌-◌, ◌≤◌, ◌<◌}
use mathlib.Core.Path.{◌≡◌, sym, ◌∙◌}
use mathlib.Core.Bool.{Bool, true, false, ◌||◌, or-true, or_assoc}
use native.Mathlib.Omega.{arith}
use Rattle.route.specs.Lists.{any}
use Rattle.route.specs.Loops.{before, places_from}

-- the search for what stands before place i has come to place j, and nothing before that has the property
pub record NoneBefore {A : Type 0} (p : A → Bool) (at : ℕ → A) (i j : ℕ) : Type 0 where
  pub within : j ≤ i
  pub none : any p (before at j) ≡ false

-- what stands before place m + k stands before place m or at the k places from it on
any-before : {A : Type 0} (p : A → Bool) (at : ℕ → A) (m k : ℕ) → any p (before at (m + k)) ≡ (any p (places_from at m k) || any p (before at m))
any-before p at m zero = let z : m + 0 ≡ m = omega arith in rw z
any-before p at m (suc k) =
    let z : m + suc k ≡ suc (m + k) = omega arith in
    rw (z, any-before p at m k) (sym (or_assoc (p (at (m + k))) _ _))

-- a search one place at a time; x is what stands at place j
module _ {A : Type 0} {p : A → Bool} {at : ℕ → A} {i j : ℕ} (u : NoneBefore p at i j) (l : j < i) {x : A} (is : x ≡ at j) where
  pub none-hit : p x ≡ true → any p (before at i) ≡ true
  none-hit e =
      let z : suc j + (i - suc j) ≡ i = omega arith in
      (rw (z, ← is, e) at (any-before p at (suc j) (i - suc j))) ∙ or-true (any p (places_from at (suc j) (i - suc j)))

-- a block: `found` says whether what stands from place m up to place j has the property
pub record FoundFrom {A : Type 0} (p : A → Bool) (at : ℕ → A) (m i j : ℕ) (found : Bool) : Type 0 where
  pub behind : m ≤ j
  pub within : j ≤ i
  pub is : found ≡ any p (places_from at m (j - m))

-- two blocks, one behind the other
any-joined : {A : Type 0} (p : A → Bool) (at : ℕ → A) (m k n : ℕ) →
    any p (places_from at m (k + n)) ≡ (any p (places_from at (m + k) n) || any p (places_from at m k))
any-joined p at m k zero = let z : k + 0 ≡ k = omega arith in rw z
any-joined p at m k (suc n) =
    let z : k + suc n ≡ suc (k + n) = omega arith in
    let place : m + (k + n) ≡ m + k + n = omega arith in
    rw (z, place, any-joined p at m k n) (sym (or_assoc (p (at (m + k + n))) _ _))

module _ {A : Type 0} {p : A → Bool} {at : ℕ → A} {m i j : ℕ} {found : Bool} (f : FoundFrom p at m i j found) where
  pub from-turn : {here : Bool} {x : A} → j < i → x ≡ at j → here ≡ p x → FoundFrom p at m i (j + 1) (here || found)
  from-turn l q e =
      let more : j + 1 - m ≡ suc (j - m) = omega (arith, f.behind) in
      let place : m + (j - m) ≡ j = omega (arith, f.behind) in
      record { behind = omega (arith, f.behind); within = omega arith; is = rw (more, place, e, q, f.is) }

  pub from_block : {here : Bool} (k : ℕ) → j ≤ k → k ≤ i → here ≡ any p (places_from at j (k - j)) → FoundFrom p at m i k (here || found)
  from_block k l n e =
      let more : k - m ≡ j - m + (k - j) = omega (arith, f.behind) in
      let place : m + (j - m) ≡ j = omega (arith, f.behind) in
      record { behind = omega (arith, f.behind); within = n; is = rw (more, any-joined p at m (j - m) (k - j), place, e, f.is) }

  -- what was found stands there, whatever is behind it
  pub from-hit : found ≡ true → any p (places_from at m (i - m)) ≡ true
  from-hit e =
      let more : i - m ≡ j - m + (i - j) = omega (arith, f.behind, f.within) in
      rw (more, any-joined p at m (j - m) (i - j), ← f.is, e) (or-true (any p (places_from at (m + (j - m)) (i - j))))
