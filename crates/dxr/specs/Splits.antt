-- The splits that the layout of words has room for.
use Rattle.std.specs.Prelude.{ℕ, ◌+◌, ◌≤◌}

-- a split that leaves a key of at most 16 bits
pub record Split (W S : ℕ) : Type 0 where
  pub narrow : S ≤ W
  pub wide : W ≤ S + 16
