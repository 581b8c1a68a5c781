-- What a search among places finds: one by one, or by blocks.
use Rattle.std.specs.Prelude.{◌≡◌, ℕ, ◌-◌, ◌≤◌, Bool, true, false, Option, None, Some}
use Rattle.route.specs.Lists.{any}
use Rattle.route.specs.Loops.{places_from}

-- whether a place from place `from` up to place `to` has a property
abbrev pub any_between : (ℕ → Bool) → ℕ → ℕ → Bool
any_between p from to = any p (places_from (λ j. j) from (to - from))

-- one has it, and none before place j; or none has it
abbrev pub BlockOf : (ℕ → Bool) → ℕ → ℕ → Option ℕ → Type 0
BlockOf p from to None = any_between p from to ≡ false
BlockOf p from to (Some j) = (from ≤ j) × (any_between p from j ≡ false) × (any_between p from to ≡ true)
