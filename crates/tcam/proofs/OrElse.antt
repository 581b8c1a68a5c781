-- A slot that was found, or else another.
use Rattle.std.proofs.Common.{◌≡◌, ℕ, Bool, true, false, cond, ◌||◌, refl}
use mathlib.Core.Option.{Option, none, some}
use Rattle.tcam.specs.Plans.{or_else, is_some}

pub or-else-assoc : (x y z : Option ℕ) → or_else (or_else x y) z ≡ or_else x (or_else y z)
or-else-assoc none y z = refl
or-else-assoc (some x) y z = refl

pub or_else_none : (x : Option ℕ) → or_else x none ≡ x
or_else_none none = refl
or_else_none (some s) = refl

pub or-else-cond : (b : Bool) (i : ℕ) (z : Option ℕ) → or_else (cond b (some i) none) z ≡ cond b (some i) z
or-else-cond true i z = refl
or-else-cond false i z = refl

pub or_else_some : (x : Option ℕ) (b : Bool) (i : ℕ) → is_some (or_else x (cond b (some i) none)) ≡ (is_some x || b)
or_else_some none true i = refl
or_else_some none false i = refl
or_else_some (some x) b i = refl
