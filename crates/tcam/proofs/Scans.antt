-- The pass for S1 and the lookup's pass: what holds of the slots before slot i, so that what is left gives the whole verdict or answer.
use Rattle.std.proofs.Common.{◌≡◌, ℕ, ◌≤◌, List, length, drop}
use Rattle.route.specs.Refusals.{Answer, value, unless_fault}
use Rattle.tcam.specs.Slots.{cells, slot_fault, first_match}

-- the slots from `from` up to slot i keep S1: what is left gives the verdict
pub record KeptBefore (W : ℕ) (ad ts : List ℕ) (from i : ℕ) : Type 0 where
  pub within : i ≤ length ad
  pub equal : length ad ≡ length ts
  pub left : slot_fault W i (cells (drop i ad) (drop i ts)) ≡ slot_fault W from (cells (drop from ad) (drop from ts))

-- refusal 7, or else the first match of the slots from slot i on
abbrev pub answer_from : ℕ → List ℕ → List ℕ → ℕ → ℕ → Answer
answer_from W ad ts q i =
    unless_fault (slot_fault W i (cells (drop i ad) (drop i ts))) (value (first_match W (cells (drop i ad) (drop i ts)) q))

-- the slots before slot i keep S1, and no lookup of q stops there
pub record PassedBefore (W : ℕ) (ad ts : List ℕ) (q i : ℕ) : Type 0 where
  pub within : i ≤ length ad
  pub equal : length ad ≡ length ts
  pub left : answer_from W ad ts q i ≡ answer_from W ad ts q 0
