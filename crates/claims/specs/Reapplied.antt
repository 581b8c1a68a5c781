-- A plan applied again from its start. Writing slot by slot can be done by applying the first write, then the first two, and so on, on
-- one table: each apply makes the writes before it once more, and leaves what it would have left of the table at first.
use Rattle.std.specs.Prelude.{ℕ, ◌≤◌, ◌≡◌, List}
use Rattle.route.specs.Refusals.{fine}
use Rattle.tcam.specs.Applies.{apply_fault, apply_answer, applied_addresses, applied_tags}

-- the first k writes, on the table that the first j have left: the answer and both rows are those of the first k on the table before
pub record SameApply (W : ℕ) (ad ts plan : List ℕ) (j k : ℕ) : Type 0 where
  pub answers : apply_answer W (applied_addresses W ad ts plan j) (applied_tags W ad ts plan j) plan k ≡ apply_answer W ad ts plan k
  pub addresses : applied_addresses W (applied_addresses W ad ts plan j) (applied_tags W ad ts plan j) plan k ≡ applied_addresses W ad ts plan k
  pub tags : applied_tags W (applied_addresses W ad ts plan j) (applied_tags W ad ts plan j) plan k ≡ applied_tags W ad ts plan k

-- of any rows and any plan whose first k writes are accepted
abbrev pub Reapplied : ℕ → Type 0
Reapplied W = (ad ts plan : List ℕ) (j k : ℕ) → j ≤ k → apply_fault W ad ts plan k ≡ fine → SameApply W ad ts plan j k
