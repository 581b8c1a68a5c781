-- Applying the first k writes of a plan: all of them, or none.
--
-- A plan is a row of numbers, three to a write; numbers past the last whole write are no write. Every one of the k writes is tested
-- before the first is made, so a refused apply leaves both rows as they were. The image itself is not tested.
use Rattle.std.specs.Prelude.{◌≡◌, ℕ, ◌+◌, ◌/◌, Bool, not, ◌||◌, List, [], ◌∷◌, length, take, nat_le, nat_lt, slice_set}
use Rattle.route.specs.Refusals.{Verdict, fine, fault, fault_if, ◌then◌, Answer, value, unless_fault, plan_refusal}
use Rattle.tcam.specs.Slots.{Cell, cell, keeps_s1, size_fault}
use Rattle.tcam.specs.Plans.{Write, write}

-- the whole writes of a plan's row
abbrev pub writes_in : List ℕ → List Write
writes_in [] = []
writes_in (s ∷ []) = []
writes_in (s ∷ a ∷ []) = []
writes_in (s ∷ a ∷ t ∷ row) = write s (cell a t) ∷ writes_in row

-- the table after some writes
abbrev pub written : List Cell → List Write → List Cell
written cs [] = cs
written cs (w ∷ ws) = written (slice_set cs w.slot w.cell) ws

-- a write that cannot be made
abbrev pub is_wrong : ℕ → ℕ → Write → Bool
is_wrong W M w = nat_le M w.slot || not (keeps_s1 W w.cell)

-- refusal 10 of the first k writes
abbrev pub write_fault : ℕ → ℕ → ℕ → List Write → Verdict
write_fault W M i [] = fine
write_fault W M i (w ∷ ws) = fault_if (is_wrong W M w) plan_refusal i then write_fault W M (i + 1) ws

abbrev pub apply_fault : ℕ → List ℕ → List ℕ → List ℕ → ℕ → Verdict
apply_fault W ad ts row k =
    size_fault ad ts
    then fault_if (nat_lt (length row / 3) k) plan_refusal (length row / 3)
    then write_fault W (length ad) 0 (take k (writes_in row))

abbrev pub apply_answer : ℕ → List ℕ → List ℕ → List ℕ → ℕ → Answer
apply_answer W ad ts row k = unless_fault (apply_fault W ad ts row k) (value k)

-- a row after some writes, of which it takes one part each
abbrev pub stored : (Cell → ℕ) → List ℕ → List Write → List ℕ
stored part row [] = row
stored part row (w ∷ ws) = stored part (slice_set row w.slot (part w.cell)) ws

abbrev pub stored_if : Verdict → (Cell → ℕ) → List ℕ → List Write → List ℕ
stored_if fine part row ws = stored part row ws
stored_if (fault n p) part row ws = row

-- each row after an apply
abbrev pub applied_addresses : ℕ → List ℕ → List ℕ → List ℕ → ℕ → List ℕ
applied_addresses W ad ts plan k = stored_if (apply_fault W ad ts plan k) (λ c. c.address) ad (take k (writes_in plan))

abbrev pub applied_tags : ℕ → List ℕ → List ℕ → List ℕ → ℕ → List ℕ
applied_tags W ad ts plan k = stored_if (apply_fault W ad ts plan k) (λ c. c.tag) ts (take k (writes_in plan))

-- what an apply answers, and both rows after it
pub record IsApplied (W : ℕ) (ad ts plan : List ℕ) (k : ℕ) (answer : Answer) (ad' ts' : List ℕ) : Type 0 where
  pub answers : answer ≡ apply_answer W ad ts plan k
  pub addresses : ad' ≡ applied_addresses W ad ts plan k
  pub tags : ts' ≡ applied_tags W ad ts plan k
