-- Why S5 is cheap: an entry is compared only with the entries of its own length just before it.
--
-- S2 lets no entry be longer than the one before it, so entries of one length have none of another between them. S3 and S4 keep free slots
-- out as well: an entry before a free slot is above the pool, and one behind it is below. So the entries of one length are one unbroken
-- run, and where S1 to S4 hold up to a slot, an earlier copy of its prefix can stand only in the run that ends just before it.
use Rattle.std.specs.Prelude.{◌≡◌, ℕ, Bool, false, cond, ◌||◌, List, [], ◌∷◌}
use Rattle.std.specs.Coded.{×_prop, Unit-prop}
use Rattle.std.proofs.Props.{props}
use Rattle.route.specs.Refusals.{Verdict}
use Rattle.tcam.specs.Slots.{Cell, length_in, misplaced, repeats, first_fault}
use Rattle.tcam.specs.Plans.{of_length}

-- the unbroken run of entries of length n just before a slot: back to the first slot that is free or of another length; `before` are the
-- slots before it, nearest first
abbrev pub run_of : ℕ → List Cell → List Cell
run_of n [] = []
run_of n (b ∷ bs) = cond (of_length n b) (b ∷ run_of n bs) []

-- S5 against the run of the slot's own length
abbrev pub repeats_in_run : Cell → List Cell → Bool
repeats_in_run c before = repeats c (run_of (length_in c) before)

-- whether a slot breaks one of S1 to S5, S5 tested against its run alone
abbrev pub breaks_by_run : ℕ → Cell → List Cell → Bool
breaks_by_run W c before = misplaced W c before || repeats_in_run c before

-- the first slot that breaks S1 to S5 by this test
abbrev pub fault_by_runs : ℕ → ℕ → List Cell → List Cell → Verdict
fault_by_runs W i before cs = first_fault (breaks_by_run W) i before cs

-- none of these slots, nearest first, breaks one of S1 to S4
abbrev pub InOrder : ℕ → List Cell → Type 0
InOrder W [] = Unit {0}
InOrder W (c ∷ before) = (misplaced W c before ≡ false) × InOrder W before

-- this has one proof at most
pub InOrder-prop : (W : ℕ) (before : List Cell) → IsProp (InOrder W before)
InOrder-prop W [] = Unit-prop
InOrder-prop W (c ∷ before) = ×_prop (Prim.hlevel props) (InOrder-prop W before)
