-- Why S5 is cheap: an entry is compared with the run of its own length alone.
--
-- S2 to S4 put the entries of one length next to each other. So where they hold up to an entry, an earlier copy of its prefix stands in the
-- unbroken run of its length just before it, or nowhere; and since lengths are equal in that run, a copy stands exactly where its address
-- does. An image test that looks there alone finds the same first broken slot on every image, whatever it breaks.
use Rattle.std.specs.Prelude.{ℕ, ◌≡◌, List, [], ◌∷◌, eqb}
use Rattle.route.specs.Lists.{any}
use Rattle.tcam.specs.Slots.{Cell, length_in, same_prefix_in, repeats, image_fault}
use Rattle.tcam.specs.Runs.{run_of, repeats_in_run, fault_by_runs, InOrder}

pub record RunHolds (W : ℕ) : Type 0 where
  -- where no slot up to and including an entry's breaks S1 to S4, it repeats an earlier prefix exactly when it repeats one in the
  -- unbroken run of its own length just before it; `before` are the slots before it, nearest first
  pub repeated : (c : Cell) (before : List Cell) → InOrder W (c ∷ before) → repeats c before ≡ repeats_in_run c before
  -- in that run its prefix stands exactly where its address does
  pub by_address : (c : Cell) (before : List Cell) →
      any (same_prefix_in c) (run_of (length_in c) before) ≡ any (λ b. eqb b.address c.address) (run_of (length_in c) before)
  -- the test by runs gives the same verdict, with the same place
  pub same_fault : (cs : List Cell) → fault_by_runs W 0 [] cs ≡ image_fault W 0 [] cs
