-- From one chunk in which a range starts to the next. The measure is how many ranges are left.
use Prim.Native.Nat.{ℕ, ◌-◌}
use lib.ListN.{length}
use Rattle.dxr.proofs.Passes.{CountedTo}
use Rattle.dxr.proofs.build.Table.count_words.Given as goal

abbrev pub invariant-loop-next : goal.invariant-loop-next
invariant-loop-next l = (c : ℕ) × CountedTo 32 16 l.self.rows.starts.now l.self.rows.hops.now l.from l.count c

abbrev pub decreases-loop-next : goal.decreases-loop-next
decreases-loop-next l = length l.self.rows.starts.now - l.from
