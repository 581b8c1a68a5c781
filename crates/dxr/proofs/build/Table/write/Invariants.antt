-- From one chunk in which a range starts to the next. The measure is how many ranges are left.
use Prim.Native.Nat.{◌-◌}
use lib.ListN.{length}
use Rattle.dxr.proofs.Passes.{WrittenTo}
use Rattle.dxr.proofs.build.Table.write.Given as goal

abbrev pub invariant-loop-next : goal.invariant-loop-next
invariant-loop-next l = WrittenTo 32 16 l.self.rows.starts.now l.self.rows.hops.now l.initial.main l.initial.words l.main l.words l.from l.used l.done

abbrev pub decreases-loop-next : goal.decreases-loop-next
decreases-loop-next l = length l.self.rows.starts.now - l.from
