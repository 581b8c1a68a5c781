-- Range by range: the range before range i starts at or before x.
use Prim.Native.Nat.{◌-◌, ◌≤◌, ◌<◌}
use lib.ListN.{length, get_or}
use Rattle.dxr.proofs.build.last_at.Given as goal

abbrev pub invariant-loop-i : goal.invariant-loop-i
invariant-loop-i l = (l.from < l.i) × (l.i ≤ length l.starts) × (get_or l.starts (l.i - 1) 0 ≤ l.x)
