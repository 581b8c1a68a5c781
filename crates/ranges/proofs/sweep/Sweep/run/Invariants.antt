-- Key by key: key i is read next.
use Rattle.std.proofs.Common.{◌≡◌, length}
use Rattle.ranges.proofs.SweepLoops.{SweptTo}
use Rattle.ranges.proofs.sweep.Sweep.run.Given as goal

abbrev pub invariant-loop-i : goal.invariant-loop-i
invariant-loop-i l = SweptTo l.initial.self.keys.now l.self × (l.self.read ≡ l.i) × (length l.self.keys.now ≡ length l.initial.self.keys.now)
