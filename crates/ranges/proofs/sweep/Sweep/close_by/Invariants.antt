-- Prefix by prefix, the one opened last first. The measure is how many are open.
use Rattle.ranges.proofs.SweepLoops.{ClosingAt}
use Rattle.ranges.proofs.sweep.Sweep.close_by.Given as goal

abbrev pub invariant-loop-r : goal.invariant-loop-r
invariant-loop-r l = ClosingAt l.x l.initial.self l.self

abbrev pub decreases-loop-r : goal.decreases-loop-r
decreases-loop-r l = l.self.at.opened
