-- All ranges are passed; then the test and the count say the answer.
use Rattle.ranges.proofs.Scans.{Tested}
use Rattle.ranges.proofs.lookup.Ranges.look_behind.Given as goal

abbrev pub invariant-loop-i : goal.invariant-loop-i
invariant-loop-i l = Tested l.self.starts.now l.self.hops.now l.q l.bad l.below l.i
