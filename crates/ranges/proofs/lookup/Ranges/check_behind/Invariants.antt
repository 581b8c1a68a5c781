-- Range by range, up to the one that breaks a rule.
use Rattle.ranges.proofs.Scans.{Seeking}
use Rattle.ranges.proofs.lookup.Ranges.check_behind.Given as goal

abbrev pub invariant-loop-i : goal.invariant-loop-i
invariant-loop-i l = Seeking l.self.starts.now l.self.hops.now l.i
