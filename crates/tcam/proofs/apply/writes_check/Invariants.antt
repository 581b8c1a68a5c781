-- Write by write: those before write i can be made.
use Rattle.tcam.proofs.Writes.{CheckedWrites}
use Rattle.tcam.proofs.apply.writes_check.Given as goal

abbrev pub invariant-loop-i : goal.invariant-loop-i
invariant-loop-i l = CheckedWrites 32 l.m l.plan l.k l.i
