-- Write by write: those before write i stand in both rows.
use Rattle.tcam.proofs.Writes.{MadeWrites}
use Rattle.tcam.proofs.apply.make_writes.Given as goal

abbrev pub invariant-loop-i : goal.invariant-loop-i
invariant-loop-i l = MadeWrites 32 l.plan l.k l.initial.addresses l.initial.tags l.addresses l.tags l.i
