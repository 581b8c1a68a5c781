-- Slot by slot: none before slot i holds the prefix.
use Rattle.tcam.specs.Plans.{of_prefix}
use Rattle.tcam.proofs.Edges.{NoneFound}
use Rattle.tcam.proofs.plan.find.Given as goal

abbrev pub invariant-loop-i : goal.invariant-loop-i
invariant-loop-i l = NoneFound (of_prefix l.p.address l.p.length.0) l.table.addresses.now l.table.tags.now l.i
