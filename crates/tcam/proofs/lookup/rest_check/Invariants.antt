-- Slot by slot: those up to slot i keep S1.
use Rattle.tcam.proofs.Scans.{KeptBefore}
use Rattle.tcam.proofs.lookup.rest_check.Given as goal

abbrev pub invariant-loop-i : goal.invariant-loop-i
invariant-loop-i l = KeptBefore 32 l.table.addresses.now l.table.tags.now l.initial.i l.i
