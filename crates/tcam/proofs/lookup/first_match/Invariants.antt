-- Slot by slot: those before slot i keep S1 and do not match.
use Rattle.tcam.proofs.Scans.{PassedBefore}
use Rattle.tcam.proofs.lookup.first_match.Given as goal

abbrev pub invariant-loop-i : goal.invariant-loop-i
invariant-loop-i l = PassedBefore 32 l.table.addresses.now l.table.tags.now l.q l.i
