-- Slot by slot, and over free slots at once: those before slot i break no rule, what was seen of them is kept, and the filter has their
-- prefixes. The measure is what is left of the table.
use Rattle.std.proofs.Common.{◌-◌, length}
use Rattle.tcam.specs.Slots.{breaks}
use Rattle.tcam.specs.Loops.{TestedBefore}
use Rattle.tcam.specs.Held.{slot_at}
use Rattle.tcam.proofs.Images.{FaultBefore, CellsNoted}
use Rattle.tcam.proofs.image.check_with.Given as goal

abbrev pub invariant-loop-i : goal.invariant-loop-i
invariant-loop-i g l =
    FaultBefore (breaks 32) l.table.addresses.now l.table.tags.now l.i
    × TestedBefore 32 (slot_at l.table) l.seen l.i
    × CellsNoted l.table.addresses.now l.table.tags.now l.filter.words l.i

abbrev pub decreases-loop-i : goal.decreases-loop-i
decreases-loop-i g l = length l.table.addresses.now - l.i
