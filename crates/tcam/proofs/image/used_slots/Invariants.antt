-- Part by part: `used` counts the used slots before slot i.
use Rattle.std.proofs.Common.{min}
use Rattle.tcam.proofs.Images.{UsedBefore}
use Rattle.tcam.proofs.image.used_slots.Given as goal

abbrev pub invariant-loop-i : goal.invariant-loop-i
invariant-loop-i l = UsedBefore l.addresses l.tags l.used (min l.i l.end)
