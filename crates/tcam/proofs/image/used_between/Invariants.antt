-- `used` counts the used slots from slot `from` up to slot j.
use Rattle.tcam.proofs.Images.{UsedFrom}
use Rattle.tcam.proofs.image.used_between.Given as goal

abbrev pub invariant-loop-j : goal.invariant-loop-j
invariant-loop-j l = UsedFrom l.addresses l.tags l.from l.to l.j l.used
