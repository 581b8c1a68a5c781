-- Entry by entry.
use Rattle.std.proofs.Common.{◌≡◌, take}
use Rattle.route.specs.Entries.{routes_of}
use Rattle.ranges.specs.Keys.{keys_of}
use Rattle.ranges.proofs.build.pack.Given as goal

abbrev pub invariant-loop-i : goal.invariant-loop-i
invariant-loop-i l = take l.i l.keys ≡ take l.i (keys_of (routes_of l.list))
