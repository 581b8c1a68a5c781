-- Range by range, both rows.
use Rattle.std.proofs.Common.{map}
use Rattle.ranges.specs.Ranges.{starts_of, hops_of}
use Rattle.ranges.specs.Shown.{range_of}
use Rattle.route.proofs.Fills.{FilledTo}
use Rattle.ranges.proofs.build.write_rows.Given as goal

abbrev pub invariant-loop-i : goal.invariant-loop-i
invariant-loop-i l =
    FilledTo (starts_of (map range_of l.ranges)) l.initial.starts l.starts l.i
    × FilledTo (hops_of (map range_of l.ranges)) l.initial.range_hops l.range_hops l.i
