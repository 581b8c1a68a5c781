-- The keys of the list, sorted and swept over, make its merged ranges; the rows are tested for room and written.
use Rattle.std.proofs.Common.{◌≡◌, map}
use Rattle.std.proofs.lemmas.List.Sorted.{IsPermutation-trans}
use Rattle.route.specs.Entries.{routes_of}
use Rattle.ranges.specs.Ranges.{ranges_of}
use Rattle.ranges.specs.Shown.{range_of}
use Rattle.ranges.proofs.Packing.{list-made}
use Rattle.ranges.proofs.Rooms.{built-short, built-whole}
use Rattle.ranges.proofs.build.build_in.Goals as goal
use Rattle.ranges.proofs.build.build_in.Goals.{After-run-made}

made : (c : After-run-made) → map range_of c.run-made.result.now ≡ ranges_of 32 (routes_of c.args.list.now)
made c = list-made c.requires.accepted c.pack.ensures (IsPermutation-trans _ _ _ c.shuffle.ensures c.sort_unstable.ensures.permutation) c.sort_unstable.ensures.sorted c.new.ensures.keys c.run-made.ensures

pub returns-then-starts-made : goal.returns-then-starts-made
returns-then-starts-made c =
    built-short c.args.list.now _ c.requires.accepted (made (goal.at.returns-then-starts-made c).After-run-made) c.if-starts-made.true

pub returns : goal.returns
returns c =
    built-whole c.args.list.now _ c.requires.accepted (made (goal.at.returns c).After-run-made) c.if-starts-made.false
    c.write_rows.ensures.starts_after c.write_rows.ensures.range_hops_after
