-- The cell at a place is the start, or the hop, of the range there.
use Rattle.std.proofs.Common.{ℕ, sym, ◌∙◌, arith, ◌<◌, length}
use Rattle.ranges.specs.Ranges.{Range}
use Rattle.route.proofs.Fills.{fill_start, fill-turn, fill_end}
use Rattle.ranges.proofs.Fills.{part_at, parts-length}
use Rattle.ranges.proofs.build.write_rows.Goals as goal

-- the parts of a range that the two rows take
abbrev start : Range → ℕ
start r = r.start

abbrev hop : Range → ℕ
hop r = r.hop

pub loop-i-init : goal.loop-i-init
loop-i-init c = (fill_start (omega (arith, parts-length start c.args.ranges.now)), fill_start (omega (arith, parts-length hop c.args.ranges.now)))

pub loop-i-preserved : goal.loop-i-preserved
loop-i-preserved c =
    let rs = c.args.ranges.now in
    let l : c.loop-i.i < length rs = omega arith in (
      fill-turn c.loop-i.invariant.0 (omega (arith, parts-length start rs)) (sym (part_at start rs _ c.loop-i.i l)),
      fill-turn c.loop-i.invariant.1 (omega (arith, parts-length hop rs)) (c.number_of.ensures ∙ sym (part_at hop rs _ c.loop-i.i l)),
    )

pub returns-clause-starts_after : goal.returns-clause-starts_after
returns-clause-starts_after c = fill_end c.loop-i.invariant.0 (omega (arith, parts-length start c.args.ranges.now))

pub returns-clause-range_hops_after : goal.returns-clause-range_hops_after
returns-clause-range_hops_after c = fill_end c.loop-i.invariant.1 (omega (arith, parts-length hop c.args.ranges.now))
