-- No line exceeds the most, so where there is room for that, the step's line fits.
use borrow.Author.Tests.{le-leb}
use Rattle.history.specs.Reports.{rows}
use Rattle.history.proofs.Stages.{step_fits}
use Rattle.history.proofs.Filling.{roomy}
use mathlib.Core.Path.{sym}
use Rattle.history.proofs.step.Report.goes_on.Goals as goal

pub returns-then-room-ge-MAX_LINE : goal.returns-then-room-ge-MAX_LINE
returns-then-room-ge-MAX_LINE c =
    let s = c.args.self.now in
    rw (le-leb 256 c.args.room c.if-room-ge-MAX_LINE.true)
    (roomy (sym c.if-not-is_done.ensures) c.if-room-ge-MAX_LINE.true (step_fits s.bytes.now s.stage (rows s.addresses.now s.tags.now)))
