-- What a part leaves is a stage nearer the end, whose rows are as long as they were.
use borrow.Author.Rules.{rules}
use mathlib.Core.Path.{sym, ◌∙◌}
use native.Mathlib.Omega.{arith}
use Rattle.history.proofs.Whole.{next-part}
use Rattle.report.proofs.print_report.Goals as goal

pub loop-stage-smaller : goal.loop-stage-smaller
loop-stage-smaller g c =
    let l = c.loop-stage in
    let printed = next-part l.invariant.0.0 (rw c.in-Ok.is at c.fill.ensures) in
    rw (← l.invariant.0.1)
    (printed.falls (sym c.is_done.ensures ∙ c.loop-stage-test.true) (omega (arith, l.invariant.1, c.requires.room)))

pub loop-stage-preserved : goal.loop-stage-preserved
loop-stage-preserved g c =
    let l = c.loop-stage in
    let printed = next-part l.invariant.0.0 (rw c.in-Ok.is at c.fill.ensures) in
    ((printed.ready, printed.slots ∙ l.invariant.0.1), search rules)
