-- Step by step: the part up to byte `at` is printed, and the loop goes on where a step is left whose line fits.
use borrow.Author.Tests.{not-false}
use mathlib.Core.Path.{◌≡◌, sym, ap, ◌∙◌}
use mathlib.Core.Bool.{false}
use Prim.Native.Nat.{◌-◌}
use lib.ListN.{length}
use Rattle.history.specs.Reports.{rows}
use Rattle.history.specs.Stages.{is_done}
use Rattle.history.proofs.Stages.{step-size, step_falls}
use Rattle.history.proofs.Filling.{filling-turn, filling-end, filling-refused, goes_on_lem}
use Rattle.history.proofs.step.Report.fill.Goals as goal

pub loop-self-smaller : goal.loop-self-smaller
loop-self-smaller c =
    let l = c.loop-self in
    let s = l.self in
    let goes : is_done s.stage ≡ false = (goes_on_lem (is_done s.stage) (length l.out - l.at) _ (sym c.goes_on.ensures ∙ c.loop-self-test.true)).0 in
    rw (c.step-at.ensures.bytes_unchanged, c.step-at.ensures.step.stage, ← l.invariant.1)
    (step_falls _ s.stage (rows s.addresses.now s.tags.now) s.ready goes)

pub loop-self-preserved : goal.loop-self-preserved
loop-self-preserved c =
    let l = c.loop-self in
    let s = l.self in
    let goes = goes_on_lem (is_done s.stage) (length l.out - l.at) _ (sym c.goes_on.ensures ∙ c.loop-self-test.true) in (
      filling-turn l.invariant.0 goes.0 (rw l.invariant.2 at goes.1) (rw l.invariant.2 at c.step-at.ensures.step),
      ap (λ r. length r.addresses) c.step-at.ensures.step.table ∙ (step-size _ s.stage (rows s.addresses.now s.tags.now)).addresses ∙ l.invariant.1,
      c.step-at.ensures.bytes_unchanged ∙ l.invariant.2,
      c.step-at.ensures.same_rows.0 ∙ l.invariant.3,
      c.step-at.ensures.same_rows.1 ∙ l.invariant.4,
    )

pub returns-then-at-is_done-clause-fill : goal.returns-then-at-is_done-clause-fill
returns-then-at-is_done-clause-fill c =
    let l = c.loop-self in
    filling-refused l.invariant.0 (rw l.invariant.2 at (not-false _ (sym c.goes_on.ensures ∙ c.loop-self-test.false))) c.args.self.now.ready
    (rw (← c.is_done.ensures) c.if-at-is_done.true)

pub returns-clause-fill : goal.returns-clause-fill
returns-clause-fill c =
    let l = c.loop-self in
    filling-end l.invariant.0 (rw l.invariant.2 at (not-false _ (sym c.goes_on.ensures ∙ c.loop-self-test.false))) (rw (← c.is_done.ensures) c.if-at-is_done.false)
