-- Step by step: the part up to byte `at` is printed. The measure is how many steps are left.
use mathlib.Core.Path.{◌≡◌}
use lib.ListN.{length}
use Rattle.history.specs.Reports.{rows}
use Rattle.history.specs.Stages.{steps_left}
use Rattle.history.proofs.Filling.{Filling}
use Rattle.history.proofs.step.Report.fill.Given as goal

abbrev pub invariant-loop-self : goal.invariant-loop-self
invariant-loop-self l =
    let s = l.initial.self in
    Filling s.bytes.now s.stage (rows s.addresses.now s.tags.now) l.initial.out l.self.stage (rows l.self.addresses.now l.self.tags.now) l.out l.at
    × (length l.self.addresses.now ≡ length s.addresses.now)
    × (l.self.bytes.now ≡ s.bytes.now)
    × (l.self.addresses.ghost_name ≡ s.addresses.ghost_name)
    × (l.self.tags.ghost_name ≡ s.tags.ghost_name)

abbrev pub decreases-loop-self : goal.decreases-loop-self
decreases-loop-self l = steps_left (length l.self.bytes.now) (length l.initial.self.addresses.now) l.self.stage
