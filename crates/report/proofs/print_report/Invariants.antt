-- Part by part: the stage is one of the bytes. The measure is how many steps are left, since a part has room for a line.
use mathlib.Core.Path.{◌≡◌}
use lib.ListN.{length}
use Rattle.history.specs.Reports.{rows}
use Rattle.history.specs.Stages.{steps_left}
use Rattle.history.specs.Steps.{Ready}
use Rattle.report.proofs.print_report.Given as goal

abbrev pub invariant-loop-stage : goal.invariant-loop-stage
invariant-loop-stage g l =
    (Ready l.bytes l.stage (rows l.addresses l.tags) × (length l.addresses ≡ length l.initial.addresses)) × (length l.text ≡ length l.initial.text)

abbrev pub decreases-loop-stage : goal.decreases-loop-stage
decreases-loop-stage g l = steps_left (length l.bytes) (length l.initial.addresses) l.stage
