-- A record leads behind itself with the table of its update.
use Rattle.history.proofs.Stages.{reading-ready}
use Rattle.history.proofs.step.Report.record_step.Goals as goal

pub invariant_of-self : goal.invariant_of-self
invariant_of-self c =
    let s = c.args.self.now in
    let behind = reading-ready (rw c.requires.reading at s.ready) (rw c.in-Ok-Some.field-0-is at c.in-Ok-Some.ensures) c.report_update.ensures.table in
    record { ready = record { equal = behind.equal; placed = s.ready.placed } }
