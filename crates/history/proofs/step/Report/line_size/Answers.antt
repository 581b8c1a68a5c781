-- No line exceeds the most.
use Rattle.history.proofs.Stages.{step_fits}
use Rattle.history.proofs.step.Report.line_size.Goals as goal

pub step-requires : goal.step-requires
step-requires c = step_fits c.args.self.now.bytes.now c.args.self.now.stage _
