-- An accepted plan is applied whole.
use Rattle.records.specs.Shown.{update_of}
use Rattle.history.proofs.Updates.{updated-applied}
use Rattle.history.proofs.update.update_table.Goals as goal

pub returns : goal.returns
returns c = updated-applied (update_of c.args.asked) _ _ c.in_ok-writes.ensures.answers (rw c.in_ok-writes.ensures.after at c.apply.ensures)
