-- Prefixes are closed, the sweep goes on to the address, and the key is stored behind those that are open.
use Rattle.std.proofs.Common.{ap, ◌∙◌, arith}
use Rattle.ranges.specs.Sweeping.{sweep_of}
use Rattle.ranges.specs.Sweeps.{advanced}
use Rattle.ranges.proofs.SweepLoops.{opening-key}
use Rattle.ranges.proofs.sweep.Sweep.open_next.Goals as goal

pub returns-clause-sweep : goal.returns-clause-sweep
returns-clause-sweep c =
    let x = ap (λ r. r.address) c.from-next.ensures in
    let is = c.advance.ensures.sweep ∙ ap (advanced _) c.close_by.ensures.sweep in
    opening-key c.advance.new.self (sweep_of c.args.self.now) _ (omega arith) (rw x at is)
