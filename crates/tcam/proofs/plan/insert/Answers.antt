-- The edges on the prefix's side give the pool's slot, and the chain from there is the definition's.
use Rattle.std.proofs.Common.{length, sym, ◌∙◌}
use Rattle.tcam.specs.Shown.{cell_of}
use Rattle.tcam.specs.Held.{cells_of}
use Rattle.tcam.proofs.Planned.{planned-refused, planned-same, le-test, set_full, set-chain}
use Rattle.tcam.proofs.plan.insert.Goals as goal

pub returns-in-None : goal.returns-in-None
returns-in-None c =
    let a = c.args in
    let e = c.to-chain.ensures in
    planned-refused (set_full 32 (cells_of a.table.now) a.n.0 (cell_of a.c) (length a.plan.now) c.to-chain.result.lengths.up
    (sym (rw (e.table.0, e.table.1) at c.in-None.ensures.edge)))

pub returns-in-Some : goal.returns-in-Some
returns-in-Some c =
    let a = c.args in
    let e = c.to-chain.ensures in
    planned-same
    (set-chain 32 (cells_of a.table.now) a.n.0 (cell_of a.c) (length a.plan.now) c.to-chain.result.lengths
    (e.up ∙ c.le.ensures ∙ le-test 16 a.n.0) e.lengths (sym (rw (e.table.0, e.table.1) at c.in-Some.ensures.edge)))
    (rw (e.table.0, e.table.1) at c.plan.ensures)
