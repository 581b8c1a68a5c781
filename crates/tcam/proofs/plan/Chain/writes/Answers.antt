-- A length with an edge slot is one write, and there are no more of them than lengths.
use Rattle.std.proofs.Common.{arith}
use Rattle.tcam.specs.Shown.{cell_of}
use Rattle.tcam.specs.Loops.{edge_of}
use Rattle.tcam.specs.InTurn.{lengths_of}
use Rattle.tcam.specs.Held.{cells_of}
use Rattle.tcam.proofs.Chains.{first-length, counted-start, counted-turn, counted-few, counted-end, length-lengths}
use Rattle.tcam.proofs.plan.Chain.writes.Goals as goal

pub loop-n-init : goal.loop-n-init
loop-n-init c =
    let s = c.args.self.now in
    rw c.into_iter-n-iterator.ensures.into_iter_gives
    (counted-start (edge_of s.lengths.up (cells_of s.table)) (lengths_of s.lengths))

pub edge-requires : goal.edge-requires
edge-requires c = first-length c.loop-n.n-iterator c.in-Some.ensures.steps

pub overflow_add-writes : goal.overflow_add-writes
overflow_add-writes c =
    let r = c.args.self.now.lengths in
    let left = rw c.in-Some.ensures.steps at c.loop-n.invariant in
    let turn = counted-turn left c.edge.result c.edge.ensures.edge (rw c.is_some.ensures at c.from-writes.ensures) in
    omega (arith, counted-few turn, length-lengths r.up r.count r.from.0, r.within)

pub loop-n-preserved : goal.loop-n-preserved
loop-n-preserved c =
    let left = rw c.in-Some.ensures.steps at c.loop-n.invariant in
    counted-turn left c.edge.result c.edge.ensures.edge (rw c.is_some.ensures at c.from-writes.ensures)

pub returns-clause-many : goal.returns-clause-many
returns-clause-many c at last =
    let s = c.args.self.now in
    counted-end (rw c.in-None.ensures.steps.0 at c.loop-n.invariant) (cells_of s.table) at (cell_of last)

pub returns-clause-few : goal.returns-clause-few
returns-clause-few c =
    let r = c.args.self.now.lengths in
    omega (arith, counted-few c.loop-n.invariant, length-lengths r.up r.count r.from.0, r.within)
