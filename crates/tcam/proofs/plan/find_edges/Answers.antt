-- The slot's group has a place in the row, which then has the slot.
use Rattle.std.proofs.Common.{arith}
use Rattle.tcam.proofs.Edges.{edges-start, edges-turn, edges-end, group-below}
use Rattle.tcam.proofs.plan.find_edges.Goals as goal

pub loop-k-init : goal.loop-k-init
loop-k-init c = rw c.requires.none (edges-start c.args.table.now.equal c.requires.keeps)

pub bounds-edges-group : goal.bounds-edges-group
bounds-edges-group c =
    let h = c.loop-k.invariant in
    omega (arith, h.size, group-below h (omega arith) (rw c.len-m.ensures at c.visit-s.ensures.0) c.cell.ensures c.group.ensures)

pub loop-k-preserved : goal.loop-k-preserved
loop-k-preserved c = edges-turn c.loop-k.invariant (omega arith) (rw c.len-m.ensures at c.visit-s.ensures.0) c.cell.ensures c.group.ensures

pub returns : goal.returns
returns c = edges-end c.loop-k.invariant (omega arith)
