-- The writes are as many as were counted, and there is room for them or not.
use Rattle.std.proofs.Common.{arith}
use Rattle.tcam.specs.Shown.{cell_of}
use Rattle.tcam.specs.InTurn.{chain_of}
use Rattle.tcam.specs.Held.{cells_of}
use Rattle.tcam.proofs.Planned.{planned-put, no_room}
use Rattle.tcam.proofs.plan.Chain.plan.Goals as goal

pub returns-then-plan-writes : goal.returns-then-plan-writes
returns-then-plan-writes c =
    let s = c.args.self.now in
    no_room (chain_of s.lengths (cells_of s.table) c.args.pool.0 (cell_of c.args.last))
    (c.writes-writes.ensures.many c.args.pool.0 c.args.last) c.if-plan-writes.true

pub put-requires-clause-last_in_bounds : goal.put-requires-clause-last_in_bounds
put-requires-clause-last_in_bounds c = omega (arith, c.writes-writes.ensures.many c.args.pool.0 c.args.last)

pub returns : goal.returns
returns c =
    let s = c.args.self.now in
    planned-put (chain_of s.lengths (cells_of s.table) c.args.pool.0 (cell_of c.args.last))
    (c.writes-writes.ensures.many c.args.pool.0 c.args.last) c.if-plan-writes.false c.put.ensures
