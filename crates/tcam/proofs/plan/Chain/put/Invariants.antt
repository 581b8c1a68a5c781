-- The writes before write w are in the plan, and what is left gives the rest.
use Rattle.tcam.specs.Shown.{cell_of}
use Rattle.tcam.specs.Loops.{edge_of}
use Rattle.tcam.specs.InTurn.{lengths_of, chain_of}
use Rattle.tcam.specs.Held.{cells_of}
use Rattle.tcam.proofs.Chains.{ChainPut}
use Rattle.tcam.proofs.plan.Chain.put.Given as goal

abbrev pub invariant-loop-n : goal.invariant-loop-n
invariant-loop-n l =
    let cs = cells_of l.self.table in
    ChainPut (edge_of l.self.lengths.up cs) cs (cell_of l.last) (chain_of l.self.lengths cs l.fn.pool.0 (cell_of l.last)) l.start l.initial.plan l.plan (lengths_of l.n-iterator) l.vacant.0 l.w
