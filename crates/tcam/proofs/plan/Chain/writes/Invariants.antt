-- So many writes were counted, and the lengths that are left give the rest.
use Rattle.tcam.specs.Loops.{edge_of}
use Rattle.tcam.specs.InTurn.{lengths_of}
use Rattle.tcam.specs.Held.{cells_of}
use Rattle.tcam.proofs.Chains.{CountedWrites}
use Rattle.tcam.proofs.plan.Chain.writes.Given as goal

abbrev pub invariant-loop-n : goal.invariant-loop-n
invariant-loop-n l =
    CountedWrites (edge_of l.self.lengths.up (cells_of l.self.table)) (lengths_of l.self.lengths) (lengths_of l.n-iterator) l.writes
