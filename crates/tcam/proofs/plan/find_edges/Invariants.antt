-- The row has, for each group, the last slot found among the k visited ones.
use Rattle.tcam.proofs.Edges.{EdgesAmong}
use Rattle.tcam.proofs.plan.find_edges.Given as goal

abbrev pub invariant-loop-k : goal.invariant-loop-k
invariant-loop-k l = EdgesAmong 32 l.up l.table.addresses.now l.table.tags.now l.edges l.k
