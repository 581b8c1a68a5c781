-- The row has the length's edge slot, which is in the table.
use Rattle.tcam.specs.Plans.{of_length}
use Rattle.tcam.proofs.Chains.{inside-table}
use Rattle.tcam.proofs.plan.Chain.edge.Goals as goal

pub returns-clause-inside : goal.returns-clause-inside
returns-clause-inside c =
    let s = c.args.self.now in
    rw c.from.ensures
    (inside-table s.lengths.up (of_length c.args.n.0) s.table.addresses.now s.table.tags.now s.table.equal _ (s.edges_of.of c.args.n.0 c.requires))
