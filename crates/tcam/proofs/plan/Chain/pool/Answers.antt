-- The row has the pool's edge slot, which is in the table.
use Rattle.tcam.specs.Slots.{is_free}
use Rattle.tcam.proofs.Chains.{inside-table}
use Rattle.tcam.proofs.plan.Chain.pool.Goals as goal

pub returns-clause-inside : goal.returns-clause-inside
returns-clause-inside c =
    let s = c.args.self.now in
    inside-table s.lengths.up is_free s.table.addresses.now s.table.tags.now s.table.equal _ s.edges_of.pool
