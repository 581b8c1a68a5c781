-- The write's slot is one of both rows.
use Rattle.tcam.proofs.Writes.{made-slot, made-turn}
use Rattle.tcam.proofs.apply.make_writes.Goals as goal

pub bounds-addresses-slot : goal.bounds-addresses-slot
bounds-addresses-slot c = (made-slot c.loop-i.invariant c.loop-i-test.true c.write_at.ensures).0

pub bounds-tags-slot : goal.bounds-tags-slot
bounds-tags-slot c = (made-slot c.loop-i.invariant c.loop-i-test.true c.write_at.ensures).1

pub loop-i-preserved : goal.loop-i-preserved
loop-i-preserved c = made-turn c.loop-i.invariant c.loop-i-test.true c.write_at.ensures
