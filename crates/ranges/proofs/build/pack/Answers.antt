-- The key at a place is that of the entry there, and there are as many keys as entries.
use Rattle.std.proofs.Common.{ap, ◌∙◌, arith, take_all, sym}
use Rattle.route.specs.Entries.{routes_of}
use Rattle.ranges.specs.Keys.{key_of}
use Rattle.ranges.proofs.Fills.{keys-turn, keys_length}
use Rattle.ranges.proofs.build.pack.Goals as goal

pub loop-i-preserved : goal.loop-i-preserved
loop-i-preserved c =
    keys-turn (routes_of c.args.list.now) _ c.loop-i.i _ (omega arith) (omega arith) (c.from.ensures ∙ ap key_of c.entry.ensures) c.loop-i.invariant

pub returns : goal.returns
returns c =
    let n = keys_length (routes_of c.args.list.now) in
    sym (take_all c.loop-i.i c.loop-i.keys (omega arith)) ∙ c.loop-i.invariant ∙ take_all c.loop-i.i _ (omega (arith, n))
