-- The length's edge entry has a slot, and there is room for its copy.
use Rattle.std.proofs.Common.{sym, ◌∙◌, arith}
use Rattle.tcam.specs.Shown.{cell_of}
use Rattle.tcam.specs.Loops.{edge_of}
use Rattle.tcam.specs.InTurn.{lengths_of}
use Rattle.tcam.specs.Held.{cells_of}
use Rattle.tcam.proofs.Rows.{length-cells, get_or-cells}
use Rattle.tcam.proofs.Chains.{first-length, chain-start, chain-room, chain-pass, chain-turn}
use Rattle.tcam.proofs.plan.Chain.put.Goals as goal

pub loop-n-init : goal.loop-n-init
loop-n-init c =
    let s = c.args.self.now in
    let t = s.table in
    let cs = cells_of t in
    rw c.into_iter-n-iterator.ensures.into_iter_gives
    (chain-start (edge_of s.lengths.up cs) cs (cell_of c.args.last) c.args.start c.args.plan.now (lengths_of s.lengths) c.args.pool.0
    (rw (length-cells t.addresses.now t.tags.now t.equal) c.requires.pool_in_bounds))

pub edge-requires : goal.edge-requires
edge-requires c = first-length c.loop-n.n-iterator c.in-Some.ensures.steps

pub put_write-requires : goal.put_write-requires
put_write-requires c =
    let t = c.args.self.now.table in
    chain-room c.loop-n.invariant c.requires.last_in_bounds (omega (arith, t.few, length-cells t.addresses.now t.tags.now t.equal))

pub put_write-requires-2 : goal.put_write-requires-2
put_write-requires-2 c =
    let t = c.args.self.now.table in
    chain-room c.loop-n.invariant c.requires.last_in_bounds (omega (arith, t.few, length-cells t.addresses.now t.tags.now t.equal))

pub loop-n-preserved-in-Some-edge : goal.loop-n-preserved-in-Some-edge
loop-n-preserved-in-Some-edge c =
    let t = c.args.self.now.table in
    let h = rw c.in-Some.ensures.steps at c.loop-n.invariant in
    chain-turn h (sym c.in-Some-edge.ensures.edge) (rw (length-cells t.addresses.now t.tags.now t.equal) c.in-Some-edge.ensures.inside)
    (c.cell-moved.ensures ∙ sym (get_or-cells t.addresses.now t.tags.now _ t.equal c.in-Some-edge.ensures.inside)) c.put_write.ensures

pub loop-n-preserved : goal.loop-n-preserved
loop-n-preserved c = let h = rw c.in-Some.ensures.steps at c.loop-n.invariant in chain-pass h (sym c.in_default.ensures.edge)

pub returns : goal.returns
returns c = let h = rw c.in-None.ensures.steps.0 at c.loop-n.invariant in c.put_write-2.ensures ∙ h.left
