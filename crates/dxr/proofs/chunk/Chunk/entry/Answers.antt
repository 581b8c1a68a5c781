-- The entry that range i makes.
use Rattle.std.proofs.Common.{sym, ◌∙◌, ap₂}
use Rattle.ranges.specs.Ranges.{range}
use Rattle.dxr.proofs.Entries.{entries-get}
use Rattle.dxr.proofs.chunk.Chunk.entry.Goals as goal

pub returns : goal.returns
returns c =
    let k = c.args.self.now in
    ap₂ range c.saturating_sub.ensures c.new.ensures.number ∙ sym (entries-get k.base k.rows.starts.now k.rows.hops.now k.rows.equal c.args.i)
