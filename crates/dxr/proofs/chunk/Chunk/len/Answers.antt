-- There are as many entries as ranges.
use Rattle.std.proofs.Common.{sym, ◌∙◌}
use Rattle.dxr.proofs.Entries.{entries-length}
use Rattle.dxr.proofs.chunk.Chunk.len.Goals as goal

pub returns-clause-entries : goal.returns-clause-entries
returns-clause-entries c =
    let k = c.args.self.now in
    c.len.ensures ∙ sym (entries-length k.base k.rows.starts.now k.rows.hops.now k.rows.equal)
