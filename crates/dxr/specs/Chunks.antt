-- The entries of a chunk as the code holds it.
use Rattle.std.specs.Prelude.{List}
use Rattle.ranges.specs.Ranges.{Range}
use Rattle.dxr.specs.Loops.{entries_from}
use Rattle.dxr.specs.declared.chunk.Chunk.{Chunk}

abbrev pub entries_in : Chunk → List Range
entries_in c = entries_from c.base c.rows.starts.now c.rows.hops.now
