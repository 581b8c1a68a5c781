-- Entry by entry: those from entry i on decide.
use Rattle.std.proofs.Common.{◌≡◌, drop}
use Rattle.dxr.specs.Dxr.{all_short}
use Rattle.dxr.specs.Chunks.{entries_in}
use Rattle.dxr.proofs.chunk.Chunk.form.Given as goal

abbrev pub invariant-loop-i : goal.invariant-loop-i
invariant-loop-i l = all_short (drop l.i (entries_in l.self)) ≡ all_short (entries_in l.self)
