-- Word by word.
use Rattle.route.proofs.Fills.{FilledTo}
use Rattle.dxr.specs.Dxr.{encoded}
use Rattle.dxr.specs.Shown.{is_short_form}
use Rattle.dxr.specs.Chunks.{entries_in}
use Rattle.dxr.proofs.chunk.Chunk.put_words.Given as goal

abbrev pub invariant-loop-k : goal.invariant-loop-k
invariant-loop-k l = FilledTo (encoded (is_short_form l.form) (entries_in l.self)) l.initial.part l.part l.k
