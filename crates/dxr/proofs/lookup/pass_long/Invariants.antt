-- Word by word behind the first.
use Rattle.std.proofs.Common.{◌+◌, false, length}
use Rattle.dxr.specs.Dxr.{decoded}
use Rattle.dxr.proofs.Scans.{PassedTo}
use Rattle.dxr.proofs.lookup.pass_long.Given as goal

abbrev pub invariant-loop-word : goal.invariant-loop-word
invariant-loop-word l = PassedTo 65536 l.key (decoded false (length l.part) l.part) l.p (l.word-index + 1)
