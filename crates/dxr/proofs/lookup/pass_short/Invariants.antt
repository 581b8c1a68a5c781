-- Word by word behind the first.
use Rattle.std.proofs.Common.{◌+◌, ◌*◌, true}
use Rattle.dxr.specs.Dxr.{decoded}
use Rattle.dxr.proofs.Scans.{PassedTo}
use Rattle.dxr.proofs.lookup.pass_short.Given as goal

abbrev pub invariant-loop-word : goal.invariant-loop-word
invariant-loop-word l = PassedTo 65536 l.key (decoded true l.count l.part) l.p (2 * (l.word-index + 1))
