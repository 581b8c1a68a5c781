-- After i turns the first i numbers of each of the list's rows are stored.
use Rattle.std.proofs.Common.{◌≡◌}
use Rattle.prefixes.proofs.Rows.{filled}
use Rattle.prefixes.proofs.copy_rows.Given as goal

abbrev pub invariant-loop-i : goal.invariant-loop-i
invariant-loop-i l = l.rows ≡ filled l.list l.initial.rows l.i
