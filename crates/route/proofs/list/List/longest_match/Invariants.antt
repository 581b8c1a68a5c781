-- From the list's end: the best is the longest match of the entries from entry i on.
use Rattle.route.specs.Entries.{routes_of}
use Rattle.route.specs.Loops.{match_of}
use Rattle.route.proofs.Entries.{LongestFrom}
use Rattle.route.proofs.list.List.longest_match.Given as goal

abbrev pub invariant-loop-i : goal.invariant-loop-i
invariant-loop-i l = LongestFrom 32 (routes_of l.self) l.q (match_of l.best) l.i
