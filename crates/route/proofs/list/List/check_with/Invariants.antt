-- Entry by entry: the entries before entry i have no fault, and the filter has the prefix of each; before the inner place j none of them has
-- the prefix of entry i.
use mathlib.Core.Path.{◌≡◌}
use Rattle.std.specs.Prelude.{None}
use Rattle.route.specs.Lists.{same_prefix}
use Rattle.route.specs.Shown.{route_of}
use Rattle.route.specs.Entries.{routes_of}
use Rattle.route.specs.Loops.{entry_of}
use Rattle.route.proofs.Entries.{CheckedBefore}
use Rattle.route.proofs.Searches.{NoneBefore}
use Rattle.route.proofs.Notes.{NotedBefore}
use Rattle.route.proofs.list.List.check_with.Given as goal

abbrev pub invariant-loop-j : goal.invariant-loop-j
invariant-loop-j g l =
    NoneBefore (same_prefix (route_of l.r)) (entry_of (routes_of l.self)) l.i l.j
    × (l.twice ≡ None)

abbrev pub invariant-entries : goal.invariant-entries
invariant-entries g l =
    CheckedBefore 32 (routes_of l.self) l.i
    × NotedBefore same_prefix (λ r. r.address) (λ r. r.length) (entry_of (routes_of l.self)) l.filter.words l.i
    × (l.twice ≡ None)
