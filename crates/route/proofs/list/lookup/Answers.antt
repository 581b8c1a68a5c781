-- A list without a fault has rows of a right size, and the route that is found has a hop.
use mathlib.Core.Path.{◌≡◌, sym}
use Rattle.route.specs.Refusals.{fine}
use Rattle.route.specs.Lists.{rows_fault}
use Rattle.route.proofs.Lookups.{lookup-via}
use Rattle.route.proofs.list.lookup.Goals as goal

pub returns-in-Some : goal.returns-in-Some
returns-in-Some c =
    let a = c.args in
    let l = c.in_ok-list.ensures.ok in
    let good : rows_fault 32 a.addresses.now a.lengths.now a.hops.now ≡ fine =
    rw (← l.0) (sym (rw (l.1, l.2, l.3) at c.in_ok-check.ensures)) in
    lookup-via 32 a.addresses.now a.lengths.now a.hops.now a.q good c.in-Some.r.hop
    (rw (l.1, l.2, l.3) at (rw c.in-Some.is at c.longest_match.ensures))
