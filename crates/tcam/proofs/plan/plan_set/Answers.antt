-- The table, the prefix and the hop have no fault, and a slot that was found is in the table.
use Rattle.std.proofs.Common.{sym}
use Rattle.route.specs.Refusals.{prefix_fault}
use Rattle.route.proofs.Accepted.{prefix-good}
use Rattle.route.proofs.Tests.{in_turn}
use Rattle.tcam.specs.Held.{cells_of}
use Rattle.tcam.proofs.Rows.{get_or-cells}
use Rattle.tcam.proofs.SlotsAgree.{image_keeps_s1}
use Rattle.tcam.proofs.Planned.{planned-same}
use Rattle.tcam.proofs.plan.plan_set.Goals as goal

pub insert-requires : goal.insert-requires
insert-requires c =
    let a = c.args in
    let t = c.in_ok-table.table in (
      image_keeps_s1 32 0 0 _ (cells_of t) (sym c.in_ok-slots_check.ensures),
      (prefix-good 32 0 a.r.prefix.address a.r.prefix.length.0 (in_turn (prefix_fault 32 0 a.r.prefix.address a.r.prefix.length.0) _ (sym c.in_ok-entry_check.ensures)).0).0,
    )

pub returns-in-Some : goal.returns-in-Some
returns-in-Some c =
    let t = c.in_ok-table.table in
    let e = c.in_ok-table.ensures.ok in
    planned-same
    (rw (← e.0, ← e.1, ← e.2, ← c.in_ok-slots_check.ensures, ← c.in_ok-entry_check.ensures, ← c.in-Some.ensures.first, get_or-cells t.addresses.now t.tags.now _ t.equal c.in-Some.ensures.inside))
    c.replace.ensures
