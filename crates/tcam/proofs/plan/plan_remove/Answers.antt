-- The table and the prefix have no fault, and the slot that was found is in the table.
use Rattle.std.proofs.Common.{sym}
use Rattle.route.proofs.Accepted.{prefix-good}
use Rattle.tcam.specs.Held.{cells_of}
use Rattle.tcam.proofs.SlotsAgree.{image_keeps_s1}
use Rattle.tcam.proofs.plan.plan_remove.Goals as goal

pub erase-requires : goal.erase-requires
erase-requires c =
    let a = c.args in
    let t = c.in_ok-table.table in (
      image_keeps_s1 32 0 0 _ (cells_of t) (sym c.in_ok-slots_check.ensures),
      (prefix-good 32 0 a.p.address a.p.length.0 (sym c.in_ok-prefix_check.ensures)).0,
      rw c.in_ok-s.ensures.ok_part at c.find.ensures.inside,
    )
