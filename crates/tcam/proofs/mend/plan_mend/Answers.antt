-- The slots keep S1, and the later copy, if there is one, is in the table; its removal is the one wanted.
use Rattle.std.proofs.Common.{length, sym, ap, ◌∙◌}
use Rattle.tcam.specs.Slots.{length_in}
use Rattle.tcam.proofs.Repeats.{found-inside, found-keeps, found-short, found-planned}
use Rattle.tcam.proofs.Planned.{planned-same}
use Rattle.tcam.proofs.mend.plan_mend.Goals as goal

pub cell-requires : goal.cell-requires
cell-requires c = found-inside _ _ c.in_ok-table.table.equal c.in-Some.is c.in_ok-later_copy.ensures

pub erase-requires : goal.erase-requires
erase-requires c =
    let e = c.in_ok-table.table.equal in (
      found-keeps _ _ e c.in-Some.is c.in_ok-later_copy.ensures,
      rw (c.length.ensures ∙ ap length_in c.cell.ensures) (found-short _ _ e c.in-Some.is c.in_ok-later_copy.ensures),
      found-inside _ _ e c.in-Some.is c.in_ok-later_copy.ensures,
    )

pub returns-in-Some : goal.returns-in-Some
returns-in-Some c =
    let t = c.in_ok-table.ensures.ok in
    planned-same
    (rw (sym t.1, sym t.2) (found-planned _ _ c.in_ok-table.table.equal c.in-Some.is c.in_ok-later_copy.ensures (length c.args.plan.now) c.length.result.0
    (c.length.ensures ∙ ap length_in c.cell.ensures) (rw (t.1, t.2) t.0)))
    c.erase.ensures
