-- Slot i keeps S1 to S4, and so do the free slots behind it; what its repeat comes to is kept.
use Rattle.std.proofs.Common.{ap, ◌∙◌}
use Rattle.tcam.specs.Loops.{misplaced_by, repeat_of}
use Rattle.tcam.specs.Held.{slot_at}
use Rattle.tcam.proofs.SeenBefore.{misplaced-is}
use Rattle.tcam.proofs.Images.{fault_past, cells-noted, cells-passed}
use Rattle.tcam.proofs.Repeats.{kept-past}
use Rattle.tcam.proofs.mend.mend_check.Goals as goal

pub loop-i-preserved : goal.loop-i-preserved
loop-i-preserved g c =
    let t = c.args.table.now in
    let inv = c.loop-i.invariant in
    let past = c.past-passed.ensures in
    let inside = rw c.len.ensures at c.loop-i-test.true in
    -- what was seen tells of slot i
    let told = c.refuses.ensures ∙ ap (λ x. misplaced_by 32 x c.loop-i.seen) c.cell-cell.ensures
    ∙ misplaced-is inv.1.seen (slot_at t c.loop-i.i) in (
      fault_past 32 inv.0 inside told c.if-refuses.false (λ d bs f m. m) past.free past.tested.in_order,
      past.tested,
      kept-past t.addresses.now t.tags.now c.loop-i.i c.past-passed.result.next.0 inside past.free (repeat_of c.loop-i.repeats)
          (repeat_of c.with-repeats.result) inv.2 c.with-repeats.ensures,
      cells-passed (cells-noted inv.3 c.cell-cell.ensures c.prefix.ensures.length (rw c.prefix.ensures.address at c.note-noted.ensures.noting) c.note-noted.ensures.words_len_unchanged) past.free,
    )
