-- Slot i breaks no rule, and the free slots behind it break none.
use Rattle.std.proofs.Common.{sym, refl, ap, ◌∙◌}
use Rattle.tcam.specs.Loops.{misplaced_by}
use Rattle.tcam.specs.Held.{slot_at}
use Rattle.tcam.proofs.SeenBefore.{breaks-free, misplaced-is}
use Rattle.tcam.proofs.Images.{fault_past, cells-noted, cells-passed}
use Rattle.tcam.proofs.image.check_with.Goals as goal

pub loop-i-preserved : goal.loop-i-preserved
loop-i-preserved g c =
    let t = c.args.table.now in
    let inv = c.loop-i.invariant in
    let past = c.past-passed.ensures in
    let told = c.refuses.ensures ∙ ap (λ x. misplaced_by 32 x c.loop-i.seen) c.cell-cell.ensures
    ∙ misplaced-is inv.1.seen (slot_at t c.loop-i.i) in (
      fault_past 32 inv.0 (rw c.len.ensures at c.loop-i-test.true) (rw (sym told ∙ c.if-refuses.false, sym c.repeats_earlier.ensures ∙ c.if-repeats_earlier.false)) refl
          (λ d bs. breaks-free d bs 32) past.free past.tested.in_order,
      past.tested,
      cells-passed (cells-noted inv.2 c.cell-cell.ensures c.prefix.ensures.length (rw c.prefix.ensures.address at c.note-noted.ensures.noting) c.note-noted.ensures.words_len_unchanged) past.free,
    )
