-- No repeat; the second, or another tag in the run; or the later copy.
use Rattle.std.proofs.Common.{rules, ℕ, refl, ◌∙◌}
use Rattle.tcam.specs.Mend.{other_tag_in}
use Rattle.tcam.specs.Shown.{cell_of}
use Rattle.tcam.specs.Held.{slot_at}
use Rattle.tcam.proofs.Repeats.{with-same, with-bad, with-once, contradicts-in-run}
use Rattle.tcam.proofs.Searched.{block-found}
use Rattle.tcam.proofs.mend.Repeats.with.Goals as goal

pub returns-then-repeats_earlier-is_some : goal.returns-then-repeats_earlier-is_some
returns-then-repeats_earlier-is_some c =
    let h = c.args.here.now in
    with-same (slot_at h.table.now) h.slot.0 c.args.self.refused c.args.self.later
    (rw (c.repeats_earlier.ensures, c.is_some.ensures) at c.if-repeats_earlier-is_some.true)

pub returns-then-is_some-other : goal.returns-then-is_some-other
returns-then-is_some-other c =
    let h = c.args.here.now in
    let at = slot_at h.table.now in
    let e = rw (c.repeats_earlier.ensures, c.is_some.ensures) at c.if-repeats_earlier-is_some.false in
    let told = c.is_some-other.ensures ∙ block-found (λ (j : ℕ). other_tag_in (cell_of h.cell) (at j)) _ _ _ (c.first_block.ensures.found (λ (j : ℕ). other_tag_in (cell_of h.cell) (at j)) (λ j b l m o. search rules)) ∙ contradicts-in-run h _ e in
    with-bad at h.slot.0 c.args.self.refused c.args.self.later e (rw (c.is_some-2.ensures, told) at c.if-is_some-other.true)

pub returns : goal.returns
returns c =
    let h = c.args.here.now in
    let at = slot_at h.table.now in
    let e = rw (c.repeats_earlier.ensures, c.is_some.ensures) at c.if-repeats_earlier-is_some.false in
    let told = c.is_some-other.ensures ∙ block-found (λ (j : ℕ). other_tag_in (cell_of h.cell) (at j)) _ _ _ (c.first_block.ensures.found (λ (j : ℕ). other_tag_in (cell_of h.cell) (at j)) (λ j b l m o. search rules)) ∙ contradicts-in-run h _ e in
    with-once at h.slot.0 c.args.self.refused c.args.self.later e (rw (c.is_some-2.ensures, told) at c.if-is_some-other.false) refl
