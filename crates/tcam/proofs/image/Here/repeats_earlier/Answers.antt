-- S1 to S4 hold up to the entry, so its run decides.
use Rattle.std.proofs.Common.{not, sym, ◌∙◌}
use borrow.Author.Tests.{not-false, not-true}
use Rattle.route.proofs.Tests.{or_parts}
use Rattle.tcam.proofs.RunLoops.{here-other, here-same}
use Rattle.tcam.proofs.image.Here.repeats_earlier.Goals as goal

pub returns-then-ne : goal.returns-then-ne
returns-then-ne c =
    let h = c.args.self.now in
    here-other h (sym c.is_free.ensures ∙ (or_parts _ (not h.noted) c.if-is_free-self.false).0)
    (not-true _ (rw c.length.ensures at (sym c.ne.ensures ∙ c.if-ne.true)))

pub returns : goal.returns
returns c =
    let h = c.args.self.now in
    c.stands_between.ensures
    ∙ here-same h (sym c.is_free.ensures ∙ (or_parts _ (not h.noted) c.if-is_free-self.false).0)
    (not-false _ (rw c.length.ensures at (sym c.ne.ensures ∙ c.if-ne.false)))
