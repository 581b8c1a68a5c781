-- A word has two entries, one behind the other; an odd last one stands alone.
use Rattle.std.proofs.Common.{◌+◌, ◌-◌, ◌*◌, ◌/◌, ◌%◌, ◌≡◌, ◌≤◌, true, length, refl, ◌∙◌, ap, arith, rules}
use Rattle.dxr.specs.Dxr.{short_range}
use Rattle.dxr.proofs.Scans.{passed_start, passed-turn, passed-end, decoded-length, decoded-at, upper-at, lower-at, rest-length, rest-get}
use Rattle.dxr.proofs.lookup.pass_short.Goals as goal

pub loop-word-init : goal.loop-word-init
loop-word-init c =
    let a = c.args in
    passed-turn
    (passed_start 65536 a.key
    (decoded-at true a.count a.part.now c.requires.2 0 (search rules) (c.short_range.ensures.range ∙ upper-at a.part.now 0)) refl c.first-p.ensures)
    (decoded-at true a.count a.part.now c.requires.2 1 (search rules) (c.short_range-2.ensures.range ∙ lower-at a.part.now 0))
    refl c.short_range-2.ensures.start c.next-p.ensures

pub loop-word-preserved : goal.loop-word-preserved
loop-word-preserved c =
    let a = c.args in
    let k = c.loop-word.word-index in
    let all : a.count / 2 ≤ length a.part.now = omega (arith, c.requires) in
    let n = rest-length a.part.now (a.count / 2) all in
    let word = rest-get a.part.now (a.count / 2) all k c.loop-word-test.true in
    let upper = passed-turn c.loop-word.invariant
    (decoded-at true a.count a.part.now c.requires.2 (2 * (k + 1)) (omega (arith, n))
    (c.short_range-in-loop-word.ensures.range ∙ ap (λ w. short_range (w / 65536)) word ∙ upper-at a.part.now (k + 1)))
    refl c.short_range-in-loop-word.ensures.start c.next-p-in-loop-word.ensures in
    let e : 2 * (k + 1 + 1) ≡ 2 * (k + 1) + 1 + 1 = omega arith in
    rw e
    (passed-turn upper
    (decoded-at true a.count a.part.now c.requires.2 (2 * (k + 1) + 1) (omega (arith, n))
    (c.short_range-in-loop-word-2.ensures.range ∙ ap (λ w. short_range (w % 65536)) word ∙ lower-at a.part.now (k + 1)))
    refl c.short_range-in-loop-word-2.ensures.start c.next-p-in-loop-word-2.ensures)

pub returns-then-count-eq0 : goal.returns-then-count-eq0
returns-then-count-eq0 c =
    let a = c.args in
    let all : a.count / 2 ≤ length a.part.now = omega (arith, c.requires) in
    passed-end c.loop-word.invariant
    (omega (arith, decoded-length true a.count a.part.now c.requires.2, rest-length a.part.now (a.count / 2) all))

pub returns-else-count-eq0 : goal.returns-else-count-eq0
returns-else-count-eq0 c =
    let a = c.args in
    let all : a.count / 2 ≤ length a.part.now = omega (arith, c.requires) in
    let n = rest-length a.part.now (a.count / 2) all in
    let i : 2 * (c.loop-word.word-index + 1) ≡ a.count - 1 = omega (arith, n) in
    passed-end
    (passed-turn (rw i at c.loop-word.invariant)
    (decoded-at true a.count a.part.now c.requires.2 (a.count - 1) (omega arith) c.entry_at.ensures.range)
    refl c.entry_at.ensures.start c.next-odd.ensures)
    (rw (decoded-length true a.count a.part.now c.requires.2) (omega arith))
