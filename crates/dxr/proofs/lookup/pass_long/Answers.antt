-- The next word is the next entry.
use Rattle.std.proofs.Common.{◌+◌, ◌≤◌, false, length, refl, ◌∙◌, ap, arith, rules}
use Rattle.dxr.specs.Dxr.{long_range}
use Rattle.dxr.proofs.Scans.{passed_start, passed-turn, passed-end, decoded-length, decoded-at, rest-length, rest-get}
use Rattle.dxr.proofs.lookup.pass_long.Goals as goal

pub loop-word-init : goal.loop-word-init
loop-word-init c =
    passed_start 65536 c.args.key (decoded-at false _ c.args.part.now refl 0 (search rules) c.long_range.ensures.range) refl c.first-p.ensures

pub loop-word-preserved : goal.loop-word-preserved
loop-word-preserved c =
    let part = c.args.part.now in
    let k = c.loop-word.word-index in
    let all : length part ≤ length part = omega arith in
    passed-turn c.loop-word.invariant
    (decoded-at false _ part refl (k + 1) (omega (arith, rest-length part (length part) all))
    (c.long_range-in-loop-word.ensures.range ∙ ap long_range (rest-get part (length part) all k c.loop-word-test.true)))
    refl c.long_range-in-loop-word.ensures.start c.next-p.ensures

pub returns : goal.returns
returns c =
    let part = c.args.part.now in
    let all : length part ≤ length part = omega arith in
    passed-end c.loop-word.invariant (omega (arith, decoded-length false _ part refl, rest-length part (length part) all))
