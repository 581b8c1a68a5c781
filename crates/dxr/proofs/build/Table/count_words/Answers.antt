-- The chunks before the one in which the next range starts have no words, and that one has as many as are counted.
use Rattle.std.proofs.Common.{◌+◌, arith}
use Rattle.dxr.proofs.Passes.{next-some, next-few, count_room, count_turn, count_low, count-end}
use Rattle.dxr.proofs.build.Table.count_words.Goals as goal

pub main_word-requires : goal.main_word-requires
main_word-requires c =
    let r = c.loop-next.invariant.1.reached in
    (next-some r c.in-Some.ensures, next-few r c.in-Some.ensures, count_room c.loop-next.invariant.1)

pub overflow_add-count : goal.overflow_add-count
overflow_add-count c =
    let low = count_low c.loop-next.invariant.1 c.in-Some.ensures c.main_word.result c.main_word.ensures in
    omega (arith, c.words-count.ensures)

pub loop-next-preserved : goal.loop-next-preserved
loop-next-preserved c =
    (c.in-Some.next.number + 1, rw c.words-count.ensures (count_turn c.loop-next.invariant.1 c.in-Some.ensures c.main_word.result c.main_word.ensures))

pub returns : goal.returns
returns c = count-end c.loop-next.invariant.1 c.in_default.ensures
