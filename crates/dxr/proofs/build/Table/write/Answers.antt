-- Up to the chunk in which the next range starts the chunks are filled, and that one is stored.
use Rattle.dxr.proofs.DxrTable.{split-16}
use Rattle.dxr.proofs.Passes.{written-rest, written-room, written-turn, written-end}
use Rattle.dxr.proofs.build.Table.write.Goals as goal

pub store-stored-requires : goal.store-stored-requires
store-stored-requires c = written-room c.loop-next.invariant c.in-Some.ensures (c.fill.ensures.after (λ y h. h)) split-16

pub loop-next-preserved : goal.loop-next-preserved
loop-next-preserved c =
    written-turn c.loop-next.invariant c.in-Some.ensures (c.fill.ensures.after (λ y h. h)) c.store-stored.ensures

pub returns-clause-main_after : goal.returns-clause-main_after
returns-clause-main_after c =
    (written-end (written-rest c.loop-next.invariant c.in_default.ensures (c.fill-2.ensures.after (λ y h. h)))).0

pub returns-clause-words_after : goal.returns-clause-words_after
returns-clause-words_after c =
    (written-end (written-rest c.loop-next.invariant c.in_default.ensures (c.fill-2.ensures.after (λ y h. h)))).1
