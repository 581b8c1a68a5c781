-- A block has what is sought, or the search goes on behind it.
use Rattle.std.proofs.Common.{◌≡◌, min, ◌+◌, sym, arith}
use Rattle.tcam.proofs.Searched.{block-here, block-none}
use Rattle.tcam.proofs.search.first_block.Goals as goal

pub returns-then-any_among-clause-found : goal.returns-then-any_among-clause-found
returns-then-any_among-clause-found g c = λ p f.
    block-here p c.loop-j.j (c.loop-j.j + c.min.result) (omega arith) (c.loop-j.invariant p f) (omega arith)
    (c.any_among.ensures p (λ j b l m e. f j b (omega arith) (omega arith) e)) c.if-any_among.true

pub loop-j-preserved : goal.loop-j-preserved
loop-j-preserved g c = λ p f.
    let end : min (c.loop-j.j + 64) c.args.to ≡ c.loop-j.j + c.min.result = omega arith in
    rw end (block-none p c.loop-j.j (c.loop-j.j + c.min.result) (omega arith) (c.loop-j.invariant p f) (omega arith)
    (c.any_among.ensures p (λ j b l m e. f j b (omega arith) (omega arith) e)) c.if-any_among.false)

pub returns-else-any_among-clause-found : goal.returns-else-any_among-clause-found
returns-else-any_among-clause-found g c = λ p f.
    let end : c.loop-j.j + c.min.result ≡ c.args.to = omega arith in
    sym (rw end at (block-none p c.loop-j.j (c.loop-j.j + c.min.result) (omega arith) (c.loop-j.invariant p f) (omega arith)
    (c.any_among.ensures p (λ j b l m e. f j b (omega arith) (omega arith) e)) c.if-any_among.false)).is
