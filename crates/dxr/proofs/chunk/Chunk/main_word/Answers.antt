-- The hop of the first range, or where the entries stand.
use Rattle.std.proofs.Common.{sym, ◌∙◌, ap, arith}
use Rattle.dxr.proofs.Entries.{entries-get}
use Rattle.dxr.proofs.chunk.Chunk.main_word.Goals as goal

pub returns-then-count-eq1 : goal.returns-then-count-eq1
returns-then-count-eq1 c =
    let k = c.args.self.now in
    (omega arith, c.new.ensures.number ∙ sym (ap (λ r. r.hop) (entries-get k.base k.rows.starts.now k.rows.hops.now k.rows.equal 0)))
