-- With place from + k more.
use Rattle.std.proofs.Common.{◌≡◌, ◌+◌, refl, arith}
use Rattle.route.proofs.Searches.{from-turn}
use Rattle.tcam.proofs.search.any_among.Goals as goal

pub loop-k-preserved : goal.loop-k-preserved
loop-k-preserved g c = λ p f.
    let z : c.args.from + (c.loop-k.k + 1) ≡ c.args.from + c.loop-k.k + 1 = omega arith in
    rw z (from-turn (c.loop-k.invariant p f) (omega arith) refl (f (c.args.from + c.loop-k.k) _ (omega arith) (omega arith) c.has-found.ensures))
