-- A turn stores one number more of each row; where all are stored the rows stand one behind the other.
use Rattle.std.proofs.Common.{◌≡◌, length, arith, rules}
use Rattle.prefixes.proofs.Rows.{filled_next, filled-all}
use Rattle.prefixes.proofs.copy_rows.Goals as goal

pub loop-i-preserved : goal.loop-i-preserved
loop-i-preserved c = rw c.loop-i.invariant (filled_next c.args.list.now c.args.rows.now _ c.loop-i.i (search rules))

pub returns : goal.returns
returns c =
    let all : c.loop-i.i ≡ length c.args.list.now = omega arith in
    rw (c.loop-i.invariant, all) (filled-all c.args.list.now c.args.rows.now (search rules))
