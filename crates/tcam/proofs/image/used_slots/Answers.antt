-- The used slots of one part more, and of all: the last part ends where the shorter row does.
use Rattle.std.proofs.Common.{◌≡◌, min, ◌+◌, arith}
use Rattle.tcam.proofs.Images.{used-pass, used_all}
use Rattle.tcam.proofs.image.used_slots.Goals as goal

pub loop-i-preserved : goal.loop-i-preserved
loop-i-preserved c =
    let here : min c.loop-i.i c.min-end.result ≡ c.loop-i.i = omega arith in
    let next : min (c.loop-i.i + 4096) c.min-end.result ≡ c.min.result = omega arith in
    rw next (used-pass (rw here at c.loop-i.invariant) c.min.result (omega arith) (omega arith) c.used_between.ensures)

pub returns : goal.returns
returns c = used_all c.loop-i.invariant (omega arith)

pub returns-2 : goal.returns-2
returns-2 c =
    let here : min c.loop-i.i c.min-end.result ≡ c.loop-i.i = omega arith in
    used_all (used-pass (rw here at c.loop-i.invariant) c.min.result (omega arith) (omega arith) c.used_between.ensures) (omega arith)
