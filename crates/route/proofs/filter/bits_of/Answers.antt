-- A shift of 1 by less than the width is a power of two.
use native.Mathlib.Omega.{arith}
use Prim.Native.Nat.{◌/◌, ◌%◌, ◌^◌}
use Rattle.route.specs.Filter.{bits_of}
use Rattle.route.proofs.Spans.{shl_one}
use Rattle.route.proofs.filter.bits_of.Goals as goal

pub returns : goal.returns
unfolding bits_of
returns c = rw (shl_one (c.args.h / 2 ^ 32 % 64) (omega arith), shl_one (c.args.h / 2 ^ 38 % 64) (omega arith))
