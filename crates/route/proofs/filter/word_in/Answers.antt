-- A number masked by another is no greater.
use native.Mathlib.Omega.{arith}
use mathlib.Core.Path.{refl}
use Prim.Native.Nat.{◌-◌, ◌/◌, ◌^◌}
use lib.Bits.{and_le_r}
use Rattle.route.specs.Filter.{word_in}
use Rattle.route.proofs.filter.word_in.Goals as goal

pub returns : goal.returns
unfolding word_in
returns c = (refl, omega (arith, and_le_r (c.args.h / 2 ^ 20) (c.args.words - 1)))
