-- A quotient below 2^n times the span of length n is below 2^32.
use Rattle.std.proofs.Common.{arith, rules}
use Rattle.route.proofs.Spans.{span-times}
use Rattle.records.proofs.address_of.Goals as goal

pub overflow_cast-result-2 : goal.overflow_cast-result-2
overflow_cast-result-2 c =
    rw c.span_of.ensures.is (omega (arith, span-times 32 c.args.length.0 c.args.x (search rules) (search rules)))
