-- What a byte adds keeps every sum and product within 32 bits.
use Rattle.std.proofs.Common.{sym, ◌∙◌, arith, rules}
use Rattle.records.proofs.Bytes.{last_fits, group-fits, weight-fits}
use Rattle.records.proofs.numbers.further_bytes.Goals as goal

pub overflow_mul-result : goal.overflow_mul-result
overflow_mul-result c = omega (arith, last_fits c.loop-k.invariant c.in_ok-b.b (sym c.is_bad.ensures ∙ c.if-is_bad.false) (search rules))

pub overflow_add-result : goal.overflow_add-result
overflow_add-result c = omega (arith, last_fits c.loop-k.invariant c.in_ok-b.b (sym c.is_bad.ensures ∙ c.if-is_bad.false) (search rules))

pub overflow_mul-value : goal.overflow_mul-value
overflow_mul-value c =
    omega (arith, group-fits c.loop-k.invariant c.in_ok-b.b (sym c.is_bad.ensures ∙ c.if-is_bad.false) (search rules) (search rules))

pub overflow_add-value : goal.overflow_add-value
overflow_add-value c =
    omega (arith, group-fits c.loop-k.invariant c.in_ok-b.b (sym c.is_bad.ensures ∙ c.if-is_bad.false) (search rules) (search rules))

pub overflow_mul-weight : goal.overflow_mul-weight
overflow_mul-weight c =
    omega (arith, weight-fits c.loop-k.invariant c.in_ok-b.b (sym c.is_bad.ensures ∙ c.if-is_bad.false) (search rules) (search rules))
