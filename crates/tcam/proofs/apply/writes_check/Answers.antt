-- Write i can be made, or is the first that cannot.
use Rattle.std.proofs.Common.{sym, ◌∙◌}
use Rattle.tcam.proofs.Writes.{checked-stop, checked-turn}
use Rattle.tcam.proofs.apply.writes_check.Goals as goal

pub returns-then-is_wrong : goal.returns-then-is_wrong
returns-then-is_wrong c =
    checked-stop c.loop-i.invariant c.loop-i-test.true c.write_at.ensures (sym c.is_wrong.ensures ∙ c.if-is_wrong.true)

pub loop-i-preserved : goal.loop-i-preserved
loop-i-preserved c =
    checked-turn c.loop-i.invariant c.loop-i-test.true c.write_at.ensures (sym c.is_wrong.ensures ∙ c.if-is_wrong.false)
