-- No range breaks a rule, and the count says the last one at or below q.
use Rattle.std.proofs.Common.{◌∙◌, ◌≡◌, false, ◌≤◌, ◌+◌, length, arith}
use Rattle.ranges.specs.Loops.{behind_broken}
use Rattle.ranges.proofs.Scans.{behind-unbroken, tested-none, tested-good}
use Rattle.ranges.proofs.lookup.Ranges.look_behind.Goals as goal
use Rattle.ranges.proofs.lookup.Ranges.look_behind.Goals.{then-bad+in_ok-check_behind, else-bad}

pub returns : goal.returns
returns c =
    let s = c.args.self.now in
    let end : length s.starts.now ≤ c.loop-i.i + 1 = omega arith in
    let none : behind_broken s.starts.now s.hops.now 0 ≡ false =
    elim c.if-bad.branch [
      | then-bad+in_ok-check_behind w ↦ behind-unbroken s.starts.now s.hops.now w.in_ok-check_behind.ensures
      | else-bad w ↦ tested-none c.loop-i.invariant end w.if-bad.false
    ] in
    c.new.ensures.shown ∙ tested-good c.loop-i.invariant end none
