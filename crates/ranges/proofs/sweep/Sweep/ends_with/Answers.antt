-- The last of the ranges made stands right before place made.
use Rattle.std.proofs.Common.{sym, rules}
use Rattle.route.specs.Shown.{hop_number}
use Rattle.ranges.proofs.Steps.{ends_with-front}
use Rattle.ranges.proofs.sweep.Sweep.ends_with.Goals as goal

pub returns : goal.returns
returns c =
    let s = c.args.self.now in
    rw (c.number_of.ensures, c.number_of-2.ensures) (sym (ends_with-front s.at.made s.ranges.now _ (hop_number c.args.hop) (search rules) (search rules)))
