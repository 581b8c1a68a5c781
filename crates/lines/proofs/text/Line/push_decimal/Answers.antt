-- The buffer's text is std's, and so is `decimal`.
use Rattle.std.proofs.Common.{rules}
use Rattle.lines.proofs.Digits.{decimal-printed}
use Rattle.lines.proofs.text.Line.push_decimal.Goals as goal

pub returns-clause-text : goal.returns-clause-text
returns-clause-text c = let e = decimal-printed c.args.n (search rules) in search rules
