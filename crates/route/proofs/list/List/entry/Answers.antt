-- Each row has a place for each route.
use mathlib.Core.Path.{sym}
use Rattle.route.proofs.Entries.{routes-get}
use Rattle.route.proofs.list.List.entry.Goals as goal

pub returns : goal.returns
returns c = sym (routes-get _ _ _ c.args.i c.args.self.now.equal)
