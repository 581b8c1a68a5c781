-- There are as many routes as addresses.
use mathlib.Core.Path.{sym}
use Rattle.route.proofs.Entries.{routes-length}
use Rattle.route.proofs.list.List.len.Goals as goal

pub returns-clause-routes : goal.returns-clause-routes
returns-clause-routes c = sym (routes-length _ _ _ c.args.self.now.equal)
