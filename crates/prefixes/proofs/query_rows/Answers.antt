-- The rows that `copy_rows` wrote are those of the list.
use mathlib.Core.Path.{refl}
use Rattle.prefixes.proofs.Rows.{reply-of-list}
use Rattle.prefixes.proofs.query_rows.Goals as goal

pub returns : goal.returns
returns g c = reply-of-list c.args.list.now _ _ _ _ _ c.copy_rows.ensures refl refl refl c.ask.ensures
