-- The routes of a list as the code holds it.
use Rattle.std.specs.Prelude.{List}
use Rattle.route.specs.Rule.{Route}
use Rattle.route.specs.Lists.{routes}
use Rattle.route.specs.declared.list.List.{List as InRows}

abbrev pub routes_of : InRows → List Route
routes_of l = routes l.addresses.now l.lengths.now l.hops.now
