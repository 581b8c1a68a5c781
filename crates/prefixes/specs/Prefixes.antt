-- The plain answer over a list that is lent as one slice of prefixes: that of its rows.
use Rattle.std.specs.Prelude.{ℕ, List, map}
use Rattle.route.specs.Refusals.{Answer}
use Rattle.route.specs.Lists.{list_check, list_lookup}
use Rattle.route.specs.declared.Route.{Route as RouteStruct}

-- the rows of a list of prefixes
abbrev pub address_row : List RouteStruct → List ℕ
address_row ps = map (λ (r : RouteStruct). r.prefix.address) ps

abbrev pub length_row : List RouteStruct → List ℕ
length_row ps = map (λ (r : RouteStruct). r.prefix.length.0) ps

abbrev pub hop_row : List RouteStruct → List ℕ
hop_row ps = map (λ (r : RouteStruct). r.hop.0) ps

-- test a list of prefixes: refusals 8 and 1 to 4, or the number of entries
abbrev pub prefixes_check : ℕ → List RouteStruct → Answer
prefixes_check W ps = list_check W (address_row ps) (length_row ps) (hop_row ps)

-- look q up: refusals 8 and 1 to 4, or the answer
abbrev pub prefixes_lookup : ℕ → List RouteStruct → ℕ → Answer
prefixes_lookup W ps q = list_lookup W (address_row ps) (length_row ps) (hop_row ps) q
