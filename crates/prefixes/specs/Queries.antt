-- What the contracts of the functions under the two calls speak of. The contracts of the calls cite none of it.
use Rattle.std.specs.Prelude.{ℕ, ◌≡◌, List, ◌++◌}
use Rattle.std.specs.Borrow.{Bor}
use Rattle.std.specs.Fn.{Once, FnOnceReturns}
use Rattle.route.specs.declared.Route.{Route as RouteStruct}
use Rattle.prefixes.specs.Prefixes.{address_row, length_row, hop_row}

-- the rows of a list, one behind the other
abbrev pub three_rows : List RouteStruct → List ℕ
three_rows ps = address_row ps ++ (length_row ps ++ hop_row ps)

-- r is a result that the call of f at the rows of a list may give
pub record ReturnsAtRows {F R : Type 0} (g : Once F (Bor (List ℕ) × (Bor (List ℕ) × (Bor (List ℕ) × Unit {0}))) R) (f : F) (ps : List RouteStruct) (r : R) : Type 0 where
  pub addresses : Bor (List ℕ)
  pub lengths : Bor (List ℕ)
  pub hops : Bor (List ℕ)
  pub address_row : addresses.now ≡ address_row ps
  pub length_row : lengths.now ≡ length_row ps
  pub hop_row : hops.now ≡ hop_row ps
  pub returns : FnOnceReturns g f (addresses, (lengths, (hops, tt))) r
