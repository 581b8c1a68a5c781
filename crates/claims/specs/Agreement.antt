-- Demand 2: every structure built from one set of prefixes gives, for every address, the next hop of the longest matching prefix, and
-- none exactly where no prefix matches. The structures are the list, the slots, the merged ranges and DXR, for every width W and split S.
use Rattle.std.specs.Prelude.{ℕ, ◌+◌, ◌-◌, ◌*◌, ◌^◌, ◌≤◌, ◌<◌, ◌≡◌, ◌↔◌, List, [], ◌∷◌, ◌++◌, map, length}
use Rattle.route.specs.Rule.{Route, answer}
use Rattle.route.specs.Refusals.{fine, value}
use Rattle.route.specs.RightHop.{◌∈◌, Right}
use Rattle.route.specs.Lists.{routes, rows_fault, list_lookup}
use Rattle.route.specs.Limits.{max_hop, max_routes}
use Rattle.route.specs.RowsOfSet.{Valid, Distinct, RowsOfSet}
use Rattle.route.specs.Shown.{route_of}
use Rattle.route.specs.declared.Route.{Route as RouteStruct}
use Rattle.prefixes.specs.Prefixes.{prefixes_check, prefixes_lookup}
use Rattle.tcam.specs.Slots.{max_slots, Cell, slot_lookup}
use Rattle.tcam.specs.Tables.{addresses, tags, TableOf}
use Rattle.ranges.specs.Ranges.{Range, range, ranges_of, starts_of, hops_of, table_fault, hop_at, range_lookup}
use Rattle.dxr.specs.Dxr.{table_words, table_main, dxr_lookup}
use Rattle.dxr.specs.Splits.{Split}
use Rattle.dxr.specs.Builds.{words_of, main_of}

-- every address of a row is one of W bits
abbrev pub Addresses : ℕ → List ℕ → Type 0
Addresses W ad = (a : ℕ) → a ∈ ad → a < 2 ^ W

-- the answer h for q is right, the list gives it, so do the slots of every table of the set, so do its merged ranges, and so does its DXR
-- table, whatever a row has behind its range words
pub record Agree (W : ℕ) (ad ns hs : List ℕ) (q h : ℕ) : Type 0 where
  pub right : Right W (routes ad ns hs) q h
  pub list : list_lookup W ad ns hs q ≡ value h
  pub slots : (addresses tags : List ℕ) → TableOf W (routes ad ns hs) addresses tags → slot_lookup W addresses tags q ≡ value h
  pub ranges : Addresses W ad → q < 2 ^ W →
      range_lookup (starts_of (ranges_of W (routes ad ns hs))) (hops_of (ranges_of W (routes ad ns hs))) q ≡ value h
  pub dxr : (S : ℕ) → Split W S → Addresses W ad → q < 2 ^ W → (rest : List ℕ) →
      dxr_lookup W S (main_of W S ad ns hs) (words_of W S ad ns hs ++ rest) q ≡ value h

-- what is built from a set fits its rows: starts of W bits, no hop over the limit, main words and range words of 32 bits, and at most
-- 12,288 range words; P routes give at most 2P + 1 ranges, at most 2P - 1 if length 0 is among them
pub record Fits (W : ℕ) (rs : List Route) : Type 0 where
  pub starts : (x : ℕ) → x ∈ starts_of (ranges_of W rs) → x < 2 ^ W
  pub hops : (x : ℕ) → x ∈ hops_of (ranges_of W rs) → x ≤ max_hop
  pub main : (S : ℕ) → Split W S → (x : ℕ) → x ∈ table_main W S (ranges_of W rs) → x < 2 ^ 32
  pub words : (S : ℕ) → Split W S → (x : ℕ) → x ∈ table_words W S (ranges_of W rs) → x < 2 ^ 32
  pub room : (S : ℕ) → Split W S → length (table_words W S (ranges_of W rs)) ≤ 12288
  pub few : length (ranges_of W rs) ≤ 2 * length rs + 1
  pub fewer : (r : Route) → r ∈ rs → r.length ≡ 0 → length (ranges_of W rs) ≤ 2 * length rs - 1

-- a table that keeps the range rules and gives every address the answer of the set
pub record RangesFor (W : ℕ) (rs : List Route) (t : List Range) : Type 0 where
  pub rules : table_fault t ≡ fine
  pub below : (x : ℕ) → x ∈ starts_of t → x < 2 ^ W
  pub answers : (q : ℕ) → q < 2 ^ W → hop_at 0 t q ≡ answer W rs q

-- a list that is one slice of prefixes, in the words of their routes: those that are accepted are those of a set, and such a list
-- answers every address, right
pub record SetOfPrefixes (W : ℕ) (ps : List RouteStruct) : Type 0 where
  pub few : length ps ≤ max_routes
  pub valid : (r : Route) → r ∈ map route_of ps → Valid W r
  pub distinct : Distinct (map route_of ps)

pub record PrefixList (W : ℕ) (ps : List RouteStruct) : Type 0 where
  pub premise : (prefixes_check W ps ≡ value (length ps)) ↔ SetOfPrefixes W ps
  pub right : SetOfPrefixes W ps → (q : ℕ) → Right W (map route_of ps) q (answer W (map route_of ps) q)
  pub list : SetOfPrefixes W ps → (q : ℕ) → prefixes_lookup W ps q ≡ value (answer W (map route_of ps) q)

-- the lists that are accepted are those of a set; such a list and all that is built from it answer every address, right; no other answer
-- is right; the same holds of a list that is one slice of prefixes; its merged ranges are the one table for it; what is built fits; and
-- the ranges of no routes are one without a hop
pub record Demand2 : Type 0 where
  pub premise : (W : ℕ) (ad ns hs : List ℕ) → (rows_fault W ad ns hs ≡ fine) ↔ RowsOfSet W ad ns hs
  pub agree : (W : ℕ) (ad ns hs : List ℕ) → RowsOfSet W ad ns hs → (q : ℕ) → Agree W ad ns hs q (answer W (routes ad ns hs) q)
  pub only : (W : ℕ) (ad ns hs : List ℕ) → RowsOfSet W ad ns hs → (q h : ℕ) → Right W (routes ad ns hs) q h → h ≡ answer W (routes ad ns hs) q
  pub prefixes : (W : ℕ) (ps : List RouteStruct) → PrefixList W ps
  pub table : (W : ℕ) (ad ns hs : List ℕ) → RowsOfSet W ad ns hs → Addresses W ad → (t : List Range) →
      RangesFor W (routes ad ns hs) t ↔ (t ≡ ranges_of W (routes ad ns hs))
  pub fits : (W : ℕ) (ad ns hs : List ℕ) → RowsOfSet W ad ns hs → Addresses W ad → Fits W (routes ad ns hs)
  pub empty : (W : ℕ) → ranges_of W [] ≡ range 0 0 ∷ []

-- a set of at most M valid routes has a table of M slots, got by setting them one by one; so there are tables for `slots` of `Agree`
abbrev pub HasTable : ℕ → Type 0
HasTable W =
    (M : ℕ) → 1 ≤ M → M ≤ max_slots → (rs : List Route) → ((r : Route) → r ∈ rs → Valid W r) → Distinct rs → length rs ≤ M →
    (cs : List Cell) × (length cs ≡ M) × TableOf W rs (addresses cs) (tags cs)
