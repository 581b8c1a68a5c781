-- Demand 2 holds: the routes are a set, whose longest match is right, and is what the list, the slots, the merged ranges and DXR answer.
use Prim.Native.Nat.{ℕ, ◌^◌, ◌≤◌, ◌<◌}
use mathlib.Core.Path.{◌≡◌, refl, sym, ap, ◌∙◌, subst⁻¹}
use mathlib.Core.Logic.{◌↔◌}
use mathlib.Core.List.{List}
use lib.ListN.{length, length-map}
use Rattle.route.specs.Limits.{max_routes}
use Rattle.route.specs.Rule.{answer}
use Rattle.route.specs.Refusals.{value}
use Rattle.route.specs.Lists.{routes}
use Rattle.route.specs.RowsOfSet.{RowsOfSet}
use Rattle.route.proofs.RouteSet.{RouteSet, route_set}
use Rattle.route.proofs.Accepted.{rows_of_set, counted-fine}
use Rattle.route.proofs.Entries.{routes-length, routes-addresses}
use Rattle.route.proofs.LongestMatch.{right, only}
use Rattle.route.specs.declared.Route.{Route as RouteStruct}
use Rattle.prefixes.specs.Prefixes.{address_row, length_row, hop_row}
use Rattle.prefixes.proofs.Prefixes.{equal-rows, routes-of-rows}
use Rattle.tcam.proofs.SlotsAgree.{slots_agree}
use Rattle.ranges.specs.Ranges.{Range, ranges_of}
use Rattle.ranges.proofs.Boundaries.{Placed}
use Rattle.ranges.proofs.RangesAgree.{ranges_agree, ranges_fine, ranges_only, ranges_hop, ranges_below, ranges_small, ranges_few, ranges_fewer}
use Rattle.dxr.proofs.DxrAgrees.{dxr_agree, main_fit, words_fit, words_few}
use Rattle.claims.specs.Agreement.{Addresses, Agree, Fits, RangesFor, SetOfPrefixes, PrefixList, Demand2}

module _ (W : ℕ) (ad ns hs : List ℕ) (s : RowsOfSet W ad ns hs) where
  set : RouteSet W (routes ad ns hs)
  set = route_set W (routes ad ns hs) s.valid s.distinct

  few : length (routes ad ns hs) ≤ max_routes
  few = subst⁻¹ (λ n. n ≤ max_routes) (routes-length ad ns hs s.equal) s.few

  placed : Addresses W ad → Placed W (routes ad ns hs)
  placed small = routes-addresses (λ a. a < 2 ^ W) ad ns hs small

  agree : (q : ℕ) → Agree W ad ns hs q (answer W (routes ad ns hs) q)
  agree q = record {
    right = right W (routes ad ns hs) q set;
    list = rw ((rows_of_set W ad ns hs).1 s);
    slots = slots_agree W (routes ad ns hs) q set;
    ranges = λ small below. ranges_agree W (routes ad ns hs) s.valid (placed small) q below few;
    dxr = λ S split small below rest. dxr_agree W S split (routes ad ns hs) few s.valid (placed small) rest q below;
  }

  table : Addresses W ad → (t : List Range) → RangesFor W (routes ad ns hs) t ↔ (t ≡ ranges_of W (routes ad ns hs))
  table small t = (
    (λ f. ranges_only W (routes ad ns hs) s.valid (placed small) t f.rules f.below f.answers),
    (λ e. subst⁻¹ (RangesFor W (routes ad ns hs)) e (record {
      rules = ranges_fine W (routes ad ns hs) s.valid (placed small);
      below = ranges_below W (routes ad ns hs) s.valid (placed small);
      answers = ranges_hop W (routes ad ns hs) s.valid (placed small);
    })),
  )

  fits : Addresses W ad → Fits W (routes ad ns hs)
  fits small = record {
    starts = ranges_below W (routes ad ns hs) s.valid (placed small);
    hops = ranges_small W (routes ad ns hs) s.valid (placed small);
    main = λ S split. main_fit W S split (routes ad ns hs) few s.valid (placed small);
    words = λ S split. words_fit W S split (routes ad ns hs) few s.valid (placed small);
    room = λ S split. words_few W S split (routes ad ns hs) few s.valid (placed small);
    few = ranges_few W (routes ad ns hs);
    fewer = λ r m e. ranges_fewer W (routes ad ns hs) r m (s.valid r m) e (placed small r m);
  }

module _ (W : ℕ) (ps : List RouteStruct) where
  abbrev ad : List ℕ
  ad = address_row ps

  abbrev ns : List ℕ
  ns = length_row ps

  abbrev hs : List ℕ
  hs = hop_row ps

  -- the rows of the prefixes are those of a set exactly where the routes are
  set_of_prefixes : RowsOfSet W ad ns hs → SetOfPrefixes W ps
  set_of_prefixes s = record {
    few = rw length-map at s.few;
    valid = rw (routes-of-rows ps) at s.valid;
    distinct = rw (routes-of-rows ps) at s.distinct;
  }

  rows_of_prefixes : SetOfPrefixes W ps → RowsOfSet W ad ns hs
  rows_of_prefixes s = record {
    equal = equal-rows ps;
    few = rw length-map s.few;
    valid = rw (routes-of-rows ps) s.valid;
    distinct = rw (routes-of-rows ps) s.distinct;
  }

  prefixes : PrefixList W ps
  prefixes = record {
    premise = (
      (λ e. set_of_prefixes ((rows_of_set W ad ns hs).0 (counted-fine W ad ns hs (sym e)))),
      (λ s. rw ((rows_of_set W ad ns hs).1 (rows_of_prefixes s)) (ap value (length-map ps _))),
    );
    right = λ s q. rw (routes-of-rows ps) at (agree W ad ns hs (rows_of_prefixes s) q).right;
    list = λ s q. (agree W ad ns hs (rows_of_prefixes s) q).list ∙ ap (λ rs. value (answer W rs q)) (routes-of-rows ps);
  }

pub demand2 : Demand2
demand2 = record {
  premise = rows_of_set;
  agree = agree;
  only = λ W ad ns hs s q. only W (routes ad ns hs) q (set W ad ns hs s);
  prefixes = prefixes;
  table = table;
  fits = fits;
  empty = λ W. refl;
}
