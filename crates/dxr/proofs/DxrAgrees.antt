-- The DXR table of a set answers as the set does, has few range words, and its words fit 32 bits; over any width and split.
use Prim.Native.Nat.{ℕ, ◌*◌, ◌^◌, ◌≤◌, ◌<◌}
use mathlib.Core.Path.{◌≡◌, ◌∙◌, ap}
use mathlib.Core.List.{List, ◌++◌}
use lib.ListN.{length}
use native.Mathlib.Omega.{arith}
use Rattle.route.specs.Limits.{max_routes}
use Rattle.route.specs.Rule.{Route, answer}
use Rattle.route.specs.Refusals.{fine, value}
use Rattle.route.specs.RightHop.{◌∈◌}
use Rattle.route.specs.RowsOfSet.{Valid}
use Rattle.ranges.specs.Ranges.{ranges_of, table_fault}
use Rattle.ranges.proofs.Boundaries.{Placed}
use Rattle.ranges.proofs.RangesAgree.{ranges_few, ranges_fine, ranges_hop}
use Rattle.dxr.specs.Dxr.{all_words, table_words, table_main, dxr_lookup}
use Rattle.dxr.specs.Splits.{Split}
use Rattle.dxr.proofs.ChunkWords.{Words}
use Rattle.dxr.proofs.DxrTable.{table_answers, main_words_fit, all_words_fit}
use Rattle.dxr.proofs.Room.{longer_few, room}

module _ (W S : ℕ) (split : Split W S) (rs : List Route) (few : length rs ≤ max_routes) (valid : (r : Route) → r ∈ rs → Valid W r)
    (placed : Placed W rs) where
  pub room_for_all : (c : ℕ) → length (all_words W S (ranges_of W rs) c) ≤ 3 * max_routes
  room_for_all c = omega (arith, room W S split.narrow rs valid placed c, longer_few S rs)

  pub words_few : length (table_words W S (ranges_of W rs)) ≤ 3 * max_routes
  unfolding table_words
  words_few = room_for_all (2 ^ S)

  -- so positions take 16 bits, and counts 14
  below : (c : ℕ) → length (all_words W S (ranges_of W rs) c) < 65536
  below c = omega (arith, room_for_all c)

  few_ranges : length (ranges_of W rs) < 16383
  few_ranges = omega (arith, ranges_few W rs)

  ok : table_fault (ranges_of W rs) ≡ fine
  ok = ranges_fine W rs valid placed

  pub dxr_agree : (rest : List ℕ) (q : ℕ) → q < 2 ^ W →
      dxr_lookup W S (table_main W S (ranges_of W rs)) (table_words W S (ranges_of W rs) ++ rest) q ≡ value (answer W rs q)
  dxr_agree rest q lt =
      table_answers W S split (ranges_of W rs) ok few_ranges below rest q lt
      ∙ ap value (ranges_hop W rs valid placed q lt)

  pub main_fit : Words (table_main W S (ranges_of W rs))
  unfolding table_main
  main_fit = main_words_fit W S split (ranges_of W rs) ok few_ranges below (2 ^ S)

  pub words_fit : Words (table_words W S (ranges_of W rs))
  unfolding table_words
  words_fit = all_words_fit W S split (ranges_of W rs) ok (2 ^ S)
