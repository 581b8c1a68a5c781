-- The definitions give each board case what is expected: both sides compute to the same rows. A chunk is first read out of the built rows by
-- the law of where it stands, since the whole main table is not worked out.
use Prim.Native.Nat.{ℕ}
use mathlib.Core.Path.{◌≡◌, ap, ◌∙◌}
use mathlib.Core.List.{List, ◌∷◌, [], ◌++◌}
use native.Mathlib.Omega.{arith}
use lib.ListN.{length, get_or, take, drop}
use Rattle.ranges.specs.Ranges.{Range, ranges_of}
use Rattle.dxr.specs.Dxr.{chunk, words, main_word, all_words, table_main, table_words, part_of}
use Rattle.dxr.proofs.DxrTable.{shown_in}
use Rattle.claims.specs.Board.{set_p, without32, shown_chunk, got, expected}

-- chunk 2580 of the built rows, its main word and its range words worked out
module _ (t : List Range) where
  abbrev read : ℕ → List ℕ → List ℕ
  read w ws = w ∷ part_of w ws

  there : (rest : List ℕ) × (get_or (table_main 32 16 t) 2580 0 ≡ main_word (chunk 32 16 t 2580) (length (all_words 32 16 t 2580)))
      × (table_words 32 16 t ≡ all_words 32 16 t 2580 ++ (words (chunk 32 16 t 2580) ++ rest))
  there = shown_in 32 16 t 2580 (omega arith)

  shown : read (get_or (table_main 32 16 t) 2580 0) (table_words 32 16 t)
      ≡ read (main_word (chunk 32 16 t 2580) (length (all_words 32 16 t 2580))) (all_words 32 16 t 2580 ++ (words (chunk 32 16 t 2580) ++ there.0))
  shown = ap (λ (w : ℕ). read w (table_words 32 16 t)) there.1
      ∙ ap (read (main_word (chunk 32 16 t 2580) (length (all_words 32 16 t 2580)))) there.2

-- cases i and j, by their row on the board
case_i : shown_chunk set_p 2580 ≡ get_or expected 10 []
case_i = shown (ranges_of 32 set_p)

case_j : shown_chunk without32 2580 ≡ get_or expected 11 []
case_j = shown (ranges_of 32 without32)

-- the list with these rows for the two cases
abbrev with : List ℕ → List ℕ → List (List ℕ)
with i j = take 10 got ++ (i ∷ j ∷ drop 12 got)

pub board : got ≡ expected
board = ap (λ (i : List ℕ). with i (shown_chunk without32 2580)) case_i ∙ ap (with (get_or expected 10 [])) case_j
