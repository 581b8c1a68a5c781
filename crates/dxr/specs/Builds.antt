-- A DXR table built from a list: the answer, and the lent main table and range words afterwards.
use Rattle.std.specs.Prelude.{ℕ, ◌≡◌, List, ltb, length}
use Rattle.route.specs.Refusals.{fault_if, ◌then◌, Answer, value, unless_fault, room_refusal}
use Rattle.route.specs.Lists.{rows_fault}
use Rattle.ranges.specs.Builds.{output_after, table_of}
use Rattle.dxr.specs.Dxr.{table_words, table_main, main_fault}

-- the range words and the main words of a list
abbrev pub words_of : ℕ → ℕ → List ℕ → List ℕ → List ℕ → List ℕ
words_of W S ad ns hs = table_words W S (table_of W ad ns hs)

abbrev pub main_of : ℕ → ℕ → List ℕ → List ℕ → List ℕ → List ℕ
main_of W S ad ns hs = table_main W S (table_of W ad ns hs)

-- build DXR: refusals 8, 1 to 4, 9 in this order, or the number of range words; the outputs are a main table and a row of range words
abbrev pub dxr_answer : ℕ → ℕ → List ℕ → List ℕ → List ℕ → List ℕ → List ℕ → Answer
dxr_answer W S ad ns hs main ws =
    unless_fault (main_fault S main then rows_fault W ad ns hs then fault_if (ltb (length ws) count) room_refusal 0) (value count)
  where
    count : ℕ
    count = length (words_of W S ad ns hs)

-- each output row after a build
abbrev pub built_main : ℕ → ℕ → List ℕ → List ℕ → List ℕ → List ℕ → List ℕ → List ℕ
built_main W S ad ns hs main ws = output_after (dxr_answer W S ad ns hs main ws) (main_of W S ad ns hs) main

abbrev pub built_words : ℕ → ℕ → List ℕ → List ℕ → List ℕ → List ℕ → List ℕ → List ℕ
built_words W S ad ns hs main ws = output_after (dxr_answer W S ad ns hs main ws) (words_of W S ad ns hs) ws

-- what a build answers, and both output rows after it
pub record IsBuilt (W S : ℕ) (ad ns hs ms ws : List ℕ) (answer : Answer) (ms' ws' : List ℕ) : Type 0 where
  pub answers : answer ≡ dxr_answer W S ad ns hs ms ws
  pub main : ms' ≡ built_main W S ad ns hs ms ws
  pub words : ws' ≡ built_words W S ad ns hs ms ws
