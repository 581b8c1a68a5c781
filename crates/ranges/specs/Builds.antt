-- What is built from a list: the answer, and the lent output rows afterwards.
use Rattle.std.specs.Prelude.{◌≡◌, ℕ, ◌||◌, List, length, nat_lt}
use Rattle.route.specs.Refusals.{fault_if, ◌then◌, Answer, value, refused, unless_fault, room_refusal}
use Rattle.route.specs.Lists.{routes, rows_fault}
use Rattle.route.specs.Rows.{overwritten}
use Rattle.ranges.specs.Ranges.{Range, ranges_of, starts_of, hops_of}

-- an output row after a call: what was built, then the cells past it as found; the row as it was where the call is refused
abbrev pub output_after : Answer → List ℕ → List ℕ → List ℕ
output_after (value n) built row = overwritten built row
output_after (refused n p) built row = row

-- the table of a list
abbrev pub table_of : ℕ → List ℕ → List ℕ → List ℕ → List Range
table_of W ad ns hs = ranges_of W (routes ad ns hs)

-- build ranges: refusals 8, 1 to 4, 9 in this order, or the number of ranges; the outputs have room for so many starts and hops
abbrev pub ranges_answer : ℕ → List ℕ → List ℕ → List ℕ → ℕ → ℕ → Answer
ranges_answer W ad ns hs room_starts room_hops =
    unless_fault (rows_fault W ad ns hs then fault_if (nat_lt room_starts count || nat_lt room_hops count) room_refusal 0) (value count)
  where
    count : ℕ
    count = length (table_of W ad ns hs)

-- each output row after a build
abbrev pub built_starts : ℕ → List ℕ → List ℕ → List ℕ → List ℕ → List ℕ → List ℕ
built_starts W ad ns hs ss rh = output_after (ranges_answer W ad ns hs (length ss) (length rh)) (starts_of (table_of W ad ns hs)) ss

abbrev pub built_hops : ℕ → List ℕ → List ℕ → List ℕ → List ℕ → List ℕ → List ℕ
built_hops W ad ns hs ss rh = output_after (ranges_answer W ad ns hs (length ss) (length rh)) (hops_of (table_of W ad ns hs)) rh

-- what a build answers, and both output rows after it
pub record IsBuilt (W : ℕ) (ad ns hs ss rh : List ℕ) (answer : Answer) (ss' rh' : List ℕ) : Type 0 where
  pub answers : answer ≡ ranges_answer W ad ns hs (length ss) (length rh)
  pub starts : ss' ≡ built_starts W ad ns hs ss rh
  pub hops : rh' ≡ built_hops W ad ns hs ss rh
