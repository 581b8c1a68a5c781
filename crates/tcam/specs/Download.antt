-- The download: the prefixes of a table read out one by one, in order of address, then length, while updates go on.
--
-- A call is told the prefix that was given last, or the start, and answers the least one past it that stands in the image as it is now,
-- or the end. Nothing is kept between two calls, so nothing is locked: whatever was written in between, the prefixes past the last one
-- are still to come and the others never come again. A half-written image may hold a prefix in two slots; the first one's tag is given.
-- A call asks for S1 alone, as a lookup does.
use Rattle.std.specs.Prelude.{ℕ, Bool, true, cond, not, ◌&&◌, List, [], ◌∷◌}
use Rattle.std.proofs.Math.Option.{Option, none, some}
use Rattle.route.specs.PrefixOrder.{comes_before}
use Rattle.route.specs.Refusals.{Verdict, fine, fault, ◌then◌, prefix_fault}
use Rattle.tcam.specs.Slots.{Cell, cells, is_free, length_in, slot_fault, size_fault}

-- what a call asks from: the start, or past the prefix given last
pub data From : Type 0 where
  start : From
  past : (a n : ℕ) → From

-- whether the prefix a/n is still to come
abbrev pub is_to_come : From → ℕ → ℕ → Bool
is_to_come start a n = true
is_to_come (past b m) a n = comes_before b m a n

-- whether the slot is used, and its prefix still to come
abbrev pub is_ahead : From → Cell → Bool
is_ahead from c = not (is_free c) && is_to_come from c.address (length_in c)

-- the one of two entries that comes first; where both have one prefix, the first of the two
abbrev pub sooner : Option Cell → Option Cell → Option Cell
sooner none o = o
sooner (some c) none = some c
sooner (some c) (some d) = cond (comes_before d.address (length_in d) c.address (length_in c)) (some d) (some c)

-- the next entry of an image: the first of those ahead, from its first slot
abbrev pub next_in : From → List Cell → Option Cell
next_in from [] = none
next_in from (c ∷ cs) = sooner (cond (is_ahead from c) (some c) none) (next_in from cs)

-- what a call answers: an entry, the end, or a refusal
pub data Next : Type 0 where
  entry : (address length tag : ℕ) → Next
  end : Next
  refusal : (number place : ℕ) → Next

-- the next entry, if there is one, as an answer
abbrev pub entry_or_end : Option Cell → Next
entry_or_end none = end
entry_or_end (some c) = entry c.address (length_in c) c.tag

-- the answer, unless a test found a fault
abbrev pub next_unless : Verdict → Next → Next
next_unless fine r = r
next_unless (fault n p) r = refusal n p

-- refusals 1 and 2 of the prefix asked from; the start has none
abbrev pub from_fault : ℕ → From → Verdict
from_fault W start = fine
from_fault W (past a n) = prefix_fault W 0 a n

-- ask for the next entry: refusals 8, 7, 1, 2 in this order, or the entry, or the end
abbrev pub download : ℕ → List ℕ → List ℕ → From → Next
download W ad ts from =
    next_unless (size_fault ad ts then slot_fault W 0 (cells ad ts) then from_fault W from) (entry_or_end (next_in from (cells ad ts)))
