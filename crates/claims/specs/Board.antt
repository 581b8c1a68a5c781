-- The board cases that are to be proved, in one list: what the definitions give, and what is expected. proofs/Board has the one proof.
--
-- Each is a row of numbers. The plain answer is one number. A table is shown slot by slot; a plan as its own numbers, three to a write; a
-- range as its start and its hop; a chunk as its main word and its range words.
use Rattle.std.specs.Prelude.{ℕ, ◌+◌, ◌*◌, List, [], ◌∷◌, ◌++◌, map, length, get_or, replicate}
use Rattle.route.specs.Rule.{Route, route}
use Rattle.route.specs.Refusals.{Answer, value, refused}
use Rattle.route.specs.Lists.{list_lookup}
use Rattle.route.specs.declared.Route.{Route as RouteStruct}
use Rattle.prefixes.specs.Prefixes.{prefixes_lookup}
use Rattle.tcam.specs.Slots.{Cell, free, length_in, hop_in}
use Rattle.tcam.specs.Tables.{addresses, tags}
use Rattle.tcam.specs.Plans
use Rattle.tcam.specs.Plans.{Write, Planned, refuses, writes, most_to_set, most_to_remove, plan_set, plan_remove}
use Rattle.tcam.specs.Applies.{written}
use Rattle.ranges.specs.Ranges.{Range, ranges_of}
use Rattle.dxr.specs.Dxr.{part_of}
use Rattle.dxr.specs.Builds.{main_of, words_of}
use Rattle.history.specs.Reports.{plan_room}

-- an address by its four octets
abbrev pub ip : ℕ → ℕ → ℕ → ℕ → ℕ
ip a b c d = ((a * 256 + b) * 256 + c) * 256 + d

-- set P without its /0, whole, and without its /32
abbrev pub without_default : List Route
without_default = route (ip 10 0 0 0) 8 1 ∷ route (ip 10 20 0 0) 16 2 ∷ route (ip 10 20 4 0) 24 3 ∷ route (ip 10 20 4 9) 32 2 ∷ []

abbrev pub set_p : List Route
set_p = without_default ++ (route 0 0 7 ∷ [])

abbrev pub without32 : List Route
without32 = route (ip 10 0 0 0) 8 1 ∷ route (ip 10 20 0 0) 16 2 ∷ route (ip 10 20 4 0) 24 3 ∷ route 0 0 7 ∷ []

-- an answer as a row of numbers
abbrev pub numbers : Answer → List ℕ
numbers (value v) = v ∷ []
numbers (refused n p) = 0 ∷ n ∷ p ∷ []

-- the plain answer over the list of these routes
abbrev pub found : List Route → ℕ → List ℕ
found rs q = numbers (list_lookup 32 (map (λ r. r.address) rs) (map (λ r. r.length) rs) (map (λ r. r.hop) rs) q)

-- the same over the list as one slice of prefixes
abbrev pub struct_of : Route → RouteStruct
struct_of r = record { prefix = record { address = r.address; length = record { 0 = r.length } }; hop = record { 0 = r.hop } }

abbrev pub found_in_slice : List Route → ℕ → List ℕ
found_in_slice rs q = numbers (prefixes_lookup 32 (map struct_of rs) q)

-- the writes of a plan; none where it is refused
abbrev pub made : Planned → List Write
made (refuses n p) = []
made (writes ws) = ws

-- plan the set of a route into a row with room for every plan, and plan the removal of a prefix
abbrev pub set_writes : List Cell → Route → List Write
set_writes cs r = made (plan_set 32 (addresses cs) (tags cs) r.address r.length r.hop plan_room)

abbrev pub remove_writes : List Cell → ℕ → ℕ → List Write
remove_writes cs a n = made (plan_remove 32 (addresses cs) (tags cs) a n plan_room)

-- the routes set in turn, each plan applied whole: how many writes each has, and the table after
abbrev pub counts : List Cell → List Route → List ℕ
counts cs [] = []
counts cs (r ∷ rs) = length (set_writes cs r) ∷ counts (written cs (set_writes cs r)) rs

abbrev pub table_after : List Cell → List Route → List Cell
table_after cs [] = cs
table_after cs (r ∷ rs) = table_after (written cs (set_writes cs r)) rs

abbrev pub eight_slots : List Cell
eight_slots = table_after (replicate 8 free) set_p

-- what a table's slots hold: prefix and hop, each in three numbers, all 0 where free
abbrev pub shown_slots : List Cell → List ℕ
shown_slots [] = []
shown_slots (c ∷ cs) = c.address ∷ length_in c ∷ hop_in c ∷ shown_slots cs

-- the ranges of a table: start and hop of each
abbrev pub shown_ranges : List Range → List ℕ
shown_ranges [] = []
shown_ranges (r ∷ rs) = r.start ∷ r.hop ∷ shown_ranges rs

-- chunk c as the build of a set's list leaves it, with a 16-bit split: cell c of the main table, then the part of the range words to which
-- that points
abbrev pub main_row : List Route → List ℕ
main_row rs = main_of 32 16 (map (λ r. r.address) rs) (map (λ r. r.length) rs) (map (λ r. r.hop) rs)

abbrev pub word_row : List Route → List ℕ
word_row rs = words_of 32 16 (map (λ r. r.address) rs) (map (λ r. r.length) rs) (map (λ r. r.hop) rs)

abbrev pub shown_chunk : List Route → ℕ → List ℕ
shown_chunk rs c = get_or (main_row rs) c 0 ∷ part_of (get_or (main_row rs) c 0) (word_row rs)

-- cases a to d, e; b and e over one slice; f, g, h, i, j; then the most writes of a set and of a removal over 32 bits
abbrev pub got : List (List ℕ)
got =
    found set_p (ip 10 20 4 9)
    ∷ found set_p (ip 10 20 4 10)
    ∷ found set_p (ip 10 20 5 0)
    ∷ found set_p (ip 255 255 255 255)
    ∷ found without_default (ip 11 0 0 0)
    ∷ (found_in_slice set_p (ip 10 20 4 10) ++ found_in_slice without_default (ip 11 0 0 0))
    ∷ counts (replicate 8 free) set_p
    ∷ shown_slots eight_slots
    ∷ Plans.numbers (remove_writes eight_slots (ip 10 20 4 0) 24)
    ∷ shown_ranges (ranges_of 32 set_p)
    ∷ shown_chunk set_p 2580
    ∷ shown_chunk without32 2580
    ∷ (most_to_set 32 ∷ most_to_remove 32 ∷ [])
    ∷ []

abbrev pub expected : List (List ℕ)
expected =
    (2 ∷ [])
    ∷ (3 ∷ [])
    ∷ (2 ∷ [])
    ∷ (7 ∷ [])
    ∷ (0 ∷ [])
    ∷ (3 ∷ 0 ∷ [])
    ∷ (1 ∷ 1 ∷ 2 ∷ 3 ∷ 2 ∷ [])
    ∷ (ip 10 20 4 9 ∷ 32 ∷ 2 ∷ ip 10 20 4 0 ∷ 24 ∷ 3 ∷ ip 10 20 0 0 ∷ 16 ∷ 2
    ∷ 0 ∷ 0 ∷ 0 ∷ 0 ∷ 0 ∷ 0 ∷ 0 ∷ 0 ∷ 0
    ∷ ip 10 0 0 0 ∷ 8 ∷ 1 ∷ 0 ∷ 0 ∷ 7 ∷ [])
    ∷ (1 ∷ ip 10 20 0 0 ∷ (16 * 65536 + 2) ∷ 2 ∷ 0 ∷ 0 ∷ [])
    ∷ (0 ∷ 7 ∷ ip 10 0 0 0 ∷ 1 ∷ ip 10 20 0 0 ∷ 2 ∷ ip 10 20 4 0 ∷ 3 ∷ ip 10 20 4 9 ∷ 2
    ∷ ip 10 20 4 10 ∷ 3 ∷ ip 10 20 5 0 ∷ 2 ∷ ip 10 21 0 0 ∷ 1 ∷ ip 11 0 0 0 ∷ 7 ∷ [])
    ∷ (1074069504 ∷ 2 ∷ 67108867 ∷ 67698690 ∷ 67764227 ∷ 83886082 ∷ [])
    ∷ (2147680256 ∷ 132099 ∷ 84017152 ∷ [])
    ∷ (17 ∷ 18 ∷ [])
    ∷ []
