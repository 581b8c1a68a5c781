-- Cases of mending, in one list: what the definitions give, and what is expected. proofs/MendCases has the one proof.
--
-- A plan is shown as its own numbers, three to a write, and a refusal as 0, its number and its place.
use Rattle.std.specs.Prelude.{ℕ, List, [], ◌∷◌, replicate, take}
use Rattle.route.specs.Rule.{route}
use Rattle.tcam.specs.Slots.{Cell, cell, free, tag_of}
use Rattle.tcam.specs.Tables.{addresses, tags}
use Rattle.tcam.specs.Plans.{Write, Planned, refuses, writes, numbers}
use Rattle.tcam.specs.Applies.{written}
use Rattle.tcam.specs.Mend.{plan_mend}
use Rattle.claims.specs.Board.{ip, set_writes, remove_writes, table_after, eight_slots}

abbrev pub shown : Planned → List ℕ
shown (refuses n p) = 0 ∷ n ∷ p ∷ []
shown (writes ws) = numbers ws

-- the mend of a table, with so much room
abbrev pub mend_with : ℕ → List Cell → List ℕ
mend_with room cs = shown (plan_mend 32 (addresses cs) (tags cs) room)

abbrev pub mend : List Cell → List ℕ
mend cs = mend_with 54 cs

-- a table after the first k writes of a plan
abbrev pub cut_to : ℕ → List Cell → List Write → List Cell
cut_to k cs ws = written cs (take k ws)

-- the board's table before its /32 is set, a plan of three writes
abbrev pub before_the32 : List Cell
before_the32 = table_after (replicate 8 free) (route (ip 10 0 0 0) 8 1 ∷ route (ip 10 20 0 0) 16 2 ∷ route (ip 10 20 4 0) 24 3 ∷ [])

abbrev pub cut_of32 : ℕ → List Cell
cut_of32 k = cut_to k before_the32 (set_writes before_the32 (route (ip 10 20 4 9) 32 2))

-- case g, the removal of the /24, a plan of two writes
abbrev pub cut_of24 : ℕ → List Cell
cut_of24 k = cut_to k eight_slots (remove_writes eight_slots (ip 10 20 4 0) 24)

-- below the pool: two /12, and a /8 that is set
abbrev pub two_of12 : List Cell
two_of12 = table_after (replicate 8 free) (route (ip 10 0 0 0) 12 5 ∷ route (ip 10 16 0 0) 12 6 ∷ [])

abbrev pub cut_of8 : ℕ → List Cell
cut_of8 k = cut_to k two_of12 (set_writes two_of12 (route (ip 11 0 0 0) 8 4))

-- an entry of 10.20.0.0/16
abbrev pub entry : ℕ → Cell
entry hop = cell (ip 10 20 0 0) (tag_of 16 hop)

-- cuts of the /32 after no write, one, two, all three; of the removed /24; of the /8, where the edge move writes an entry on itself. Then
-- another tag; a third copy; S1 to S4 before any repeat; no slots; room for one write of two
abbrev pub got : List (List ℕ)
got =
    mend (cut_of32 0) ∷ mend (cut_of32 1) ∷ mend (cut_of32 2) ∷ mend (cut_of32 3)
    ∷ mend (cut_of24 0) ∷ mend (cut_of24 1) ∷ mend (cut_of24 2)
    ∷ mend (cut_of8 0) ∷ mend (cut_of8 1) ∷ mend (cut_of8 2)
    ∷ mend (entry 2 ∷ entry 3 ∷ free ∷ [])
    ∷ mend (entry 2 ∷ entry 2 ∷ entry 2 ∷ free ∷ [])
    ∷ mend (entry 2 ∷ entry 3 ∷ free ∷ entry 4 ∷ [])
    ∷ mend []
    ∷ mend_with 5 (cut_of8 1)
    ∷ []

abbrev pub expected : List (List ℕ)
expected =
    [] ∷ (2 ∷ 0 ∷ 0 ∷ []) ∷ (1 ∷ ip 10 20 0 0 ∷ tag_of 16 2 ∷ 2 ∷ 0 ∷ 0 ∷ []) ∷ []
    ∷ [] ∷ (2 ∷ 0 ∷ 0 ∷ []) ∷ []
    ∷ [] ∷ (7 ∷ ip 10 0 0 0 ∷ tag_of 12 5 ∷ 5 ∷ 0 ∷ 0 ∷ []) ∷ []
    ∷ (0 ∷ 7 ∷ 1 ∷ [])
    ∷ (0 ∷ 7 ∷ 2 ∷ [])
    ∷ (0 ∷ 7 ∷ 3 ∷ [])
    ∷ (0 ∷ 8 ∷ 0 ∷ [])
    ∷ (0 ∷ 9 ∷ 0 ∷ [])
    ∷ []
