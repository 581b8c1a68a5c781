-- Planned updates: the writes that set or remove a prefix, in order.
--
-- A set of an absent prefix needs a free slot next to the entries of its length, and the pool is where the free slots are. So the open
-- slot is walked there: for each length between, one entry, the one at the far edge of its length, is copied into the open slot, and
-- the slot that it had is open next. Nothing is cleared on the way: the next write overwrites the old place. A removal walks its own
-- slot to the pool the other way round, and clears it there; where the removed entry is not at the edge of its own length, the edge
-- entry is moved over it first. Above the pool and below it, sets and removals are the same chain of copies.
use Rattle.std.specs.Prelude.{◌≡◌, ℕ, zero, suc, ◌+◌, ◌-◌, ◌*◌, ◌/◌, Bool, true, false, cond, not, ◌&&◌, List, [], ◌∷◌, ◌++◌, length, get_or, drop, ◌==◌, nat_le, nat_lt, slice_index_or}
use Rattle.std.proofs.Math.Option.{Option, none, some}
use Rattle.route.specs.Rule.{route}
use Rattle.route.specs.Refusals.{Verdict, fine, fault, fault_if, ◌then◌, prefix_fault, entry_fault, Answer, value, refused}
use Rattle.route.specs.Refusals.{absent_refusal, full_refusal, room_refusal}
use Rattle.tcam.specs.Slots.{Cell, cell, cells, free, is_free, length_in, tag_of, table_fault}

-- one write of a plan
pub record Write : Type 0 where
  pub slot : ℕ
  pub cell : Cell

abbrev pub write : ℕ → Cell → Write
write s c = record { slot = s; cell = c }

-- the first and the last slot with a property, counted from i
abbrev pub first_slot : (Cell → Bool) → ℕ → List Cell → Option ℕ
first_slot p i [] = none
first_slot p i (c ∷ cs) = cond (p c) (some i) (first_slot p (i + 1) cs)

abbrev pub or_else : Option ℕ → Option ℕ → Option ℕ
or_else none o = o
or_else (some s) o = some s

abbrev pub last_slot : (Cell → Bool) → ℕ → List Cell → Option ℕ
last_slot p i [] = none
last_slot p i (c ∷ cs) = or_else (last_slot p (i + 1) cs) (cond (p c) (some i) none)

abbrev pub of_length : ℕ → Cell → Bool
of_length l c = not (is_free c) && length_in c == l

abbrev pub of_prefix : ℕ → ℕ → Cell → Bool
of_prefix a n c = of_length n c && c.address == a

-- the k lengths from l on, the least first or the greatest first
abbrev pub rising : ℕ → ℕ → List ℕ
rising zero l = []
rising (suc k) l = l ∷ rising k (l + 1)

abbrev pub falling : ℕ → ℕ → List ℕ
falling zero l = []
falling (suc k) l = (l + k) ∷ falling k l

-- a length's edge entry, where it has one, is copied to the open slot, and the slot it had is open next
abbrev pub copied : List Cell → ℕ → Option ℕ → List Write
copied cs at none = []
copied cs at (some s) = write at (slice_index_or cs s free) ∷ []

abbrev pub open_after : ℕ → Option ℕ → ℕ
open_after at none = at
open_after at (some s) = s

-- the copies for each of the lengths in turn, then the last cell to the slot that is open in the end; `edge` finds a length's edge slot
abbrev pub chain : (ℕ → Option ℕ) → List Cell → List ℕ → ℕ → Cell → List Write
chain edge cs [] at last = write at last ∷ []
chain edge cs (l ∷ ls) at last = copied cs at (edge l) ++ chain edge cs ls (open_after at (edge l)) last

abbrev pub first_of_length : List Cell → ℕ → Option ℕ
first_of_length cs l = first_slot (of_length l) 0 cs

abbrev pub last_of : List Cell → ℕ → Option ℕ
last_of cs l = last_slot (of_length l) 0 cs

-- the writes that set the cell c of length n where its prefix is absent: lengths between the pool and n make room
abbrev pub set_absent : ℕ → List Cell → ℕ → Cell → List Write
set_absent W cs n c =
    cond (nat_le (W / 2) n)
    (chain (first_of_length cs) cs (rising (n - W / 2) (W / 2)) (open_after 0 (first_slot is_free 0 cs)) c)
    (chain (last_of cs) cs (falling (W / 2 - 1 - n) (n + 1)) (open_after 0 (last_slot is_free 0 cs)) c)

-- the edge entry of the same length goes to the removed slot s unless it stands there, then the gap goes to the pool
abbrev pub remove_by : (ℕ → Option ℕ) → List Cell → List ℕ → ℕ → ℕ → List Write
remove_by edge cs ls s e =
    cond (s == e) [] (write s (slice_index_or cs e free) ∷ []) ++ chain edge cs ls e free

abbrev pub remove_present : ℕ → List Cell → ℕ → ℕ → List Write
remove_present W cs n s =
    cond (nat_le (W / 2) n)
    (remove_by (last_of cs) cs (falling (n - W / 2) (W / 2)) s (open_after s (last_of cs n)))
    (remove_by (first_of_length cs) cs (rising (W / 2 - 1 - n) (n + 1)) s (open_after s (first_of_length cs n)))

-- the most writes of a plan, over the width W: one for each length between the prefix and the pool, and the last; a removal can move
-- an entry of its own length first
abbrev pub most_to_set : ℕ → ℕ
most_to_set W = W - W / 2 + 1

abbrev pub most_to_remove : ℕ → ℕ
most_to_remove W = W - W / 2 + 2

-- what a plan comes to
pub data Planned : Type 0 where
  refuses : (number place : ℕ) → Planned
  writes : List Write → Planned

-- room last: three numbers a write
abbrev pub with_room : ℕ → Verdict → List Write → Planned
with_room room (fault n p) ws = refuses n p
with_room room fine ws = cond (nat_lt room (3 * length ws)) (refuses room_refusal 0) (writes ws)

abbrev pub is_some : Option ℕ → Bool
is_some none = false
is_some (some s) = true

abbrev pub set_at : ℕ → List Cell → ℕ → Cell → ℕ → Option ℕ → Planned
set_at W cs n c room none =
    with_room room (fault_if (not (is_some (first_slot is_free 0 cs))) full_refusal 0) (set_absent W cs n c)
set_at W cs n c room (some s) =
    with_room room fine (cond ((get_or cs s free).tag == c.tag) [] (write s c ∷ []))

abbrev pub remove_at : ℕ → List Cell → ℕ → ℕ → Option ℕ → Planned
remove_at W cs n room none = refuses absent_refusal 0
remove_at W cs n room (some s) = with_room room fine (remove_present W cs n s)

abbrev pub if_fine : Verdict → Planned → Planned
if_fine fine p = p
if_fine (fault n p) q = refuses n p

-- plan a set: refusals 8, 7, 1, 2, 3, 5, 9 in this order
abbrev pub plan_set : ℕ → List ℕ → List ℕ → ℕ → ℕ → ℕ → ℕ → Planned
plan_set W ad ts a n h room =
    if_fine (table_fault W ad ts then entry_fault W 0 (route a n h))
    (set_at W (cells ad ts) n (cell a (tag_of n h)) room (first_slot (of_prefix a n) 0 (cells ad ts)))

-- plan a removal: refusals 8, 7, 1, 2, 6, 9 in this order
abbrev pub plan_remove : ℕ → List ℕ → List ℕ → ℕ → ℕ → ℕ → Planned
plan_remove W ad ts a n room =
    if_fine (table_fault W ad ts then prefix_fault W 0 a n)
    (remove_at W (cells ad ts) n room (first_slot (of_prefix a n) 0 (cells ad ts)))

abbrev pub plan_answer : Planned → Answer
plan_answer (refuses n p) = refused n p
plan_answer (writes ws) = value (length ws)

abbrev pub numbers : List Write → List ℕ
numbers [] = []
numbers (w ∷ ws) = w.slot ∷ w.cell.address ∷ w.cell.tag ∷ numbers ws

-- the lent row afterwards: the writes, and the cells past them as found
abbrev pub row_after : Planned → List ℕ → List ℕ
row_after (refuses n p) row = row
row_after (writes ws) row = numbers ws ++ drop (3 * length ws) row

-- what a plan answers, and the lent row after it
pub record IsPlanned (p : Planned) (row : List ℕ) (answer : Answer) (row' : List ℕ) : Type 0 where
  pub answers : answer ≡ plan_answer p
  pub after : row' ≡ row_after p row
