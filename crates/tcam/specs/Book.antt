-- The book of demand 3: a second account of a table, which knows of no slot and no plan.
--
-- It has a row of entries for each length, at first empty, and is fed the number of slots M and each set or removal alone: the prefix, a
-- set's hop, and the plan's room. A row turns by one where the table moves an entry of its length, from one end to the other, so that the
-- rows one after another are the table's image at every time. The writes are counted as one, and one for each row that turns.
use Rattle.std.specs.Prelude.{ℕ, ◌+◌, ◌-◌, ◌*◌, ◌/◌, Bool, false, cond, not, ◌&&◌, ◌||◌, List, [], ◌∷◌, ◌++◌, length, replicate, ◌==◌, nat_le, nat_lt}
use Rattle.route.specs.Refusals.{Verdict, fine, fault, fault_if, ◌then◌, prefix_fault, hop_fault, Answer, value, refused, absent_refusal}
use Rattle.route.specs.Refusals.{full_refusal, room_refusal}
use Rattle.tcam.specs.Slots.{Cell, cell, free, tag_of}
use Rattle.tcam.specs.Plans.{falling}

-- the row of each length
abbrev pub Book : Type 0
Book = ℕ → List Cell

abbrev pub empty_book : Book
empty_book l = []

-- a row turned by one, either way
abbrev pub first_to_end : List Cell → List Cell
first_to_end [] = []
first_to_end (c ∷ cs) = cs ++ (c ∷ [])

-- the last of the entries c ∷ cs, and those before it
abbrev pub last : Cell → List Cell → Cell
last c [] = c
last c (d ∷ ds) = last d ds

abbrev pub but_last : Cell → List Cell → List Cell
but_last c [] = []
but_last c (d ∷ ds) = c ∷ but_last d ds

abbrev pub last_to_front : List Cell → List Cell
last_to_front [] = []
last_to_front (c ∷ cs) = last c cs ∷ but_last c cs

abbrev pub is_upper_length : ℕ → ℕ → Bool
is_upper_length W l = nat_le (W / 2) l

-- whether the row of length l lies between length n and the pool
abbrev pub between : ℕ → ℕ → ℕ → Bool
between W n l = cond (is_upper_length W n) (nat_le (W / 2) l && nat_lt l n) (nat_lt n l && nat_lt l (W / 2))

-- whether a row has an entry of address a
abbrev pub has_address : ℕ → List Cell → Bool
has_address a [] = false
has_address a (c ∷ cs) = c.address == a || has_address a cs

-- the row with e for the entry of address a
abbrev pub replaced : ℕ → Cell → List Cell → List Cell
replaced a e [] = []
replaced a e (c ∷ cs) = cond (c.address == a) (e ∷ cs) (c ∷ replaced a e cs)

-- the row without the entry of address a: the last entry fills the gap, unless it is the one
abbrev pub gap_filled_by_last : ℕ → List Cell → List Cell
gap_filled_by_last a [] = []
gap_filled_by_last a (c ∷ cs) = cond ((last c cs).address == a) (but_last c cs) (replaced a (last c cs) (but_last c cs))

abbrev pub gap_filled_by_first : ℕ → List Cell → List Cell
gap_filled_by_first a [] = []
gap_filled_by_first a (z ∷ zs) = cond (z.address == a) zs (replaced a z zs)

-- whether the entry of address a is the one at its row's edge: the last above the pool, the first below
abbrev pub at_edge : Bool → ℕ → List Cell → Bool
at_edge upper a [] = false
at_edge upper a (c ∷ cs) = (cond upper (last c cs) c).address == a

-- the book after a new entry c of length n joins its row, and after the entry a/n is removed: the rows between turn
abbrev pub after_set : ℕ → Book → ℕ → Cell → Book
after_set W b n c l =
    cond (l == n) (cond (is_upper_length W n) (b l ++ (c ∷ [])) (c ∷ b l))
    (cond (between W n l) (cond (is_upper_length W n) (first_to_end (b l)) (last_to_front (b l))) (b l))

abbrev pub after_remove : ℕ → Book → ℕ → ℕ → Book
after_remove W b n a l =
    cond (l == n) (cond (is_upper_length W n) (gap_filled_by_last a (b l)) (gap_filled_by_first a (b l)))
    (cond (between W n l) (cond (is_upper_length W n) (last_to_front (b l)) (first_to_end (b l))) (b l))

-- the lengths, and the rows of some of them one after another
abbrev pub lengths : ℕ → List ℕ
lengths W = falling (W + 1) 0

abbrev pub rows : Book → List ℕ → List Cell
rows b [] = []
rows b (l ∷ ls) = b l ++ rows b ls

abbrev pub entries : ℕ → Book → List Cell
entries W b = rows b (lengths W)

-- the table that the book says: the long rows, the free slots, the short rows
abbrev pub book_image : ℕ → ℕ → Book → List Cell
book_image W M b =
    rows b (falling (W - W / 2 + 1) (W / 2)) ++ (replicate (M - length (entries W b)) free ++ rows b (falling (W / 2) 0))

-- 1 where the test passes
abbrev pub count_if : Bool → ℕ
count_if b = cond b 1 0

-- how many rows with entries lie between length n and the pool: those that an update turns
abbrev pub rows_turned : ℕ → Book → ℕ → List ℕ → ℕ
rows_turned W b n [] = 0
rows_turned W b n (l ∷ ls) = count_if (between W n l && nat_lt 0 (length (b l))) + rows_turned W b n ls

-- what the book answers, and the book afterwards
pub record BookAnswer : Type 0 where
  pub answer : Answer
  pub book : Book

-- refused by room, or done
abbrev pub settled : Verdict → ℕ → ℕ → Book → Book → BookAnswer
settled (fault n p) room w b b' = record { answer = refused n p; book = b }
settled fine room w b b' = cond (nat_lt room (3 * w)) (record { answer = refused room_refusal 0; book = b }) (record { answer = value w; book = b' })

-- whether the row has the entry itself, its tag too
abbrev pub has_entry : Cell → List Cell → Bool
has_entry e [] = false
has_entry e (c ∷ cs) = (c.address == e.address && c.tag == e.tag) || has_entry e cs

-- a set: a present prefix gets the entry e for its own, an absent one joins; refusals 1, 2, 3, 5, 9 in this order
abbrev pub book_set : ℕ → ℕ → Book → ℕ → ℕ → ℕ → ℕ → BookAnswer
book_set W M b a n h room =
    cond (has_address a (b n))
    (settled (prefix_fault W 0 a n then hop_fault 0 h) room (count_if (not (has_entry e (b n)))) b (λ l. cond (l == n) (replaced a e (b l)) (b l)))
    (settled (prefix_fault W 0 a n then hop_fault 0 h then fault_if (nat_le M (length (entries W b))) full_refusal 0) room (1 + rows_turned W b n (lengths W)) b (after_set W b n e))
  where
    e : Cell
    e = cell a (tag_of n h)

-- a removal: refusals 1, 2, 6, 9 in this order
abbrev pub book_remove : ℕ → ℕ → Book → ℕ → ℕ → ℕ → BookAnswer
book_remove W M b a n room =
    settled (prefix_fault W 0 a n then fault_if (not (has_address a (b n))) absent_refusal 0) room
    (1 + rows_turned W b n (lengths W) + count_if (not (at_edge (is_upper_length W n) a (b n)))) b (after_remove W b n a)
