-- The report of an input: the bytes that are printed, as a function of the bytes that are read.
--
-- The header names the slots. The records are read from place to place; each update is planned on the table, and its plan is applied whole.
-- It has a line, a refused one too, which leaves the table as it is. A record that cannot be read has a line like a refused update, and is
-- the last. Then the used slots follow in rising order, and the end. An input that is too long is not read at all. Addresses have 32 bits.
use Rattle.std.specs.Prelude.{ℕ, zero, suc, ◌+◌, ◌*◌, cond, List, [], ◌∷◌, ◌++◌, ltb, length, replicate}
use Rattle.tcam.specs.Slots.{Cell, cells, is_free, used_in}
use Rattle.tcam.specs.Tables.{route_of}
use Rattle.tcam.specs.Plans.{Planned, refuses, writes, most_to_remove, plan_set, plan_remove}
use Rattle.tcam.specs.Applies.{stored}
use Rattle.records.specs.Records.{Update, removal, setting, Reply, update, ended, refused_at, record_at}
use Rattle.lines.specs.Lines.{header_line, set_line, remove_line, refused_line, slot_line, end_line, too_long_line}

-- the most bytes of an input
abbrev pub max_input : ℕ
max_input = 65536

-- the slots of the report's table
abbrev pub report_slots : ℕ
report_slots = 1024

-- the cells of a plan's row: three for each of the most writes that a plan has
abbrev pub plan_room : ℕ
plan_room = 3 * most_to_remove 32

-- the two rows of a table
pub record Rows : Type 0 where
  pub addresses : List ℕ
  pub tags : List ℕ

abbrev pub rows : List ℕ → List ℕ → Rows
rows ad ts = record { addresses = ad; tags = ts }

abbrev pub empty_rows : ℕ → Rows
empty_rows M = rows (replicate M 0) (replicate M 0)

abbrev pub slots : Rows → List Cell
slots t = cells t.addresses t.tags

-- the plan of an update, for a row of so many cells
abbrev pub plan_of : Rows → Update → ℕ → Planned
plan_of t (setting r) room = plan_set 32 t.addresses t.tags r.address r.length r.hop room
plan_of t (removal a n) room = plan_remove 32 t.addresses t.tags a n room

-- the table after a plan: all its writes are made
abbrev pub after : Rows → Planned → Rows
after t (refuses n p) = t
after t (writes ws) = rows (stored (λ c. c.address) t.addresses ws) (stored (λ c. c.tag) t.tags ws)

abbrev pub after_update : Rows → Update → Rows
after_update t u = after t (plan_of t u plan_room)

-- the line of an accepted update, by its writes and the used slots after it
abbrev pub accepted_text : ℕ → Update → ℕ → ℕ → List ℕ
accepted_text nth (setting r) w used = set_line nth r w used
accepted_text nth (removal a n) w used = remove_line nth a n w used

-- an update's line, by its plan and the table after it
abbrev pub update_text : ℕ → Update → Planned → Rows → List ℕ
update_text nth u (refuses n p) t = refused_line nth n
update_text nth u (writes ws) t = accepted_text nth u (length ws) (used_in (slots t))

abbrev pub reported_text : ℕ → Rows → Update → List ℕ
reported_text nth t u = update_text nth u (plan_of t u plan_room) (after_update t u)

-- a slot's line, nothing where it is free; and the slots from slot i on
abbrev pub slot_text : ℕ → Cell → List ℕ
slot_text i c = cond (is_free c) [] (slot_line i (route_of c))

abbrev pub slot_texts : ℕ → List Cell → List ℕ
slot_texts i [] = []
slot_texts i (c ∷ cs) = slot_text i c ++ slot_texts (i + 1) cs

-- what an input holds: updates, and at its end perhaps a record that cannot be read
pub data Item : Type 0 where
  asks : Update → Item
  unreadable : (refusal : ℕ) → Item

-- by what stands at a place; `more` are the items from the next place on
abbrev pub items_by : (ℕ → List Item) → Reply → List Item
items_by more (update u next) = asks u ∷ more next
items_by more ended = []
items_by more (refused_at n p) = unreadable n ∷ []

-- the items of the bytes from a place on, at most k
abbrev pub items : ℕ → List ℕ → ℕ → List Item
items zero bs at = []
items (suc k) bs at = items_by (items k bs) (record_at 32 bs at)

-- the lines of the items on a table, the first of them with this number, then the table's and the end
abbrev pub history : ℕ → Rows → List Item → List ℕ
history nth t [] = slot_texts 0 (slots t) ++ end_line
history nth t (asks u ∷ is) = reported_text nth t u ++ history (nth + 1) (after_update t u) is
history nth t (unreadable n ∷ is) = refused_line nth n ++ history (nth + 1) t is

-- a record has at least one byte, so there are at most as many as bytes
abbrev pub report : List ℕ → List ℕ
report bs =
    cond (ltb max_input (length bs)) too_long_line
    (header_line report_slots ++ history 1 (empty_rows report_slots) (items (length bs) bs 0))
