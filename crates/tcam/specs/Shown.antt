-- The specification's values for the code's types: a cell, a write, a slot that was sought, what a download asks from and answers.
use Rattle.std.specs.Prelude.{ℕ, ◌+◌, cond, List, slice_index, Option as Optional, None, Some, Result, Ok, Err}
use Rattle.std.proofs.Math.Option.{Option, none, some}
use Rattle.route.specs.Shown.{number, place}
use Rattle.route.specs.declared.Refusal.{Refusal}
use Rattle.route.specs.declared.Prefix.{Prefix}
use Rattle.route.specs.declared.Slot.{Slot}
use Rattle.tcam.specs.Slots.{Cell, cell, is_free, length_in}
use Rattle.tcam.specs.Plans.{Write, write}
use Rattle.tcam.specs.Download.{From, start, past, Next, entry, end, refusal}
use Rattle.tcam.specs.declared.slots.Cell.{Cell as SlotCell}
use Rattle.tcam.specs.declared.apply.Write.{Write as SlotWrite}

abbrev pub cell_of : SlotCell → Cell
cell_of c = cell c.address c.tag

-- slot i of two rows
abbrev pub cell_at : List ℕ → List ℕ → ℕ → Cell
cell_at ad ts i = cell (slice_index ad i) (slice_index ts i)

-- the group of a cell: the free slots are behind all lengths
abbrev pub group_of : ℕ → Cell → ℕ
group_of W c = cond (is_free c) (W + 1) (length_in c)

abbrev pub write_of : SlotWrite → Write
write_of w = write w.slot.0 (cell_of w.cell)

abbrev pub place_of : Optional Slot → Option ℕ
place_of None = none
place_of (Some s) = some s.0

abbrev pub from_of : Optional Prefix → From
from_of None = start
from_of (Some p) = past p.address p.length.0

abbrev pub next_of : Result (Optional SlotCell) Refusal → Next
next_of (Ok None) = end
next_of (Ok (Some c)) = entry c.address (length_in (cell_of c)) c.tag
next_of (Err r) = refusal (number r) (place r)
