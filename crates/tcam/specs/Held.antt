-- The slots of a table as the code holds it.
use Rattle.std.specs.Prelude.{ℕ, List}
use Rattle.tcam.specs.Slots.{Cell, cells}
use Rattle.tcam.specs.Shown.{cell_at}
use Rattle.tcam.specs.declared.table.Table.{Table}

abbrev pub cells_of : Table → List Cell
cells_of t = cells t.addresses.now t.tags.now

-- slot i
abbrev pub slot_at : Table → ℕ → Cell
slot_at t i = cell_at t.addresses.now t.tags.now i
