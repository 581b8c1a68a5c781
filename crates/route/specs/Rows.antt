-- A lent row that a call writes to.
use Rattle.std.specs.Prelude.{ℕ, List, ◌++◌, length, drop}

-- a row with its first cells written over
abbrev pub overwritten : List ℕ → List ℕ → List ℕ
overwritten built row = built ++ drop (length built) row
