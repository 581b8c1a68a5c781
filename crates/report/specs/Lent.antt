-- What the program lends: a buffer that holds the input, the rows of a table, a buffer that has room for a line.
use Rattle.std.specs.Prelude.{ℕ, ◌≤◌, ◌≡◌, List, length, Result, IfOk}
use Rattle.io.specs.Counts.{IsPrefixLen}
use Rattle.lines.specs.Lines.{max_line}
use Rattle.history.specs.Reports.{Rows}

-- the bytes that were read stand in the buffer
abbrev pub Holds : {E : Type 0} → List ℕ → Result ℕ E → Type 0
Holds buffer read = IfOk read (λ n. IsPrefixLen n buffer)

pub record Printable (t : Rows) (text : List ℕ) : Type 0 where
  pub equal : length t.addresses ≡ length t.tags
  pub room : max_line ≤ length text
