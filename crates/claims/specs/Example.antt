-- The report's example on the board: three records, two sets and a removal, and what is printed for them.
use Rattle.std.specs.Prelude.{ℕ, ◌≡◌, List, [], ◌∷◌}
use Rattle.lines.specs.Ascii.{ascii}
use Rattle.history.specs.Reports.{report}

abbrev pub example_bytes : List ℕ
example_bytes = 1 ∷ 8 ∷ 10 ∷ 1 ∷ 1 ∷ 16 ∷ 148 ∷ 20 ∷ 2 ∷ 0 ∷ 8 ∷ 10 ∷ []

abbrev pub example_text : List ℕ
example_text =
    ascii
    "routes 1024\n1 set 10.0.0.0/8 1 1 1\n2 set 10.20.0.0/16 2 1 2\n3 remove 10.0.0.0/8 0 1 1\nslot 0 10.20.0.0/16 2\nend\n"

abbrev pub Example : Type 0
Example = report example_bytes ≡ example_text
