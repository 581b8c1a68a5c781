-- A record across the C interface: the answer is the next place, at the end of the input the place itself; four lent cells get the
-- record's kind, length, address and hop.
use Rattle.std.specs.Prelude.{ℕ, List, [], ◌∷◌}
use Rattle.route.specs.Refusals.{Answer, value, refused}
use Rattle.records.specs.Records.{Update, removal, setting, Reply, update, ended, refused_at}

abbrev pub placed : ℕ → Reply → Answer
placed at (update u next) = value next
placed at ended = value at
placed at (refused_at n p) = refused n p

-- a removal has kind 0 and no hop, a set kind 1
abbrev pub cells : Update → List ℕ
cells (removal a n) = 0 ∷ n ∷ a ∷ 0 ∷ []
cells (setting r) = 1 ∷ r.length ∷ r.address ∷ r.hop ∷ []

-- the lent cells after a call: where there is no record they are as found
abbrev pub cells_after : Reply → List ℕ → List ℕ
cells_after (update u next) row = cells u
cells_after ended row = row
cells_after (refused_at n p) row = row
