-- A download's answer across the C interface: 1 where an entry is given, 0 at the end; three lent cells get the entry's address, length
-- and tag.
use Rattle.std.specs.Prelude.{ℕ, List, [], ◌∷◌}
use Rattle.route.specs.Refusals.{Answer, value, refused}
use Rattle.tcam.specs.Download.{Next, entry, end, refusal}

abbrev pub given : Next → Answer
given (entry a n t) = value 1
given end = value 0
given (refusal n p) = refused n p

-- the lent cells after a call: where no entry is given they are as found
abbrev pub entry_after : Next → List ℕ → List ℕ
entry_after (entry a n t) row = a ∷ n ∷ t ∷ []
entry_after end row = row
entry_after (refusal n p) row = row
