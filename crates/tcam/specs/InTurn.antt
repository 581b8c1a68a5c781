-- Lengths in turn, as the code holds them.
use Rattle.std.specs.Prelude.{ℕ, List}
use Rattle.tcam.specs.Slots.{Cell}
use Rattle.tcam.specs.Plans.{Write, chain}
use Rattle.tcam.specs.Loops.{lengths_from, edge_of}
use Rattle.tcam.specs.declared.plan.Lengths.{Lengths}

abbrev pub lengths_of : Lengths → List ℕ
lengths_of r = lengths_from r.up r.count r.from.0

-- the copies of the lengths' edge entries, then the last cell
abbrev pub chain_of : Lengths → List Cell → ℕ → Cell → List Write
chain_of r cs at last = chain (edge_of r.up cs) cs (lengths_of r) at last
