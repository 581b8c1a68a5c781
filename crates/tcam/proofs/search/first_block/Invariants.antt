-- Block by block: no place before place j has what is sought.
use Rattle.std.proofs.Common.{◌≡◌, ℕ, Bool, false, min, ◌<◌, ◌≤◌}
use Rattle.route.proofs.Searches.{FoundFrom}
use Rattle.tcam.proofs.search.first_block.Given as goal

abbrev pub invariant-loop-j : goal.invariant-loop-j
invariant-loop-j g l =
    (p : ℕ → Bool) → ((j : ℕ) (b : Bool) → l.from ≤ j → j < l.to → goal.F-post g l.has j b → b ≡ p j) →
    FoundFrom p (λ (j : ℕ). j) l.from l.to (min l.j l.to) false
