-- Place by place: `found` says whether one before place from + k has what is sought.
use Rattle.std.proofs.Common.{◌≡◌, ℕ, Bool, ◌+◌, ◌<◌, ◌≤◌}
use Rattle.route.proofs.Searches.{FoundFrom}
use Rattle.tcam.proofs.search.any_among.Given as goal

abbrev pub invariant-loop-k : goal.invariant-loop-k
invariant-loop-k g l =
    (p : ℕ → Bool) → ((j : ℕ) (b : Bool) → l.from ≤ j → j < l.from + l.count → goal.F-post g l.has j b → b ≡ p j) →
    FoundFrom p (λ (j : ℕ). j) l.from (l.from + l.count) (l.from + l.k) l.found
