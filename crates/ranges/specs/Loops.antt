-- What the contracts of leaves and of loops speak of. The contracts of the build and of the lookup cite none of it.
use Rattle.std.specs.Prelude.{ℕ, ◌≡◌, ◌<◌, ◌+◌, Bool, false, cond, ◌||◌, List, [], ◌∷◌, drop, nat_le, slice_index}
use Rattle.route.specs.Refusals.{Verdict, fine, Answer, value, unless_fault}
use Rattle.route.specs.Lists.{rows_fault}
use Rattle.route.specs.declared.list.List.{List as InRows}
use Rattle.ranges.specs.Ranges.{Range, range, ranges, breaks, ranges_fault, hop_at}

-- range i of two rows
abbrev pub range_at : List ℕ → List ℕ → ℕ → Range
range_at ss hs i = range (slice_index ss i) (slice_index hs i)

-- the ranges behind range i of two rows
abbrev pub behind : List ℕ → List ℕ → ℕ → List Range
behind ss hs i = ranges (drop (i + 1) ss) (drop (i + 1) hs)

-- whether one of the ranges behind the range p breaks a rule
abbrev pub any_breaks : Range → List Range → Bool
any_breaks p [] = false
any_breaks p (r ∷ rs) = breaks p r || any_breaks r rs

-- of the ranges behind range i of two rows: whether one breaks a rule, refusal 7, and that or the hop for q
abbrev pub behind_broken : List ℕ → List ℕ → ℕ → Bool
behind_broken ss hs i = any_breaks (range_at ss hs i) (behind ss hs i)

abbrev pub behind_fault : List ℕ → List ℕ → ℕ → Verdict
behind_fault ss hs i = ranges_fault (i + 1) (range_at ss hs i) (behind ss hs i)

abbrev pub behind_answer : List ℕ → List ℕ → ℕ → ℕ → Answer
behind_answer ss hs i q = unless_fault (behind_fault ss hs i) (value (hop_at (slice_index hs i) (behind ss hs i) q))

-- how many of the ranges start at or below q
abbrev pub below : List Range → ℕ → ℕ
below [] q = 0
below (r ∷ rs) q = cond (nat_le r.start q) 1 0 + below rs q

-- a list that has no fault, of 32-bit addresses
pub record Accepted (l : InRows) : Type 0 where
  pub sound : rows_fault 32 l.addresses.now l.lengths.now l.hops.now ≡ fine
  pub small : (i : ℕ) → slice_index l.addresses.now i < 4294967296
