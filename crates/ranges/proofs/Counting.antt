-- A lookup by counting: where starts rise, the last range that starts at or below an address is found by how many do.
use Rattle.std.proofs.Common.{◌≡◌, ℕ, suc, ◌<◌, ◌≤◌, leb, List, [], ◌∷◌, length, get_or, refl, one-add, arith}
use borrow.Author.Tests.{lt-leb}
use Rattle.route.proofs.Tests.{orders, by_test}
use Rattle.ranges.specs.Ranges.{Range, hops_of, hop_at}
use Rattle.ranges.specs.Loops.{below}

-- starts that rise, from lo on
abbrev pub StartsRise : ℕ → List Range → Type 0
StartsRise lo [] = Unit {0}
StartsRise lo (r ∷ rs) = (lo ≤ r.start) × StartsRise (suc r.start) rs

-- none of them is at or below an address before lo
below_none : (lo : ℕ) (rs : List Range) (q : ℕ) → q < lo → StartsRise lo rs → below rs q ≡ 0
below_none lo [] q l s = refl
below_none lo (r ∷ rs) q l s =
    let up : q < r.start = omega (arith, s.0) in
    let rest = below_none (suc r.start) rs q (omega arith) s.1 in
    rw (lt-leb r.start q up, rest)

-- no more than there are
pub below-within : (rs : List Range) (q : ℕ) → below rs q ≤ length rs
below-within [] q = omega arith
below-within (r ∷ rs) q =
    let b = below-within rs q in
    by_test (leb r.start q) (λ t. rw t (omega arith)) (λ t. rw t (omega arith))

-- h is the hop before the first start
pub hop_at-below : (h lo : ℕ) (rs : List Range) (q : ℕ) → StartsRise lo rs → hop_at h rs q ≡ get_or (h ∷ hops_of rs) (below rs q) 0
hop_at-below h lo [] q s = refl
hop_at-below h lo (r ∷ rs) q s = by_test (leb r.start q)
    (λ t. rw (t, one-add) (hop_at-below r.hop (suc r.start) rs q s.1))
    (λ t. rw (t, below_none (suc r.start) rs q (omega orders) s.1))
