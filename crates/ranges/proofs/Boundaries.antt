-- The boundaries of a set rise, are at most two for each route, and the longest match changes at them alone.
use Rattle.std.proofs.Common.{◌≡◌, ℕ, suc, ◌+◌, ◌*◌, ◌^◌, ◌<◌, ◌≤◌, eqb, ltb, List, [], ◌∷◌, length, sym, refl, ◌∙◌, subst, ap₂, mod-lt, mod-eq_of_lt, zero-add, arith, pow_pos}
use mathlib.Core.Path.{subst⁻¹}
use mathlib.Core.List.Memᴰ
use native.Mathlib.Nat.{mod_self, sub-zero}
use Rattle.route.specs.Rule.{Route, longest, improved}
use Rattle.route.specs.RightHop.{◌∈◌}
use Rattle.route.specs.RowsOfSet.{Valid}
use Rattle.route.proofs.Tests.{orders, by_test}
use Rattle.ranges.specs.Ranges.{past_end, added, boundaries}
use Rattle.ranges.proofs.Spans.{OneSide, matches_both}

-- what `added x` makes of a row: nothing new, or x at its place
pub data Adds (x : ℕ) : List ℕ → List ℕ → Type 0 where
  at_zero : {ys : List ℕ} → x ≡ 0 → Adds x ys ys
  present : {y : ℕ} {ys : List ℕ} → x ≡ y → Adds x (y ∷ ys) (y ∷ ys)
  last : 0 < x → Adds x [] (x ∷ [])
  before : {y : ℕ} {ys : List ℕ} → 0 < x → x < y → Adds x (y ∷ ys) (x ∷ y ∷ ys)
  after : {y : ℕ} {ys zs : List ℕ} → 0 < x → y < x → Adds x ys zs → Adds x (y ∷ ys) (y ∷ zs)

adds : (x : ℕ) (ys : List ℕ) → Adds x ys (added x ys)
adds x [] = by_test (eqb x 0) (λ e. rw e (at_zero (omega orders))) (λ e. rw e (last (omega orders)))
adds x (y ∷ ys) = by_test (eqb x 0)
    (λ e. rw e (at_zero (omega orders)))
    (λ e. rw e (by_test (eqb x y)
    (λ t. rw t (present {y = y} (omega orders)))
    (λ t. rw t (by_test (ltb x y)
    (λ u. rw u (before {y = y} (omega orders) (omega orders)))
    (λ u. rw u (after {y = y} (omega orders) (omega orders) (adds x ys)))))))

-- a row of numbers that rise, from lo on and below top
abbrev pub Rising : ℕ → ℕ → List ℕ → Type 0
Rising lo top [] = Unit {0}
Rising lo top (y ∷ ys) = (lo ≤ y) × (y < top) × Rising (suc y) top ys

-- no number of the row separates p from q
abbrev pub Clear : ℕ → ℕ → List ℕ → Type 0
Clear p q [] = Unit {0}
Clear p q (y ∷ ys) = OneSide p q y × Clear p q ys

rises : {x : ℕ} {ys zs : List ℕ} (lo top : ℕ) → Adds x ys zs → (0 < x → lo ≤ x) → x < top → Rising lo top ys → Rising lo top zs
rises lo top (at_zero e) above below h = h
rises lo top (present e) above below h = h
rises lo top (last pos) above below h = (above pos, below, tt)
rises lo top (before pos l) above below h = (above pos, below, (l, h.1, h.2))
rises lo top (after {y} pos l a) above below h = (h.0, h.1, rises (suc y) top a (λ _. l) below h.2)

clears : {x : ℕ} {ys zs : List ℕ} (p q : ℕ) → Adds x ys zs → Clear p q zs → OneSide p q x × Clear p q ys
clears p q (at_zero e) c = (λ h. absurd (omega arith), c)
clears p q (present e) c = (subst⁻¹ (OneSide p q) e c.0, c)
clears p q (last pos) c = c
clears p q (before pos l) c = (c.0, c.1)
clears p q (after pos l a) c = let d = clears p q a c.1 in (d.0, (c.0, d.1))

grows : {x : ℕ} {ys zs : List ℕ} → Adds x ys zs → length zs ≤ length ys + 1
grows (at_zero e) = omega arith
grows (present e) = omega arith
grows (last pos) = omega arith
grows (before pos l) = omega arith
grows (after pos l a) = omega (arith, grows a)

-- the two numbers that a route adds
pub end_adds : (W : ℕ) (r : Route) (rs : List Route) → Adds (past_end W r) (boundaries W rs) (added (past_end W r) (boundaries W rs))
end_adds W r rs = adds (past_end W r) (boundaries W rs)

pub start_adds : (W : ℕ) (r : Route) (rs : List Route) → Adds r.address (added (past_end W r) (boundaries W rs)) (boundaries W (r ∷ rs))
start_adds W r rs = adds r.address (added (past_end W r) (boundaries W rs))

-- every route starts at one of the addresses of W bits
abbrev pub Placed : ℕ → List Route → Type 0
Placed W rs = (r : Route) → r ∈ rs → r.address < 2 ^ W

pub boundaries_rise : (W : ℕ) (rs : List Route) → Placed W rs → Rising 1 (2 ^ W) (boundaries W rs)
boundaries_rise W [] placed = tt
boundaries_rise W (r ∷ rs) placed =
    rises 1 (2 ^ W) (start_adds W r rs) (λ h. h) (placed r (Memᴰ.head refl))
    (rises 1 (2 ^ W) (end_adds W r rs) (λ h. h) (mod-lt _ (pow_pos W)) (boundaries_rise W rs (λ s m. placed s (Memᴰ.tail m))))

-- two boundaries at most for a route
pub boundaries_few : (W : ℕ) (rs : List Route) → length (boundaries W rs) ≤ 2 * length rs
boundaries_few W [] = omega arith
boundaries_few W (r ∷ rs) = omega (arith, boundaries_few W rs, grows (end_adds W r rs), grows (start_adds W r rs))

-- 0 adds nothing, and both numbers of the prefix of length 0 are 0
unchanged : {x : ℕ} {ys zs : List ℕ} → Adds x ys zs → x ≡ 0 → length zs ≤ length ys
unchanged (at_zero e) z = omega arith
unchanged (present e) z = omega arith
unchanged (last pos) z = omega arith
unchanged (before pos l) z = omega arith
unchanged (after pos l a) z = omega arith

default_start : (W : ℕ) (r : Route) → Valid W r → r.length ≡ 0 → r.address < 2 ^ W → r.address ≡ 0
default_start W r v e top = sym (mod-eq_of_lt top) ∙ (rw (e, sub-zero) at v.aligned)

default_end : (W : ℕ) (r : Route) → r.length ≡ 0 → r.address ≡ 0 → past_end W r ≡ 0
default_end W r e z = rw (e, z, sub-zero, zero-add) (mod_self (2 ^ W))

-- with length 0 among them, two fewer
pub boundaries_fewer : (W : ℕ) (r : Route) (rs : List Route) → r ∈ rs → Valid W r → r.length ≡ 0 →
    r.address < 2 ^ W → length (boundaries W rs) + 2 ≤ 2 * length rs
boundaries_fewer W r rs (Memᴰ.head {x} {xs} p) v e top =
    let z = default_start W x (subst (Valid W) p v) (cc) (rw p at top) in
    omega (arith, boundaries_few W xs, unchanged (end_adds W x xs) (default_end W x (cc) z), unchanged (start_adds W x xs) z)
boundaries_fewer W r rs (Memᴰ.tail {x} {xs} m) v e top =
    omega (arith, boundaries_fewer W r xs m v e top, grows (end_adds W x xs), grows (start_adds W x xs))

-- two addresses that no boundary separates have one longest match
pub steady : (W : ℕ) (rs : List Route) (p q : ℕ) → ((r : Route) → r ∈ rs → Valid W r) → p ≤ q → q < 2 ^ W →
    Clear p q (boundaries W rs) → longest W rs p ≡ longest W rs q
steady W [] p q ok le top clear = refl
steady W (r ∷ rs) p q ok le top clear =
    let c = clears p q (start_adds W r rs) clear in
    let d = clears p q (end_adds W r rs) c.1 in
    ap₂ (λ t m. improved t r m)
    (matches_both W r p q (ok r (Memᴰ.head refl)) le top c.0 d.0)
    (steady W rs p q (λ s m. ok s (Memᴰ.tail m)) le top d.1)
