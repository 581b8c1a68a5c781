-- A prefix at a multiple of its span matches the addresses from its own to the last of its span, and no others.
use Prim.Native.Nat.{ℕ, ◌+◌, ◌*◌, ◌-◌, ◌/◌, ◌%◌, ◌^◌, ◌≤◌, ◌<◌}
use mathlib.Core.Path.{◌≡◌, sym, ◌∙◌, ap}
use mathlib.Core.Logic.{◌↔◌}
use mathlib.Core.Bool.{true}
use lib.Pow.{pow_pos, pow-lt, shl_lt, shr-shr, mod-mod-pow}
use native.Mathlib.Nat.{div-add-mod', mod-lt, mod-eq_of_lt, div-eq_of_lt, div-eq_of_lt-le, zero-mod, one-mul, zero-mul, pow-le-pow_right}
use native.Mathlib.Omega.{arith}
use borrow.Author.Tests.{eqb-true, eq-eqb}
use Rattle.route.specs.Rule.{span, matches}

pub span_pos : (W n : ℕ) → 0 < span W n
span_pos W n = pow_pos (W - n)

-- no prefix covers more than all addresses
pub span-most : (W n : ℕ) → span W n ≤ 2 ^ W
span-most W n = pow-le-pow_right {n = 2} (omega arith) (omega arith)

-- a prefix of W bits or more covers one address
pub span-long : (W n : ℕ) → W ≤ n → span W n ≡ 1
span-long W n h = ap (λ (k : ℕ). 2 ^ k) (let e : W - n ≡ 0 = omega arith in e)

-- a quotient below 2^n times the span of length n is an address
pub span-times : (W n x : ℕ) → n ≤ W → x < 2 ^ n → x * span W n < 2 ^ W
span-times W n x h l = let parts : n + (W - n) ≡ W = omega arith in rw parts at (shl_lt n (W - n) l)

-- 1 shifted left by less than the width of a u64
pub shl_one : (k : ℕ) → k < 64 → 1 * 2 ^ k % 2 ^ 64 ≡ 2 ^ k
shl_one k h = simp one-mul (mod-eq_of_lt (pow-lt h))

-- for a multiple a of d: q and a have one quotient by d just where q is one of the d numbers from a on
in_span : (d a q : ℕ) → 0 < d → a % d ≡ 0 → (q / d ≡ a / d) ↔ ((a ≤ q) × (q < a + d))
in_span d a q pos aligned =
    let whole = div-add-mod' a d in
    (λ e. within (rw e at (div-add-mod' q d)), λ h. div-eq_of_lt-le d (omega arith) (omega arith))
  where
    within : a / d * d + q % d ≡ q → (a ≤ q) × (q < a + d)
    within h = omega (arith, div-add-mod' a d, mod-lt q pos)

pub matches-span : (W a n q : ℕ) → a % span W n ≡ 0 → (matches W a n q ≡ true) ↔ ((a ≤ q) × (q < a + span W n))
matches-span W a n q aligned =
    let h = in_span (span W n) a q (span_pos W n) aligned in (λ e. h.0 (eqb-true _ _ e), λ k. eq-eqb _ _ (h.1 k))

-- a multiple of the span of a length is one of the span of every longer length
pub aligned-longer : (W a m n : ℕ) → m ≤ n → n ≤ W → a % span W m ≡ 0 → a % span W n ≡ 0
aligned-longer W a m n l h e =
    let parts : n - m + (W - n) ≡ W - m = omega arith in
    sym (mod-mod-pow a (n - m) (W - n)) ∙ ap (λ x. x % span W n) (rw parts e) ∙ zero-mod (span W n)

-- the last address of a prefix is an address too
pub end-within : (W a n : ℕ) → n ≤ W → a % span W n ≡ 0 → a < 2 ^ W → a + span W n ≤ 2 ^ W
end-within W a n h e l =
    let s = span W n in
    let whole = div-add-mod' a s in
    let one : (a + (s - 1)) / s ≡ a / s = div-eq_of_lt-le s (omega arith) (omega (arith, span_pos W n)) in
    let parts : W - n + n ≡ W = omega arith in
    let same : (a + (s - 1)) / 2 ^ (W - n + n) ≡ a / 2 ^ (W - n + n) =
    sym (shr-shr (a + (s - 1)) (W - n) n) ∙ ap (λ x. x / 2 ^ n) one ∙ shr-shr a (W - n) n in
    let none : (a + (s - 1)) / 2 ^ W ≡ 0 = (rw parts at same) ∙ div-eq_of_lt l in
    let last : a + (s - 1) < 2 ^ W = below (a + (s - 1)) (rw (none, zero-mul) at (div-add-mod' (a + (s - 1)) (2 ^ W))) in
    omega (arith, span_pos W n)
  where
    below : (x : ℕ) → 0 + x % 2 ^ W ≡ x → x < 2 ^ W
    below x e = omega (arith, mod-lt x (pow_pos W))
