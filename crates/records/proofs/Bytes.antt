-- A number byte by byte: what its next byte makes of it, and that every value on the way fits 32 bits.
use Prim.Native.Nat.{ℕ, ◌+◌, ◌-◌, ◌*◌, ◌^◌, ◌≤◌, ◌<◌}
use mathlib.Core.Path.{◌≡◌, refl}
use mathlib.Core.Bool.{Bool, true, false, ◌&&◌, ◌||◌}
use mathlib.Core.List.{List}
use lib.Dec.{ltb, eqb}
use lib.ListN.{length, drop}
use native.Mathlib.Nat.{add-zero, pow-le-pow_right, mul-le-mul_right}
use native.Mathlib.Omega.{arith}
use Rattle.std.proofs.lemmas.List.{drop_all}
use borrow.Author.Tests.{eq-eqb, ne_eqb, lt-ltb}
use Rattle.route.specs.Refusals.{cut_refusal}
use Rattle.route.proofs.Tests.{orders, by_test, or_parts}
use Rattle.records.specs.Records.{number, no_number, bad_byte, number_in, number_at}

-- a refusal is no number
pub no_number_lem : {A : Type 0} {n p x next : ℕ} → no_number n p ≡ number x next → A
no_number_lem e = absurd (let z : ◌≡◌ {A = ℕ} 0 1 = cc in omega arith)

-- a number where there is no byte
pub no_byte : (bs : List ℕ) (at : ℕ) → length bs ≤ at → no_number cut_refusal at ≡ number_at bs at
no_byte bs at h = rw (drop_all at bs h, add-zero at)

-- a fifth byte that is not bad has four bits
pub fifth : (k b : ℕ) → bad_byte k b ≡ false → k ≡ 4 → b ≤ 15
fifth k b e h = omega (orders, rw (eq-eqb k 4 h) at (or_parts (eqb k 4 && ltb 15 b) _ e).0)

-- a byte behind the first that is not bad is not 0
pub not-zero : (k b : ℕ) → bad_byte k b ≡ false → 1 ≤ k → 1 ≤ b
not-zero k b e h = omega (orders, rw (lt-ltb 0 k h) at (or_parts (eqb k 4 && ltb 15 b) (ltb 0 k && eqb b 0) e).1)

-- a byte that is not the last is bad just where it is the fifth
pub more-bad : (k b : ℕ) → 128 ≤ b → bad_byte k b ≡ eqb k 4
more-bad k b h = rw (lt-ltb 15 b (omega arith), ne_eqb b 0 (λ e. omega arith)) (whole (eqb k 4) (ltb 0 k))
  where
    whole : (s t : Bool) → (s && true) || (t && false) ≡ s
    whole true t = refl
    whole false true = refl
    whole false false = refl

-- a group of weight w, of seven bits or of four in a fifth byte, and w more take no value past 2^32
pub group-most : (k w g : ℕ) → k ≤ 4 → w ≡ 128 ^ k → g < 128 → (k ≡ 4 → g ≤ 15) → g * w + w ≤ 4294967296
group-most k w g few weight l top =
    by_test (ltb k 4)
    (λ t.
    let early : k ≤ 3 = omega orders in
    let least : g ≤ 127 = omega arith in
    omega (arith, mul-le-mul_right w least, pow-le-pow_right {n = 128} (omega arith) early))
    (λ t.
    let five : k ≡ 4 = omega orders in
    let heaviest : w ≡ 128 ^ 4 = rw five at weight in
    omega (arith, mul-le-mul_right w (top five)))

-- k bytes of the number at `at`, all but its last, have been read: their value is v, and the next group's weight w
pub record BytesRead (bs : List ℕ) (at first v w k : ℕ) : Type 0 where
  pub few : k ≤ 4
  pub within : at + k ≤ length bs
  pub weight : w ≡ 128 ^ k
  pub below : v < w
  pub left : number_in at k v (drop (at + k) bs) ≡ number_in at 1 first (drop (at + 1) bs)

module _ {bs : List ℕ} {at first v w k : ℕ} (p : BytesRead bs at first v w k) (b : ℕ) (good : bad_byte k b ≡ false) where
  -- the value with one more group
  value-fits : (g : ℕ) → g < 128 → (k ≡ 4 → g ≤ 15) → v + g * w < 4294967296
  value-fits g l top = omega (arith, p.below, group-most k w g p.few p.weight l top)

  -- with a last byte that is not bad
  pub last_fits : b < 128 → v + b * w < 4294967296
  last_fits l = value-fits b l (fifth k b good)

  -- with a byte that is not the last, nor the fifth
  module _ (l : 128 ≤ b) (byte : b < 256) where
    less : k ≡ 4 → ⊥
    less five = omega (arith, fifth k b good five)

    early : k ≤ 3
    early = by_test (ltb k 4) (λ t. omega orders) (λ t. absurd (less (omega (orders, p.few))))

    pub group-fits : v + (b - 128) * w < 4294967296
    group-fits = value-fits (b - 128) (omega arith) (λ five. absurd (less five))

    pub weight-fits : w * 128 < 4294967296
    weight-fits = omega (arith, p.weight, pow-le-pow_right {n = 128} (omega arith) early)
