-- The sweep: the last of the ranges made, the prefix opened last, a key opened.
use Rattle.std.proofs.Common.{◌≡◌, ℕ, zero, suc, ◌+◌, ◌-◌, ◌<◌, ◌≤◌, eqb, List, [], ◌∷◌, ◌++◌, length, get_or, map, take, set, refl, ap, ◌∙◌, ap₂, add-one, arith, get_or-set_other, take-suc, get_or-set_same}
use mathlib.Core.List.{map-append}
use Rattle.route.specs.Loops.{before}
use Rattle.ranges.specs.Ranges.{Range}
use Rattle.ranges.specs.Keys.{route_in, key_at}
use Rattle.ranges.specs.declared.words.Key.{Key}
use Rattle.ranges.specs.Shown.{range_of}
use Rattle.ranges.specs.declared.words.Range.{Range as InCode}
use Rattle.ranges.specs.Sweeps.{last_of, ends_with}

last_of-last : (h : ℕ) (rs : List Range) (r : Range) → last_of h (rs ++ (r ∷ [])) ≡ r.hop
last_of-last h [] r = refl
last_of-last h (s ∷ rs) r = last_of-last s.hop rs r

ends_with-last : (rs : List Range) (r : Range) (h : ℕ) → ends_with (rs ++ (r ∷ [])) h ≡ eqb r.hop h
ends_with-last [] r h = refl
ends_with-last (s ∷ rs) r h = ap (λ (g : ℕ). eqb g h) (last_of-last s.hop rs r)

-- so for the first of a row
pub ends_with-front : (n : ℕ) (rs : List InCode) (d : InCode) (h : ℕ) → 0 < n → n ≤ length rs →
    ends_with (map range_of (take n rs)) h ≡ eqb (range_of (get_or rs (n - 1) d)).hop h
ends_with-front n rs d h pos l =
    let e : n ≡ suc (n - 1) = omega arith in
    let front : map range_of (take n rs) ≡ map range_of (take (n - 1) rs) ++ (range_of (get_or rs (n - 1) d) ∷ []) =
    ap (λ (k : ℕ). map range_of (take k rs)) e ∙ rw (take-suc rs (n - 1) d (omega arith)) (map-append range_of (take (n - 1) rs) (get_or rs (n - 1) d ∷ [])) in
    rw front (ends_with-last (map range_of (take (n - 1) rs)) (range_of (get_or rs (n - 1) d)) h)

-- what stands before a place, the nearest by itself
pub before_last : {A : Type 0} (at : ℕ → A) (n : ℕ) → 0 < n → before at n ≡ at (n - 1) ∷ before at (n - 1)
before_last at n pos = ap (before at) (let e : n ≡ suc (n - 1) = omega arith in e)

-- a key stored behind those that are open is opened; the keys behind it are as they were
module _ (ks : List Key) (n : ℕ) (k : Key) where
  below_set : (m : ℕ) → m ≤ n → before (key_at (set ks n k)) m ≡ before (key_at ks) m
  below_set zero l = refl
  below_set (suc m) l =
      ap₂ (λ r rs. route_in r ∷ rs) (get_or-set_other ks n m k (record { 0 = 0 }) (λ e. absurd (omega arith))) (below_set m (omega arith))

  pub before-set : n < length ks → before (key_at (set ks n k)) (n + 1) ≡ route_in k ∷ before (key_at ks) n
  before-set l = rw (add-one n) (ap₂ (λ r rs. route_in r ∷ rs) (get_or-set_same ks n k (record { 0 = 0 }) l) (below_set n (omega arith)))
