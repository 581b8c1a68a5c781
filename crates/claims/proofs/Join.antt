-- Two lists one after the other, from left to right or from right to left: so what holds on one side of the pool, or of a walk of the
-- open slot one way, is said once for both.
use Prim.Native.Nat.{ℕ, suc, zero, ◌+◌, ◌<◌}
use mathlib.Core.Path.{◌≡◌, refl, sym, ap}
use mathlib.Core.Bool.{Bool, true, false, cond, not}
use mathlib.Core.List.{List, [], ◌∷◌, ◌++◌, append_assoc, append-nil}
use native.Mathlib.Omega.{arith}
use lib.ListN.{length, length-append, replicate}
use Rattle.claims.proofs.Times.{All, all_append, all-front, all_back, times, times-append}

module _ {A : Type 0} where
  abbrev pub join : Bool → List A → List A → List A
  join true xs ys = xs ++ ys
  join false xs ys = ys ++ xs

  pub join-nil : (d : Bool) (xs : List A) → join d xs [] ≡ xs
  join-nil true xs = append-nil xs
  join-nil false xs = refl

  pub nil-join : (d : Bool) (xs : List A) → join d [] xs ≡ xs
  nil-join true xs = refl
  nil-join false xs = append-nil xs

  pub join-assoc : (d : Bool) (xs ys zs : List A) → join d (join d xs ys) zs ≡ join d xs (join d ys zs)
  join-assoc true xs ys zs = append_assoc xs ys zs
  join-assoc false xs ys zs = sym (append_assoc zs ys xs)

  -- the other way round
  pub join-not : (d : Bool) (xs ys : List A) → join (not d) xs ys ≡ join d ys xs
  join-not true xs ys = refl
  join-not false xs ys = refl

  -- y with xs on the one side and zs on the other
  abbrev pub around : Bool → List A → A → List A → List A
  around d xs y zs = join d xs (join d (y ∷ []) zs)

  -- what stands on the left of it, and on the right
  pub around-is : (d : Bool) (xs : List A) (y : A) (zs : List A) → around d xs y zs ≡ cond d xs zs ++ (y ∷ cond d zs xs)
  around-is true xs y zs = refl
  around-is false xs y zs = append_assoc zs (y ∷ []) xs

  pub both-sides : (d : Bool) (xs ys : List A) → cond d xs ys ++ cond d ys xs ≡ join d xs ys
  both-sides true xs ys = refl
  both-sides false xs ys = refl

  -- three lists, seen from either side
  pub from-left : (d : Bool) (xs ys zs : List A) → xs ++ (ys ++ zs) ≡ join d (cond d xs zs) (join d ys (cond d zs xs))
  from-left true xs ys zs = refl
  from-left false xs ys zs = sym (append_assoc xs ys zs)

  -- the place of what stands between xs and zs: how many stand on its left
  abbrev pub place : Bool → List A → List A → ℕ
  place d xs zs = length (cond d xs zs)

  pub place_same : (d : Bool) (xs ys zs : List A) → length ys ≡ length zs → place d xs ys ≡ place d xs zs
  place_same true xs ys zs e = refl
  place_same false xs ys zs e = e

  pub place-apart : (d : Bool) (xs ys us vs : List A) → 0 < length us → 0 < length vs → place d (join d xs us) ys ≡ place d xs (join d vs ys) → ⊥
  place-apart true xs ys us vs i j e = omega (arith, length-append xs us)
  place-apart false xs ys us vs i j e = omega (arith, length-append ys vs)

  pub length-join : (d : Bool) (xs ys : List A) → length (join d xs ys) ≡ length xs + length ys
  length-join true xs ys = length-append xs ys
  length-join false xs ys = omega (arith, length-append ys xs)

  pub times-join : (d : Bool) (t : A → Bool) (xs ys : List A) → times t (join d xs ys) ≡ times t xs + times t ys
  times-join true t xs ys = times-append t xs ys
  times-join false t xs ys = omega (arith, times-append t ys xs)

  pub all_join : (d : Bool) (P : A → Type 0) (xs ys : List A) → All P xs → All P ys → All P (join d xs ys)
  all_join true P xs ys a b = all_append P xs ys a b
  all_join false P xs ys a b = all_append P ys xs b a

  pub all-parts : (d : Bool) (P : A → Type 0) (xs ys : List A) → All P (join d xs ys) → All P xs × All P ys
  all-parts true P xs ys a = (all-front P xs ys a, all_back P xs ys a)
  all-parts false P xs ys a = (all_back P ys xs a, all-front P ys xs a)

  -- one more copy
  pub join-copies : (d : Bool) (n : ℕ) (x : A) → join d (x ∷ []) (replicate n x) ≡ replicate (suc n) x
  join-copies true n x = refl
  join-copies false zero x = refl
  join-copies false (suc n) x = ap (λ (l : List A). x ∷ l) (join-copies false n x)
