-- Members of a list: one that passes a test, none that does, what holds of each.
use Prim.Native.Nat.{ℕ, zero, suc}
use mathlib.Core.Path.{◌≡◌, refl, subst⁻¹}
use mathlib.Core.Bool.{Bool, true, false, or-true}
use mathlib.Core.List.Memᴰ
use mathlib.Core.List.{List, [], ◌∷◌}
use lib.ListN.{get_or}
use Rattle.route.specs.RightHop.{◌∈◌}
use Rattle.route.specs.Lists.{any}
use Rattle.route.proofs.Tests.{neither, is_false, clash, or_parts}

module _ {A : Type 0} where
  pub any-so : (p : A → Bool) {x : A} {xs : List A} → x ∈ xs → p x ≡ true → any p xs ≡ true
  any-so p (Memᴰ.head e) h = let h' = rw e at h in rw h'
  any-so p (Memᴰ.tail {x = x} m) h = rw (any-so p m h) (or-true (p x))

  -- where none passes a test, none passes a stronger one
  pub none-stronger : (p q : A → Bool) → ((x : A) → p x ≡ true → q x ≡ true) → (xs : List A) → any q xs ≡ false → any p xs ≡ false
  none-stronger p q h [] e = refl
  none-stronger p q h (x ∷ xs) e =
      let parts = or_parts (q x) (any q xs) e in
      neither (p x) (any p xs) (is_false (p x) (λ y. clash (h x y) parts.0)) (none-stronger p q h xs parts.1)

  -- of the first member and of the others, so of all
  pub each_of : {P : A → Type 0} (x : A) (xs : List A) → P x → ((y : A) → y ∈ xs → P y) → (y : A) → y ∈ (x ∷ xs) → P y
  each_of {P} x xs h k y (Memᴰ.head e) = subst⁻¹ P e h
  each_of x xs h k y (Memᴰ.tail m) = k y m

-- of the number at each place, so of each member
pub each_at : (P : ℕ → Type 0) (xs : List ℕ) → ((i : ℕ) → P (get_or xs i 0)) → (x : ℕ) → x ∈ xs → P x
each_at P [] k = λ x m. absurd (Memᴰ.not-nil m)
each_at P (x ∷ xs) k = each_of {P = P} x xs (k zero) (each_at P xs (λ i. k (suc i)))
