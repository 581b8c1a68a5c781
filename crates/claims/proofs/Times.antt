-- Lists: a property of all members, and how many have a property.
use Prim.Native.Nat.{ℕ, suc, zero, ◌+◌, ◌≤◌, zero-le}
use mathlib.Core.Path.{◌≡◌, refl, sym}
use mathlib.Core.Bool.{Bool, true, false}
use mathlib.Core.List.{List, [], ◌∷◌, ◌++◌}
use native.Mathlib.Nat.{zero-add, le_refl}
use native.Mathlib.Omega.{arith}
use lib.ListN.{length, set, replicate}
use Rattle.tcam.specs.Book.{count_if}

module _ {A : Type 0} where
  abbrev pub All : (A → Type 0) → List A → Type 0
  All P [] = Unit {0}
  All P (x ∷ xs) = P x × All P xs

  pub all_append : (P : A → Type 0) (xs ys : List A) → All P xs → All P ys → All P (xs ++ ys)
  all_append P [] ys a b = b
  all_append P (x ∷ xs) ys a b = (a.0, all_append P xs ys a.1 b)

  pub all-front : (P : A → Type 0) (xs ys : List A) → All P (xs ++ ys) → All P xs
  all-front P [] ys a = tt
  all-front P (x ∷ xs) ys a = (a.0, all-front P xs ys a.1)

  pub all_back : (P : A → Type 0) (xs ys : List A) → All P (xs ++ ys) → All P ys
  all_back P [] ys a = a
  all_back P (x ∷ xs) ys a = all_back P xs ys a.1

  -- without one of them
  pub all-less : (P : A → Type 0) (xs : List A) (y : A) (ys : List A) → All P (xs ++ (y ∷ ys)) → All P (xs ++ ys)
  all-less P xs y ys h = all_append P xs ys (all-front P xs (y ∷ ys) h) (all_back P xs (y ∷ ys) h).1

  pub all_map : (P Q : A → Type 0) → ((x : A) → P x → Q x) → (xs : List A) → All P xs → All Q xs
  all_map P Q f [] a = tt
  all_map P Q f (x ∷ xs) a = (f x a.0, all_map P Q f xs a.1)

  pub every : (P : A → Type 0) → ((x : A) → P x) → (xs : List A) → All P xs
  every P h [] = tt
  every P h (x ∷ xs) = (h x, every P h xs)

  -- how many members pass a test
  abbrev pub times : (A → Bool) → List A → ℕ
  times p [] = 0
  times p (x ∷ xs) = count_if (p x) + times p xs

  pub times-append : (p : A → Bool) (xs ys : List A) → times p (xs ++ ys) ≡ times p xs + times p ys
  times-append p [] ys = sym (zero-add (times p ys))
  times-append p (x ∷ xs) ys = omega (arith, times-append p xs ys)

  pub times-mono : (s t : A → Bool) → ((x : A) → s x ≡ true → t x ≡ true) → (xs : List A) → times s xs ≤ times t xs
  times-mono s t h [] = zero-le
  times-mono s t h (x ∷ xs) = omega (arith, step (s x) (t x) (h x), times-mono s t h xs)
    where
      step : (a b : Bool) → (a ≡ true → b ≡ true) → count_if a ≤ count_if b
      step true b h = rw (h refl) (le_refl 1)
      step false b h = zero-le

  pub times-most : (t : A → Bool) (xs : List A) → times t xs ≤ length xs
  times-most t [] = zero-le
  times-most t (x ∷ xs) = omega (arith, one (t x), times-most t xs)
    where
      one : (b : Bool) → count_if b ≤ 1
      one true = le_refl 1
      one false = zero-le

  pub times-same : (s t : A → Bool) (xs : List A) → All (λ x. s x ≡ t x) xs → times s xs ≡ times t xs
  times-same s t [] h = refl
  times-same s t (x ∷ xs) h = rw h.0 (omega (arith, times-same s t xs h.1))

pub none_here : (t : Bool) (n : ℕ) → count_if t + n ≡ 0 → t ≡ false
none_here true n h = absurd (omega arith)
none_here false n h = refl

pub none : {A : Type 0} (t : A → Bool) (xs : List A) → All (λ x. t x ≡ false) xs → times t xs ≡ 0
none t [] h = refl
none t (x ∷ xs) h = rw h.0 (omega (arith, none t xs h.1))

pub all_set : {A : Type 0} (P : A → Type 0) (xs : List A) (i : ℕ) (x : A) → All P xs → P x → All P (set xs i x)
all_set P [] i x h k = tt
all_set P (y ∷ xs) zero x h k = (k, h.1)
all_set P (y ∷ xs) (suc i) x h k = (h.0, all_set P xs i x h.1 k)

pub all-copies : {A : Type 0} (P : A → Type 0) (n : ℕ) (x : A) → P x → All P (replicate n x)
all-copies P zero x h = tt
all-copies P (suc n) x h = (h, all-copies P n x h)
