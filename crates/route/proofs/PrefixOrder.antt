-- The order of prefixes is strict and total, and it is the order of their keys.
use Prim.Native.Nat.{ℕ, ◌+◌, ◌*◌, ◌≤◌, ◌<◌}
use mathlib.Core.Path.{◌≡◌, sym, ◌∙◌}
use mathlib.Core.Bool.{true, false, ◌&&◌}
use native.Mathlib.Omega.{arith}
use lib.Dec.{ltb, eqb}
use borrow.Author.Tests.{ltb-true, ltb-false, eqb-true, lt-ltb, le-ltb, eq-eqb}
use Rattle.route.specs.PrefixOrder.{comes_before, key_of}
use Rattle.route.proofs.Tests.{by_test, clash, is_false, and_parts, or_right}

module _ (a n b m : ℕ) where
  pub by_address : a < b → comes_before a n b m ≡ true
  by_address l = rw (lt-ltb a b l)

  pub by_length : a ≡ b → n < m → comes_before a n b m ≡ true
  by_length e l = rw (le-ltb a b (omega arith), eq-eqb a b e, lt-ltb n m l)

  pub by_order : {C : Type 0} → comes_before a n b m ≡ true → (a < b → C) → (a ≡ b → n < m → C) → C
  by_order t f g = by_test (ltb a b)
      (λ e. f (ltb-true a b e))
      (λ e. let p = and_parts (eqb a b) (ltb n m) (or_right (ltb a b) (eqb a b && ltb n m) t e) in
      g (eqb-true a b p.0) (ltb-true n m p.1))

  -- two prefixes are compared by one number each
  pub by_key : n < 64 → m < 64 → comes_before a n b m ≡ ltb (key_of a n) (key_of b m)
  by_key i j = by_test (comes_before a n b m)
      (λ t. t ∙ sym (lt-ltb (key_of a n) (key_of b m) (by_order t (λ l. omega arith) (λ e l. omega arith))))
      (λ t. t ∙ sym (is_false _ (λ s. let l : a * 64 + n < b * 64 + m = ltb-true _ _ s in by_test (ltb a b)
      (λ u. clash (by_address (ltb-true a b u)) t)
      (λ u. let v = ltb-false a b u in clash (by_length (omega arith) (omega arith)) t))))

pub before-trans : (a n b m c l : ℕ) → comes_before a n b m ≡ true → comes_before b m c l ≡ true → comes_before a n c l ≡ true
before-trans a n b m c l s t = by_order a n b m s
    (λ x. by_order b m c l t (λ y. by_address a n c l (omega arith)) (λ e y. by_address a n c l (omega arith)))
    (λ d x. by_order b m c l t (λ y. by_address a n c l (omega arith)) (λ e y. by_length a n c l (omega arith) (omega arith)))

-- no prefix comes before itself
pub not_itself : (a n b m : ℕ) → a ≡ b → n ≡ m → comes_before a n b m ≡ false
not_itself a n b m d e = is_false (comes_before a n b m) (λ t. by_order a n b m t (λ l. omega arith) (λ f l. omega arith))

-- where b/m does not come before a/n, its address is no less, and where addresses are equal its length is not
pub no-later : (a n b m : ℕ) → comes_before b m a n ≡ false → (a ≤ b) × (a ≡ b → n ≤ m)
no-later a n b m t = (
  by_test (ltb b a) (λ e. clash (by_address b m a n (ltb-true b a e)) t) (λ e. omega (arith, ltb-false b a e)),
  (λ d. by_test (ltb m n) (λ e. clash (by_length b m a n (sym d) (ltb-true m n e)) t) (λ e. omega (arith, ltb-false m n e))),
)

-- two of which neither comes before the other are one
pub neither-before : (a n b m : ℕ) → comes_before a n b m ≡ false → comes_before b m a n ≡ false → (a ≡ b) × (n ≡ m)
neither-before a n b m s t =
    let u = no-later a n b m t in
    let v = no-later b m a n s in
    let e : a ≡ b = omega (arith, u.0, v.0) in
    (e, omega (arith, u.1 e, v.1 (sym e)))

-- what comes before c/l, and not before b/m, leaves b/m before c/l
pub before-from : (a n b m c l : ℕ) → comes_before a n b m ≡ false → comes_before a n c l ≡ true → comes_before b m c l ≡ true
before-from a n b m c l s t = by_test (comes_before b m a n)
    (λ e. before-trans b m a n c l e t)
    (λ e. let p = neither-before a n b m s e in rw (← p.0, ← p.1) t)
