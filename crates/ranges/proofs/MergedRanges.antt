-- Ranges merged from a function and a rising row of numbers at which alone it changes: they say the function.
use Rattle.std.proofs.Common.{◌≡◌, ℕ, suc, ◌<◌, ◌≤◌, eqb, List, [], ◌∷◌, length, sym, arith, eqb-true}
use borrow.Author.Tests.{eqb-false}
use Rattle.route.proofs.Tests.{by_test}
use Rattle.ranges.specs.Ranges.{merged}
use Rattle.ranges.proofs.Boundaries.{Rising, Clear}
use Rattle.ranges.proofs.Says.{Says, says-earlier}

-- two addresses before a rising row are not separated by it
clear_before : (p q x top : ℕ) (xs : List ℕ) → q < x → Rising x top xs → Clear p q xs
clear_before p q x top [] lt s = tt
clear_before p q x top (y ∷ ys) lt s = (λ _. omega (arith, s.0), clear_before p q (suc y) top ys (omega (arith, s.0)) s.2)

module _ (f : ℕ → ℕ) where
  pub merged_few : (h : ℕ) (xs : List ℕ) → length (merged f h xs) ≤ length xs
  merged_few h [] = omega arith
  merged_few h (x ∷ xs) = by_test (eqb (f x) h)
      (λ e. rw e (omega (arith, merged_few h xs)))
      (λ e. rw e (omega (arith, merged_few (f x) xs)))

  pub merged_say : (top lo : ℕ) (xs : List ℕ) → lo < top → Rising (suc lo) top xs →
      ((a b : ℕ) → lo ≤ a → a ≤ b → b < top → Clear a b xs → f a ≡ f b) →
      Says f top lo (f lo) (merged f (f lo) xs)
  merged_say top lo [] below s same = (below, λ q l b. sym (same lo q (omega arith) l b tt))
  merged_say top lo (x ∷ xs) below s same =
      let rest = merged_say top x xs s.1 s.2 same_after in
      by_test (eqb (f x) (f lo))
      (λ e. rw e (says-earlier f top lo x (f lo) (merged f (f lo) xs) s.0 same_before (rw (eqb-true (f x) (f lo) e) at rest)))
      (λ e. rw e (s.0, same_before, eqb-false (f x) (f lo) e, rest))
    where
      same_after : (a b : ℕ) → x ≤ a → a ≤ b → b < top → Clear a b xs → f a ≡ f b
      same_after a b l m n c = same a b (omega (arith, s.0)) m n (λ h. absurd (omega arith), c)

      same_before : (q : ℕ) → lo ≤ q → q < x → f q ≡ f lo
      same_before q l b = sym (same lo q (omega arith) l (omega (arith, s.1)) (λ _. b, clear_before lo q (suc x) top xs (omega arith) s.2))
