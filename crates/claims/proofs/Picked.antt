-- The members of a list that pass a test, and a list in falling order of a key as the rows of its keys.
use Prim.Native.Nat.{ℕ, suc, zero, ◌+◌, ◌≤◌, ◌<◌}
use mathlib.Core.Path.{◌≡◌, refl, sym, ap, ◌∙◌}
use mathlib.Core.Bool.{Bool, false, cond, ◌&&◌}
use mathlib.Core.List.{List, [], ◌∷◌, ◌++◌}
use native.Mathlib.Nat.{zero-add}
use native.Mathlib.Omega.{arith}
use lib.Dec.{eqb}
use borrow.Author.Tests.{eqb-true, eqb-false, ne_eqb}
use Rattle.tcam.specs.Slots.{Cell}
use Rattle.tcam.specs.Plans.{falling}
use Rattle.tcam.specs.Book.{Book, rows}
use Rattle.route.proofs.Tests.{by_test}
use Rattle.claims.proofs.Times.{All, all_map, times}
use Rattle.claims.proofs.Rows.{lengths-all, no_rows, rows_agree}
use Rattle.claims.proofs.Pairs.{Pairs}

-- the members that pass a test
abbrev pub picked : (Cell → Bool) → List Cell → List Cell
picked t [] = []
picked t (x ∷ xs) = cond (t x) (x ∷ picked t xs) (picked t xs)

pub picked-append : (t : Cell → Bool) (xs ys : List Cell) → picked t (xs ++ ys) ≡ picked t xs ++ picked t ys
picked-append t [] ys = refl
picked-append t (x ∷ xs) ys = by_test (t x) (λ e. rw (e, picked-append t xs ys)) (λ e. rw (e, picked-append t xs ys))

pub picked-agree : (s t : Cell → Bool) (xs : List Cell) → All (λ x. s x ≡ t x) xs → picked s xs ≡ picked t xs
picked-agree s t [] h = refl
picked-agree s t (x ∷ xs) h = rw (h.0, picked-agree s t xs h.1)

picked_none : (t : Cell → Bool) (xs : List Cell) → All (λ x. t x ≡ false) xs → picked t xs ≡ []
picked_none t [] h = refl
picked_none t (x ∷ xs) h = rw h.0 (picked_none t xs h.1)

-- how many of them pass another
pub times-picked : (s t : Cell → Bool) (xs : List Cell) → times s (picked t xs) ≡ times (λ x. t x && s x) xs
times-picked s t [] = refl
times-picked s t (x ∷ xs) = by_test (t x) (λ e. rw (e, times-picked s t xs)) (λ e. rw (e, times-picked s t xs) (sym (zero-add _)))

pub times-own : (t : Cell → Bool) (xs : List Cell) → times t (picked t xs) ≡ times t xs
times-own t [] = refl
times-own t (x ∷ xs) = by_test (t x) (λ e. rw (e, times-own t xs) (rw e)) (λ e. rw (e, times-own t xs) (sym (zero-add _)))

-- one more entry of a key joins the front of its row, where the rows of greater keys are empty
push : (b : Book) (key : ℕ) (x : Cell) (k l : ℕ) → l ≤ key → key < l + k → ((m : ℕ) → key < m → b m ≡ [])
    → rows (λ m. cond (eqb key m) (x ∷ b m) (b m)) (falling k l) ≡ x ∷ rows b (falling k l)
push b key x zero l i j h = absurd (omega arith)
push b key x (suc k) l i j h = by_test (eqb key (l + k))
    (λ t. let e = eqb-true key (l + k) t in
    rw t (ap (λ (r : List Cell). x ∷ (b (l + k) ++ r))
    (rows_agree (λ m. cond (eqb key m) (x ∷ b m) (b m)) b (falling k l) (lengths-all false _ k l (λ m y z. rw (ne_eqb key m (omega arith)))))))
    (λ t. let ne = eqb-false key (l + k) t in
    rw (t, h (l + k) (omega arith)) (push b key x k l i (omega arith) h))

module _ (key : Cell → ℕ) where
  abbrev pub keyed : List Cell → Book
  keyed xs m = picked (λ x. eqb (key x) m) xs

  -- a list in falling order is its rows, from the greatest key to the least
  pub sorted : (k l : ℕ) (xs : List Cell) → All (λ x. l ≤ key x) xs → All (λ x. key x < l + k) xs → Pairs (λ x y. key y ≤ key x) xs
      → rows (keyed xs) (falling k l) ≡ xs
  sorted k l [] lo hi p = no_rows (falling k l)
  sorted k l (x ∷ xs) lo hi p =
      push (keyed xs) (key x) x k l lo.0 hi.0
      (λ m i. picked_none _ xs (all_map _ _ (λ y j. ne_eqb (key y) m (omega arith)) xs p.0))
      ∙ ap (λ (r : List Cell). x ∷ r) (sorted k l xs lo.1 hi.1 p.1)
