-- A row of the book: valid entries of one length, each address once.
use Prim.Native.Nat.{ℕ, ◌+◌, ◌%◌, ◌≤◌}
use mathlib.Core.Path.{◌≡◌, refl}
use mathlib.Core.Bool.{Bool, true, false, not}
use mathlib.Core.List.{List}
use native.Mathlib.Nat.{le_refl}
use native.Mathlib.Omega.{arith}
use lib.Dec.{eqb, leb}
use borrow.Author.Tests.{eqb-true, eqb-false, leb-true, not-true}
use Rattle.route.specs.Rule.{span}
use Rattle.route.specs.RowsOfSet.{Valid}
use Rattle.tcam.specs.Slots.{Cell, is_free, length_in, hop_in, keeps_s1}
use Rattle.tcam.specs.Book.{count_if}
use Rattle.tcam.specs.Tables.{route_of}
use Rattle.route.proofs.Tests.{all_three, or_right}
use Rattle.claims.proofs.Times.{All, times}

-- a used slot of length l that keeps S1
pub record IsEntry (W l : ℕ) (c : Cell) : Type 0 where
  pub used : is_free c ≡ false
  pub long : length_in c ≡ l
  pub keeps : keeps_s1 W c ≡ true

-- a used slot that keeps S1 holds a valid route
pub cell-valid : (W : ℕ) (c : Cell) → is_free c ≡ false → keeps_s1 W c ≡ true → Valid W (route_of c)
cell-valid W c u k =
    let t = all_three (leb (length_in c) W) (eqb (c.address % span W (length_in c)) 0) (not (eqb (hop_in c) 0)) (or_right (is_free c) _ k u) in
    let n = leb-true (length_in c) W t.0 in
    let h = eqb-false (hop_in c) 0 (not-true _ t.2) in
    record { short = n; aligned = eqb-true _ 0 t.1; hopped = omega arith; small = omega arith }

-- how often a row has an address
abbrev pub at : ℕ → Cell → Bool
at a c = eqb c.address a

pub record Row (W l : ℕ) (r : List Cell) : Type 0 where
  pub entries : All (IsEntry W l) r
  pub once : (a : ℕ) → times (at a) r ≤ 1

-- a row made of entries of another
pub row_from : {W l : ℕ} {r : List Cell} (s : List Cell) → Row W l r → All (IsEntry W l) s → ((a : ℕ) → times (at a) s ≤ times (at a) r) → Row W l s
row_from s w e h = record { entries = e; once = λ a. omega (arith, h a, w.once a) }

-- a row with one more entry, wherever it joins
pub row_more : {W l : ℕ} (e : Cell) (r s : List Cell) → Row W l r → times (at e.address) r ≡ 0 → All (IsEntry W l) s
    → ((a : ℕ) → times (at a) s ≡ count_if (at a e) + times (at a) r) → Row W l s
row_more e r s w h es same = record { entries = es; once = λ a. rw (same a) (go a (at a e) refl) }
  where
    go : (a : ℕ) (t : Bool) → at a e ≡ t → count_if t + times (at a) r ≤ 1
    go a true q = let h' = rw (eqb-true e.address a q) at h in rw h' (le_refl 1)
    go a false q = omega (arith, w.once a)
