-- Where a length lies: what the two sides of the pool differ in, once for each. All else is said of a length that lies somewhere.
use Prim.Native.Nat.{ℕ, suc, ◌+◌, ◌-◌, ◌/◌, ◌≤◌, ◌<◌}
use mathlib.Core.Path.{◌≡◌, sym, ap, ◌∙◌}
use mathlib.Core.Bool.{Bool, true, false, cond, not, ◌&&◌}
use mathlib.Core.List.{List, [], ◌∷◌, ◌++◌, append_assoc}
use native.Mathlib.Nat.{zero-add, le_refl}
use native.Mathlib.Omega.{arith}
use lib.Dec.{leb, ltb}
use borrow.Author.Tests.{leb-true, leb-false, ltb-true, lt-ltb, le-ltb, le-leb}
use Rattle.tcam.specs.Slots.{Cell, is_free}
use Rattle.tcam.specs.Plans.{falling, chain, open_after, set_absent, remove_by, remove_present}
use Rattle.tcam.specs.Book.{is_upper_length, between, lengths}
use Rattle.tcam.specs.Loops.{edge_of, lengths_from, edge}
use Rattle.route.proofs.Tests.{both, not-both, by_test}
use Rattle.claims.proofs.Times.{All}
use Rattle.claims.proofs.Join.{join, around}
use Rattle.claims.proofs.Rows.{falling-split, lengths-all}

-- a number from lo on and below hi
in-range : (lo hi m : ℕ) → lo ≤ m → m < hi → (leb lo m && ltb m hi) ≡ true
in-range lo hi m i j = both _ _ (le-leb lo m i) (lt-ltb m hi j)

out-range : (lo hi m : ℕ) → (lo ≤ m → m < hi → ⊥) → (leb lo m && ltb m hi) ≡ false
out-range lo hi m h = not-both (leb lo m) (ltb m hi) (λ i j. h (leb-true lo m i) (ltb-true m hi j))

-- the lengths above the pool, and those below it
abbrev pub upper_lengths : ℕ → List ℕ
upper_lengths W = falling (W - W / 2 + 1) (W / 2)

abbrev pub lower_lengths : ℕ → List ℕ
lower_lengths W = falling (W / 2) 0

-- another length than n, which lies between n and the pool or not
abbrev pub Other : ℕ → ℕ → Bool → ℕ → Type 0
Other W n t m = (m ≡ n → ⊥) × (between W n m ≡ t)

-- the side of the pool that n lies on, true above; its lengths are, from outside inward, those of `outer`, n, and so many from `from` on, the
-- ones between n and the pool; a set walks the open slot in the direction of the side, outward, and a removal the other way
pub record Lies (W n : ℕ) : Type 0 where
  pub side : Bool
  pub outer : List ℕ
  pub count : ℕ
  pub from : ℕ
  pub is : is_upper_length W n ≡ side
  pub near : cond side (upper_lengths W) (lower_lengths W) ≡ around side outer n (falling count from)
  pub within : from + count ≤ W
  pub beyond : All (Other W n false) outer
  pub inside : All (Other W n true) (falling count from)
  pub across : All (Other W n false) (cond side (lower_lengths W) (upper_lengths W))
  pub own : between W n n ≡ false
  pub sets : (cs : List Cell) (c : Cell) → set_absent W cs n c ≡ chain (edge_of side cs) cs (lengths_from side count from) (open_after 0 (edge side is_free cs)) c
  pub removes : (cs : List Cell) (s : ℕ)
      → remove_present W cs n s ≡ remove_by (edge_of (not side) cs) cs (lengths_from (not side) count from) s (open_after s (edge_of (not side) cs n))

falling-about : (j k l n : ℕ) → l + k ≡ n → falling (j + suc k) l ≡ falling j (n + 1) ++ (n ∷ falling k l)
falling-about j k l n e =
    let f : l + suc k ≡ n + 1 = omega arith in
    rw (falling-split j (suc k) l, e, f)

module _ (W n : ℕ) where
  above : is_upper_length W n ≡ true → n ≤ W → Lies W n
  above upper i = let h = leb-true (W / 2) n upper in record {
    side = true;
    outer = falling (W - n) (n + 1);
    count = n - W / 2;
    from = W / 2;
    is = upper;
    near =
        let e : W - W / 2 + 1 ≡ W - n + suc (n - W / 2) = omega arith in
        rw e (falling-about (W - n) (n - W / 2) (W / 2) n (omega arith));
    within = omega arith;
    beyond = lengths-all false _ (W - n) (n + 1) (λ m x y. (omega arith, rw upper (out-range (W / 2) n m (λ j k. omega arith))));
    inside = lengths-all false _ (n - W / 2) (W / 2) (λ m x y. (omega arith, rw upper (in-range (W / 2) n m x (omega arith))));
    across = lengths-all false _ (W / 2) 0 (λ m x y. (omega arith, rw upper (out-range (W / 2) n m (λ j k. omega arith))));
    own = rw (upper, le-ltb n n (le_refl n));
    sets = λ cs c. rw upper;
    removes = λ cs s. rw upper;
  }

  below : is_upper_length W n ≡ false → Lies W n
  below lower = let h = leb-false (W / 2) n lower in record {
    side = false;
    outer = falling n 0;
    count = W / 2 - 1 - n;
    from = n + 1;
    is = lower;
    near =
        let e : W / 2 ≡ W / 2 - 1 - n + suc n = omega arith in
        ap (λ (k : ℕ). falling k 0) e ∙ falling-about (W / 2 - 1 - n) n 0 n (zero-add n)
        ∙ sym (append_assoc (falling (W / 2 - 1 - n) (n + 1)) (n ∷ []) (falling n 0));
    within = omega arith;
    beyond = lengths-all false _ n 0 (λ m x y. (omega arith, rw lower (out-range (suc n) (W / 2) m (λ j k. omega arith))));
    inside = lengths-all false _ (W / 2 - 1 - n) (n + 1) (λ m x y. (omega arith, rw lower (in-range (suc n) (W / 2) m (omega arith) (omega arith))));
    across = lengths-all false _ (W - W / 2 + 1) (W / 2) (λ m x y. (omega arith, rw lower (out-range (suc n) (W / 2) m (λ j k. omega arith))));
    own = rw (lower, le-ltb n n (le_refl n));
    sets = λ cs c. rw lower;
    removes = λ cs s. rw lower;
  }

  pub lies : n ≤ W → Lies W n
  lies i = by_test (is_upper_length W n) (λ t. above t i) below

whole : (W : ℕ) → lengths W ≡ upper_lengths W ++ lower_lengths W
whole W =
    let e : W + 1 ≡ W - W / 2 + 1 + W / 2 = omega arith in
    rw (e, falling-split (W - W / 2 + 1) (W / 2) 0, zero-add)

-- the lengths of one side and of the other
pub halves : (W : ℕ) (d : Bool) → lengths W ≡ join d (cond d (upper_lengths W) (lower_lengths W)) (cond d (lower_lengths W) (upper_lengths W))
halves W true = whole W
halves W false = whole W
