-- An image that keeps S1 to S4 is the image of the book of its rows.
use Prim.Native.Nat.{ℕ, suc, zero, ◌+◌, ◌-◌, ◌/◌, ◌≤◌, ◌<◌}
use mathlib.Core.Path.{◌≡◌, refl, sym, ap, ◌∙◌}
use mathlib.Core.Bool.{Bool, true, false, not}
use mathlib.Core.List.{List, [], ◌∷◌, ◌++◌}
use native.Mathlib.Nat.{zero-add}
use native.Mathlib.Omega.{arith}
use lib.Dec.{eqb}
use lib.ListN.{length, length-append, length-replicate, replicate}
use borrow.Author.Tests.{eqb-true, eq-eqb, not-true}
use Rattle.tcam.specs.Slots.{Cell, free, is_free, length_in}
use Rattle.tcam.specs.Plans.{falling, of_length}
use Rattle.tcam.specs.Book.{Book, rows, entries, book_image}
use Rattle.tcam.proofs.Cells.{used-short}
use Rattle.route.proofs.Tests.{by_test, both, and_parts, clash}
use Rattle.claims.proofs.Times.{All, all_map, every, times}
use Rattle.claims.proofs.Row.{IsEntry, Row, at}
use Rattle.claims.proofs.Rows.{falling-split, lengths-all, rows_join, rows_agree}
use Rattle.claims.proofs.Lies.{upper_lengths, lower_lengths}
use Rattle.claims.proofs.Image.{entries-length}
use Rattle.claims.proofs.Pairs.{Pairs}
use Rattle.claims.proofs.Apply.{Keeps}
use Rattle.claims.proofs.Set.{Once}
use Rattle.claims.proofs.Picked.{picked, picked-agree, times-picked, keyed, sorted}
use Rattle.claims.proofs.Rank.{rank, Class, pool, above, below, class_of, Falls}

-- the rows of an image
abbrev pub book_of : List Cell → Book
book_of cs l = picked (of_length l) cs

same_test : (s t : Bool) → (s ≡ true → t ≡ true) → (t ≡ true → s ≡ true) → s ≡ t
same_test true t f g = sym (f refl)
same_test false true f g = g refl
same_test false false f g = refl

-- a slot's rank tells its length and whether it is free
module _ (W : ℕ) (x : Cell) where
  of_length_lem : (m : ℕ) → is_free x ≡ false → length_in x ≡ m → of_length m x ≡ true
  of_length_lem m u e = both (not (is_free x)) (eqb (length_in x) m) (ap not u) (eq-eqb _ _ e)

  length-of : (m : ℕ) → of_length m x ≡ true → (is_free x ≡ false) × (length_in x ≡ m)
  length-of m e = let t = and_parts (not (is_free x)) (eqb (length_in x) m) e in (not-true (is_free x) t.0, eqb-true _ _ t.1)

  rank-upper : (m : ℕ) → W / 2 ≤ m → eqb (rank W x) (suc m) ≡ of_length m x
  rank-upper m i = same_test _ _ (λ e. to (eqb-true _ _ e) (class_of W x))
      (λ e. let t = length-of m e in eq-eqb _ _ (from t.0 t.1 (class_of W x)))
    where
      to : rank W x ≡ suc m → Class W x → of_length m x ≡ true
      to e (pool f r) = absurd (omega arith)
      to e (above f j r) = of_length_lem m f (omega arith)
      to e (below f j r) = absurd (omega arith)

      from : is_free x ≡ false → length_in x ≡ m → Class W x → rank W x ≡ suc m
      from u e (pool f r) = clash f u
      from u e (above f j r) = omega arith
      from u e (below f j r) = absurd (omega arith)

  rank-lower : (m : ℕ) → m < W / 2 → eqb (rank W x) m ≡ of_length m x
  rank-lower m i = same_test _ _ (λ e. to (eqb-true _ _ e) (class_of W x))
      (λ e. let t = length-of m e in eq-eqb _ _ (from t.0 t.1 (class_of W x)))
    where
      to : rank W x ≡ m → Class W x → of_length m x ≡ true
      to e (pool f r) = absurd (omega arith)
      to e (above f j r) = absurd (omega arith)
      to e (below f j r) = of_length_lem m f (omega arith)

      from : is_free x ≡ false → length_in x ≡ m → Class W x → rank W x ≡ m
      from u e (pool f r) = clash f u
      from u e (above f j r) = absurd (omega arith)
      from u e (below f j r) = omega arith

  rank-pool : eqb (rank W x) (W / 2) ≡ is_free x
  rank-pool = same_test _ _ (λ e. to (eqb-true _ _ e) (class_of W x)) (λ e. let r : rank W x ≡ W / 2 = rw e in eq-eqb _ _ r)
    where
      to : rank W x ≡ W / 2 → Class W x → is_free x ≡ true
      to e (pool f r) = f
      to e (above f j r) = absurd (omega arith)
      to e (below f j r) = absurd (omega arith)

  rank_most : Keeps W x → rank W x < 0 + (W + 2)
  rank_most k = go (class_of W x)
    where
      go : Class W x → rank W x < 0 + (W + 2)
      go (pool f r) = omega arith
      go (above f j r) = let s = used-short W x k f in omega arith
      go (below f j r) = let s = used-short W x k f in omega arith

-- the free slots are alike
is_free_lem : (c : Cell) → is_free c ≡ true → c ≡ free
is_free_lem c e =
    let t = and_parts (eqb c.address 0) (eqb c.tag 0) e in
    λ k. record { address = eqb-true c.address 0 t.0 k; tag = eqb-true c.tag 0 t.1 k }

free-row : (cs : List Cell) → picked is_free cs ≡ replicate (times is_free cs) free
free-row [] = refl
free-row (c ∷ cs) = by_test (is_free c)
    (λ e. rw (e, free-row cs) (rw (one_more (times is_free cs)) (ap (λ (x : Cell). x ∷ replicate (times is_free cs) free) (is_free_lem c e))))
    (λ e. rw (e, free-row cs, zero-add))
  where
    one_more : (k : ℕ) → 1 + k ≡ suc k
    one_more k = omega arith

rows-shift : (f : Book) (k l : ℕ) → rows f (falling k (0 + suc l)) ≡ rows (λ m. f (suc m)) (falling k l)
rows-shift f zero l = refl
rows-shift f (suc k) l =
    let e : 0 + suc l + k ≡ suc (l + k) = omega arith in
    rw e (ap (λ (r : List Cell). f (suc (l + k)) ++ r) (rows-shift f k l))

module _ (W : ℕ) (cs : List Cell) (keeps : All (Keeps W) cs) (falls : Pairs (Falls W) cs) where
  abbrev b : Book
  b = book_of cs

  abbrev p : ℕ
  p = times is_free cs

  by_rank : rows (keyed (rank W) cs) (falling (W + 2) 0) ≡ cs
  by_rank = sorted (rank W) (W + 2) 0 cs (every _ (λ x. omega arith) cs) (all_map _ _ (rank_most W) cs keeps) falls

  parts : rows b (upper_lengths W) ++ (replicate p free ++ rows b (lower_lengths W)) ≡ cs
  parts =
      let e : W + 2 ≡ W - W / 2 + 1 + suc (W / 2) = omega arith in
      let up = rows-shift (keyed (rank W) cs) (W - W / 2 + 1) (W / 2)
      ∙ rows_agree _ b (upper_lengths W)
      (lengths-all false _ (W - W / 2 + 1) (W / 2) (λ m i j. picked-agree _ _ cs (every _ (λ x. rank-upper W x m i) cs))) in
      let mid = picked-agree (λ x. eqb (rank W x) (W / 2)) is_free cs (every _ (rank-pool W) cs) ∙ free-row cs in
      let low = rows_agree (keyed (rank W) cs) b (lower_lengths W)
      (lengths-all false _ (W / 2) 0 (λ m i j. picked-agree _ _ cs (every _ (λ x. rank-lower W x m (omega arith)) cs))) in
      rw (e, falling-split (W - W / 2 + 1) (suc (W / 2)) 0, rows_join (keyed (rank W) cs) true, up, zero-add, mid, low) at by_rank

  free-count : length (entries W b) + p ≡ length cs
  free-count = omega (arith, entries-length W b, simp (length-append, length-replicate) at (ap length parts))

  pub ordered-image : book_image W (length cs) b ≡ cs
  ordered-image = let e : length cs - length (entries W b) ≡ p = omega (arith, free-count) in rw e parts

  pub entries-few : length (entries W b) ≤ length cs
  entries-few = omega (arith, free-count)

all-picked : (W l : ℕ) (cs : List Cell) → All (Keeps W) cs → All (IsEntry W l) (picked (of_length l) cs)
all-picked W l [] h = tt
all-picked W l (c ∷ cs) h = by_test (of_length l c)
    (λ e. let t = length-of W c l e in rw e (record { used = t.0; long = t.1; keeps = h.0 }, all-picked W l cs h.1))
    (λ e. rw e (all-picked W l cs h.1))

-- so the rows have each address once
pub book_of-row : (W : ℕ) (cs : List Cell) → All (Keeps W) cs → Once cs → (l : ℕ) → Row W l (book_of cs l)
book_of-row W cs keeps once l = record { entries = all-picked W l cs keeps; once = λ a. rw (times-picked (at a) (of_length l) cs) (once a l) }
