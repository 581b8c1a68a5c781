-- The removal of a second copy walks its slot to the pool, as a removal does, and leaves the image of a book.
use Prim.Native.Nat.{ℕ, suc, zero, ◌+◌, ◌-◌, ◌≤◌, ◌<◌}
use mathlib.Core.Path.{◌≡◌, refl, sym, ap, subst, subst₂, ◌∙◌}
use mathlib.Core.Bool.{Bool, true, false, cond, not}
use mathlib.Core.List.{List, [], ◌∷◌, ◌++◌}
use native.Mathlib.Omega.{arith}
use lib.Dec.{eqb}
use lib.ListN.{length, length-append, length-replicate, replicate}
use borrow.Author.Tests.{eqb-true, eqb-false, eq-eqb, ne_eqb}
use Rattle.tcam.specs.Slots.{Cell, free, is_free, length_in}
use Rattle.tcam.specs.Plans.{falling, of_length, remove_present}
use Rattle.tcam.specs.Book.{Book, rows, entries, book_image, between}
use Rattle.tcam.proofs.Cells.{used-short}
use Rattle.route.proofs.Tests.{by_test}
use Rattle.claims.proofs.Times.{All, all_map, all_append, all-front, all_back, all-less, times, times-append}
use Rattle.claims.proofs.Join.{join, around-is, from-left, join-assoc, join-not, join-copies, length-join, times-join, all_join, place}
use Rattle.claims.proofs.Row.{IsEntry, Row, at, row_from}
use Rattle.claims.proofs.Turn.{turn, ended, filled, all-turn, times-turn, length-turn, row-turn}
use Rattle.claims.proofs.Rows.{rows_agree, filled_rows}
use Rattle.claims.proofs.Walk.{Walk}
use Rattle.claims.proofs.Hop.{Goes, walks-as}
use Rattle.claims.proofs.Chain.{entry_of, entry-not, Only, walk_from_lem}
use Rattle.claims.proofs.Lies.{Lies, Other, lies}
use Rattle.claims.proofs.Image.{BookOk, Shape, inner_lengths, far_lengths, laid, image-about, next-about, entries-parts}
use Rattle.claims.proofs.Pairs.{Pairs}
use Rattle.claims.proofs.Apply.{Keeps}
use Rattle.claims.proofs.Picked.{picked, picked-append, times-own}
use Rattle.claims.proofs.Rank.{Falls}
use Rattle.claims.proofs.BookOf.{book_of, book_of-row, ordered-image, entries-few}
use Rattle.claims.proofs.Set.{Once}

-- two members that pass a test, with as many before each that pass it, are in one place
one_place : (t : Cell → Bool) (xs : List Cell) (x : Cell) (xs' ys : List Cell) (y : Cell) (ys' : List Cell) → t x ≡ true → t y ≡ true
    → times t xs ≡ times t ys → xs ++ (x ∷ xs') ≡ ys ++ (y ∷ ys') → (xs ≡ ys) × (xs' ≡ ys')
one_place t [] x xs' [] y ys' p q n e = (refl, cc)
one_place t [] x xs' (z ∷ ys) y ys' p q n e =
    let f : x ≡ z = cc in
    let p' : t z ≡ true = rw f at p in
    let n' = rw p' at n in
    absurd (omega arith)
one_place t (w ∷ xs) x xs' [] y ys' p q n e =
    let f : w ≡ y = cc in
    let p' : t w ≡ true = rw f q in
    let n' = rw p' at n in
    absurd (omega arith)
one_place t (w ∷ xs) x xs' (z ∷ ys) y ys' p q n e =
    let f : w ≡ z = cc in
    let g : xs ++ (x ∷ xs') ≡ ys ++ (y ∷ ys') = cc in
    let n' = rw f at n in
    let r = one_place t xs x xs' ys y ys' p q (omega arith) g in
    (cc (f, r.0), r.1)

-- what holds of all lengths of a run holds of each
falling-at : (P : ℕ → Type 0) (k l m : ℕ) → l ≤ m → m < l + k → All P (falling k l) → P m
falling-at P zero l m i j h = absurd (omega arith)
falling-at P (suc k) l m i j h = by_test (eqb m (l + k))
    (λ t. subst P (sym (eqb-true m (l + k) t)) h.0)
    (λ t. let ne = eqb-false m (l + k) t in falling-at P k l m i (omega arith) h.1)

module _ {A : Type 0} where
  both-times : (d : Bool) (t : A → Bool) (xs ys : List A) → times t (cond d xs ys) + times t (cond d ys xs) ≡ times t xs + times t ys
  both-times true t xs ys = refl
  both-times false t xs ys = omega arith

  both-lengths : (d : Bool) (xs ys : List A) → length (cond d xs ys) + length (cond d ys xs) ≡ length xs + length ys
  both-lengths true xs ys = refl
  both-lengths false xs ys = omega arith

  left-times : (d : Bool) (t : A → Bool) (near xs ys outer : List A) → times t near ≡ 0 → times t outer ≡ 0
      → times t (cond d (join d near (cond d xs ys)) (join d (cond d ys xs) outer)) ≡ times t xs
  left-times true t near xs ys outer z w = omega (arith, times-append t near xs)
  left-times false t near xs ys outer z w = omega (arith, times-append t outer xs)

row-part : {W l : ℕ} (d : Bool) (xs ys : List Cell) → Row W l (xs ++ ys) → Row W l (cond d xs ys)
row-part true xs ys w = row_from xs w (all-front _ xs ys w.entries) (λ a. omega (arith, times-append (at a) xs ys))
row-part false xs ys w = row_from ys w (all_back _ xs ys w.entries) (λ a. omega (arith, times-append (at a) xs ys))

-- the removal of the cell x from its slot, behind those of `front`: a walk to the image of a book
pub record Mended (W : ℕ) (front : List Cell) (x : Cell) (back : List Cell) : Type 0 where
  pub next : Book
  pub short : length_in x ≤ W
  pub walk :
      Walk W free front x back (remove_present W (front ++ (x ∷ back)) (length_in x) (length front)) (book_image W (length (front ++ (x ∷ back))) next)
  pub ok : BookOk W (length (front ++ (x ∷ back))) next

-- the cell x stands between `front` and `back`; without it each prefix stands once
module _ (W : ℕ) (front : List Cell) (x : Cell) (back : List Cell) (keeps : All (Keeps W) (front ++ (x ∷ back)))
    (falls : Pairs (Falls W) (front ++ (x ∷ back))) (used : is_free x ≡ false) (once : Once (front ++ back)) where
  abbrev cs : List Cell
  cs = front ++ (x ∷ back)

  abbrev M : ℕ
  M = length cs

  abbrev n : ℕ
  n = length_in x

  entry : IsEntry W n x
  entry = record { used = used; long = refl; keeps = (all_back _ front (x ∷ back) keeps).0 }

  short : n ≤ W
  short = used-short W x entry.keeps used

  abbrev L : Lies W n
  L = lies W n short

  abbrev s : Bool
  s = L.side

  abbrev d : Bool
  d = not s

  -- the book without the copy
  abbrev b : Book
  b = book_of (front ++ back)

  abbrev fore : List Cell
  fore = picked (of_length n) front

  abbrev aft : List Cell
  aft = picked (of_length n) back

  keeps-rest : All (Keeps W) (front ++ back)
  keeps-rest = all-less _ front x back keeps

  own : book_of cs n ≡ fore ++ (x ∷ aft)
  own = picked-append (of_length n) front (x ∷ back) ∙ rw (entry_of entry)

  others : (m : ℕ) → (m ≡ n → ⊥) → book_of cs m ≡ b m
  others m h = picked-append (of_length m) front (x ∷ back) ∙ rw (entry-not m entry h) (sym (picked-append (of_length m) front back))

  agree : (t : Bool) (ls : List ℕ) → All (Other W n t) ls → rows (book_of cs) ls ≡ rows b ls
  agree t ls h = rows_agree (book_of cs) b ls (all_map (Other W n t) _ (λ m q. others m q.0) ls h)

  abbrev outer : List Cell
  outer = rows b L.outer

  abbrev inner : List Cell
  inner = rows b (inner_lengths L)

  abbrev far : List Cell
  far = rows b (far_lengths L)

  abbrev p : ℕ
  p = M - length (entries W (book_of cs))

  image : cs ≡ laid L outer (fore ++ (x ∷ aft)) inner p far
  image = sym (ordered-image W cs keeps falls) ∙ image-about L M (book_of cs) p (omega (arith, entries-few W cs keeps falls))
      ∙ rw (agree false L.outer L.beyond, own, agree true (inner_lengths L) L.inside, agree false (far_lengths L) L.across)

  row-own : b n ≡ fore ++ aft
  row-own = picked-append (of_length n) front back

  count : length (entries W b) + suc p ≡ M
  count = omega (
    arith,
    entries-parts L b,
    simp (length-join, length-append, length-replicate) at (ap length image),
    length-append front (x ∷ back),
    length-append fore aft,
    ap length row-own,
  )

  ok : BookOk W M b
  ok = record { row = book_of-row W (front ++ back) keeps-rest once; fits = omega (arith, count) }

  abbrev u : List Cell
  u = cond d fore aft

  abbrev v : List Cell
  v = cond d aft fore

  row_n : Row W n (fore ++ aft)
  row_n = rw row-own at (ok.row n)

  abbrev near : List Cell
  near = join d (join d far (replicate p free)) inner

  abbrev rest : List Cell
  rest = join d v outer

  before : cs ≡ join d near (join d u (join d (x ∷ []) rest))
  before = image ∙ rw (from-left d fore (x ∷ []) aft) (simp (join-not, join-assoc))

  counted : (t : Cell → Bool) → times t front + times t back ≡ times t near + times t fore + times t aft + times t outer
  counted t =
      let all = simp times-join at (ap (times t) before) in
      simp times-join (omega (arith, all, times-append t front (x ∷ back), both-times d t fore aft))

  clear : (times (of_length n) near ≡ 0) × (times (of_length n) outer ≡ 0)
  clear =
      let c = counted (of_length n) in
      let f = times-own (of_length n) front in
      let a = times-own (of_length n) back in
      (omega arith, omega arith)

  only : (m : ℕ) → L.from ≤ m → m < L.from + L.count → Only cs b m
  only m i j =
      let q = falling-at (Other W n true) L.count L.from m i j L.inside in
      times-append (of_length m) front (x ∷ back) ∙ rw (entry-not m entry q.0)
      (omega (arith, times-own (of_length m) (front ++ back), times-append (of_length m) front back))

  -- the book after
  abbrev next : Book
  next m = cond (eqb m n) (join d (turn d u) v) (cond (between W n m) (turn d (b m)) (b m))

  next-own : Row W n (join d (turn d u) v)
  next-own = row_from _ row_n
      (all_join d _ (turn d u) v (all-turn _ (ended d u) (row-part d fore aft row_n).entries) (row-part d aft fore (swapped d)).entries)
      (λ a. simp (times-join, times-turn (at a) (ended d u)) (omega (arith, both-times d (at a) fore aft, times-append (at a) fore aft)))
    where
      swapped : Bool → Row W n (aft ++ fore)
      swapped t = row_from _ row_n (all_append _ aft fore (all_back _ fore aft row_n.entries) (all-front _ fore aft row_n.entries))
          (λ a. omega (arith, times-append (at a) aft fore, times-append (at a) fore aft))

  shape : Shape W M next (laid L outer (join d (turn d u) v) (rows (λ m. turn d (b m)) (inner_lengths L)) (suc p) far)
  shape = next-about L M b ok next (turn d) (λ r. length-turn (ended d r)) (λ l. row-turn d (b l) (ok.row l)) (λ m h. rw (ne_eqb m n h))
      (join d (turn d u) v) (rw (eq-eqb n n refl)) next-own (suc p)
      (simp (length-join, length-turn (ended d u)) (omega (arith, count, both-lengths d fore aft, ap length row-own, length-append fore aft)))

  walks : Goes W free d (join d near u) x rest (remove_present W cs n (place d (join d near u) rest)) (book_image W M next)
      (filled u + (1 + filled_rows b (inner_lengths L)))
  walks = walks-as (sym (L.removes cs _)) (sym (shape.is ∙ rw (← (join-copies s p free)) (simp (join-not, join-assoc)))) refl
      (walk_from_lem b ok.row cs d L.count L.from only (join d far (replicate p free)) u x rest
      (row-part d fore aft row_n) entry before clear.0)

  -- the walk starts at the copy
  there : (front ≡ cond d (join d near u) rest) × (back ≡ cond d rest (join d near u))
  there = one_place (of_length n) front x back (cond d (join d near u) rest) x (cond d rest (join d near u)) (entry_of entry) (entry_of entry)
      (sym (times-own (of_length n) front) ∙ sym (left-times d (of_length n) near fore aft outer clear.0 clear.1))
      (before ∙ sym (join-assoc d near u (join d (x ∷ []) rest)) ∙ around-is d (join d near u) x rest)

  pub mended : Mended W front x back
  mended = record {
    next = next;
    short = short;
    walk = subst₂ (λ f g. Walk W free f x g (remove_present W cs n (length f)) (book_image W M next)) (sym there.0) (sym there.1) walks.walk;
    ok = shape.ok;
  }
