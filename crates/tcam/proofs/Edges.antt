-- Slots that are sought: the search from slot 0 on, and the pass that finds every length's edge slot at once.
--
-- The pass for last slots goes from slot 0 on, the one for first slots from the last slot back, so that in both a later find replaces
-- an earlier one. Among the slots that were visited, the last one found is then the edge, whatever is sought.
use Rattle.std.proofs.Common.{◌≡◌, ℕ, zero, suc, ◌+◌, ◌-◌, ◌<◌, ◌≤◌, Bool, true, false, cond, not, ◌&&◌, eqb, List, length, get_or, drop, set, replicate, sym, refl, ap, ◌∙◌, add-one, arith, length-set, get_or-set_other, get_or-set_same, eq-eqb, ne_eqb, eqb-true}
use mathlib.Core.Option.{Option, none, some}
use Rattle.std.specs.Prelude.{Option as Optional, None, Some}
use Rattle.route.specs.declared.Slot.{Slot}
use native.Mathlib.Nat.{sub-zero}
use lib.ListN.{length-replicate}
use lib.Seq.{drop-length}
use borrow.Author.Tests.{eqb-false}
use Rattle.route.specs.Refusals.{fine}
use Rattle.tcam.specs.Slots.{Cell, cells, is_free, length_in, keeps_s1, slot_fault}
use Rattle.tcam.specs.Plans.{first_slot, last_slot, or_else, of_length}
use Rattle.tcam.specs.Shown.{cell_at, group_of, place_of}
use Rattle.tcam.specs.Loops.{edge, edge_slot, EdgesOf, visited}
use Rattle.tcam.proofs.OrElse.{or-else-assoc, or_else_none, or-else-cond}
use Rattle.tcam.proofs.Rows.{cells_at, get_or-cells}
use Rattle.tcam.proofs.Cells.{used-short, slot-keeps}

-- no slot before slot i has the property
pub record NoneFound (p : Cell → Bool) (ad ts : List ℕ) (i : ℕ) : Type 0 where
  pub within : i ≤ length ad
  pub equal : length ad ≡ length ts
  pub left : first_slot p i (cells (drop i ad) (drop i ts)) ≡ first_slot p 0 (cells ad ts)

pub visited-below : (up : Bool) (M k : ℕ) → k < M → visited up M k < M
visited-below true M k l = omega arith
visited-below false M k l = l

-- the last one found among k visited slots
abbrev latest : Bool → (Cell → Bool) → (ℕ → Cell) → ℕ → ℕ → Option ℕ
latest up p at M zero = none
latest up p at M (suc k) = cond (p (at (visited up M k))) (some (visited up M k)) (latest up p at M k)

latest-agree : (up : Bool) (p q : Cell → Bool) (at : ℕ → Cell) (M k : ℕ) → k ≤ M → ((i : ℕ) → i < M → p (at i) ≡ q (at i)) →
    latest up p at M k ≡ latest up q at M k
latest-agree up p q at M zero l h = refl
latest-agree up p q at M (suc k) l h =
    rw (h (visited up M k) (visited-below up M k l), latest-agree up p q at M k (omega arith) h)

module _ (p : Cell → Bool) (ad ts : List ℕ) (e : length ad ≡ length ts) where
  -- from the last slot back: the first of the slots from there on
  latest-first : (k : ℕ) → k ≤ length ad →
      latest true p (cell_at ad ts) (length ad) k ≡ first_slot p (length ad - k) (cells (drop (length ad - k) ad) (drop (length ad - k) ts))
  latest-first zero l = rw (sub-zero, drop-length ad)
  latest-first (suc k) l =
      let i = length ad - suc k in
      let next : length ad - k ≡ i + 1 = omega arith in
      let here : length ad - 1 - k ≡ i = omega arith in
      rw (cells_at ad ts i e (omega arith), here, latest-first k (omega arith), next)

  -- from slot 0 on: the last of the slots up to there
  latest-last : (k : ℕ) → k ≤ length ad →
      or_else (last_slot p k (cells (drop k ad) (drop k ts))) (latest false p (cell_at ad ts) (length ad) k) ≡ last_slot p 0 (cells ad ts)
  latest-last zero l = or_else_none (last_slot p 0 (cells ad ts))
  latest-last (suc k) l =
      sym (joined (last_slot p (suc k) (cells (drop (suc k) ad) (drop (suc k) ts))))
      ∙ (rw (cells_at ad ts k e l, add-one k) at (latest-last k (omega arith)))
    where
      joined : (x : Option ℕ) → or_else (or_else x (cond (p (cell_at ad ts k)) (some k) none)) (latest false p (cell_at ad ts) (length ad) k)
          ≡ or_else x (latest false p (cell_at ad ts) (length ad) (suc k))
      joined x = or-else-assoc x _ _ ∙ ap (λ (o : Option ℕ). or_else x o) (or-else-cond (p (cell_at ad ts k)) k _)

  -- so among all slots it is the edge
  latest-edge : (up : Bool) → latest up p (cell_at ad ts) (length ad) (length ad) ≡ edge up p (cells ad ts)
  latest-edge true = let z : length ad - length ad ≡ 0 = omega arith in rw z at (latest-first (length ad) (omega arith))
  latest-edge false = rw (drop-length ad) at (latest-last (length ad) (omega arith))

-- the groups tell the lengths and the free slots apart
group-length : (W l : ℕ) (c : Cell) → l ≤ W → eqb (group_of W c) l ≡ of_length l c
group-length W l c i = go (is_free c)
  where
    go : (f : Bool) → eqb (cond f (W + 1) (length_in c)) l ≡ (not f && eqb (length_in c) l)
    go true = ne_eqb (W + 1) l (λ e. omega arith)
    go false = refl

group-free : (W : ℕ) (c : Cell) → keeps_s1 W c ≡ true → eqb (group_of W c) (W + 1) ≡ is_free c
group-free W c k = go (is_free c) (used-short W c k)
  where
    go : (f : Bool) → (f ≡ false → length_in c ≤ W) → eqb (cond f (W + 1) (length_in c)) (W + 1) ≡ f
    go true h = eq-eqb (W + 1) (W + 1) refl
    go false h = let s = h refl in ne_eqb (length_in c) (W + 1) (λ e. omega arith)

-- each slot of rows without a fault keeps S1
keeps-at : (W : ℕ) (ad ts : List ℕ) → length ad ≡ length ts → (i : ℕ) → slot_fault W 0 (cells ad ts) ≡ fine → i < length ad →
    keeps_s1 W (cell_at ad ts i) ≡ true
keeps-at W ad ts e i f l = rw (get_or-cells ad ts i e l) at (slot-keeps W 0 (cells ad ts) i f)

-- k slots were visited: the row has, for each group, the last one found among them
pub record EdgesAmong (W : ℕ) (up : Bool) (ad ts : List ℕ) (edges : List (Optional Slot)) (k : ℕ) : Type 0 where
  pub within : k ≤ length ad
  pub equal : length ad ≡ length ts
  pub keeps : slot_fault W 0 (cells ad ts) ≡ fine
  pub size : length edges ≡ W + 2
  pub of : (l : ℕ) → l ≤ W + 1 → edge_slot edges l ≡ latest up (λ c. eqb (group_of W c) l) (cell_at ad ts) (length ad) k

pub edges-start : {W : ℕ} {up : Bool} {ad ts : List ℕ} → length ad ≡ length ts → slot_fault W 0 (cells ad ts) ≡ fine →
    EdgesAmong W up ad ts (replicate (W + 2) None) 0
edges-start {W} e f = record {
  within = omega arith;
  equal = e;
  keeps = f;
  size = length-replicate (W + 2) None;
  of = λ l i. ap place_of (none-at (W + 2) l);
}
  where
    none-at : (n l : ℕ) → ◌≡◌ {A = Optional Slot} (get_or (replicate n None) l None) None
    none-at zero l = refl
    none-at (suc n) zero = refl
    none-at (suc n) (suc l) = none-at n l

module _ {W : ℕ} {up : Bool} {ad ts : List ℕ} {edges : List (Optional Slot)} {k : ℕ} (h : EdgesAmong W up ad ts edges k) where
  module _ (l : k < length ad) {s : Slot} (visits : s.0 ≡ visited up (length ad) k) {c : Cell} (is : c ≡ cell_at ad ts s.0) {n : ℕ} (e : n ≡ group_of W c) where
    -- the slot's group has a place in the row
    pub group-below : n < length edges
    group-below = rw e (go (is_free c) (used-short W c kept))
      where
        kept : keeps_s1 W c ≡ true
        kept = rw is (keeps-at W ad ts h.equal s.0 h.keeps (rw visits (visited-below up (length ad) k l)))

        go : (f : Bool) → (f ≡ false → length_in c ≤ W) → cond f (W + 1) (length_in c) < length edges
        go true i = omega (arith, h.size)
        go false i = omega (arith, h.size, i refl)

    pub edges-turn : EdgesAmong W up ad ts (set edges n (Some s)) (k + 1)
    edges-turn = record {
      within = omega arith;
      equal = h.equal;
      keeps = h.keeps;
      size = simp length-set h.size;
      of = λ m i. rw (add-one k) (go m i (eqb n m) refl);
    }
      where
        test : (m : ℕ) → eqb (group_of W (cell_at ad ts (visited up (length ad) k))) m ≡ eqb n m
        test m = ap (λ (x : ℕ). eqb x m) (sym (e ∙ ap (group_of W) (is ∙ ap (cell_at ad ts) visits)))

        go : (m : ℕ) → m ≤ W + 1 → (b : Bool) → eqb n m ≡ b →
            edge_slot (set edges n (Some s)) m ≡ latest up (λ c. eqb (group_of W c) m) (cell_at ad ts) (length ad) (suc k)
        go m i true f =
            rw (test m ∙ f)
            (ap (λ (x : ℕ). edge_slot (set edges n (Some s)) x) (sym (eqb-true n m f)) ∙ ap place_of (get_or-set_same edges n (Some s) None group-below) ∙ ap some visits)
        go m i false f = rw (test m ∙ f) (ap place_of (get_or-set_other edges n m (Some s) None (λ q. eqb-false n m f (sym q))) ∙ h.of m i)

  pub edges-end : length ad ≤ k → EdgesOf W up (cells ad ts) edges
  edges-end l = record {
    size = h.size;
    of = λ m i. at-end m (omega arith) ∙ latest-agree up (λ c. eqb (group_of W c) m) (of_length m) (cell_at ad ts) (length ad) (length ad) (omega arith) (λ j b. group-length W m (cell_at ad ts j) i)
        ∙ latest-edge (of_length m) ad ts h.equal up;
    pool = at-end (W + 1) (omega arith)
        ∙ latest-agree up (λ c. eqb (group_of W c) (W + 1)) is_free (cell_at ad ts) (length ad) (length ad) (omega arith) (λ j b. group-free W (cell_at ad ts j) (keeps-at W ad ts h.equal j h.keeps b))
        ∙ latest-edge is_free ad ts h.equal up;
  }
    where
      at-end : (m : ℕ) → m ≤ W + 1 → edge_slot edges m ≡ latest up (λ c. eqb (group_of W c) m) (cell_at ad ts) (length ad) (length ad)
      at-end m i = let z : k ≡ length ad = omega (arith, h.within) in rw z at (h.of m i)
