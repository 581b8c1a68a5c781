-- Where a row has an address, and what a set or a removal of it makes of the row.
use Prim.Native.Nat.{ℕ, ◌+◌}
use mathlib.Core.Path.{◌≡◌, refl, ap, ◌∙◌}
use mathlib.Core.Bool.{Bool, true, false, cond, not, ◌||◌}
use mathlib.Core.List.{List, [], ◌∷◌, ◌++◌}
use native.Mathlib.Omega.{arith}
use lib.Dec.{eqb}
use borrow.Author.Tests.{eqb-true, eq-eqb}
use Rattle.tcam.specs.Slots.{Cell}
use Rattle.tcam.specs.Book.{count_if, has_address, replaced, gap_filled_by_first, gap_filled_by_last, at_edge}
use Rattle.route.proofs.Tests.{either}
use Rattle.claims.proofs.Times.{All, times, none_here}
use Rattle.claims.proofs.Join.{join, around, around-is, join-assoc, nil-join, from-left, times-join, all_join, all-parts}
use Rattle.claims.proofs.Row.{IsEntry, Row, at, row_from}
use Rattle.claims.proofs.Turn.{Ended, empty, edge, ended, turn, turn-nil, turn_is, last-is, but_last-is, filled, filled-edge}
use Rattle.claims.proofs.Turn.{all-turn, times-turn}

-- where a row has an address: the entries before it, the entry, those behind it
pub record Found (a : ℕ) (r : List Cell) : Type 0 where
  pub front : List Cell
  pub entry : Cell
  pub back : List Cell
  pub is : r ≡ front ++ (entry ∷ back)
  pub has : entry.address ≡ a

pub data Search (a : ℕ) (r : List Cell) : Bool → Type 0 where
  absent : times (at a) r ≡ 0 → Search a r false
  present : Found a r → Search a r true

pub searched : (a : ℕ) (r : List Cell) → Search a r (has_address a r)
searched a [] = absent refl
searched a (c ∷ cs) = at_head (eqb c.address a) refl (searched a cs)
  where
    behind : {t : Bool} → eqb c.address a ≡ false → Search a cs t → Search a (c ∷ cs) t
    behind e (absent h) = absent (rw e (omega arith))
    behind e (present f) = present (record {
      front = c ∷ f.front;
      entry = f.entry;
      back = f.back;
      is = ap (λ (l : List Cell). c ∷ l) f.is;
      has = f.has;
    })

    at_head : (t : Bool) → eqb c.address a ≡ t → {u : Bool} → Search a cs u → Search a (c ∷ cs) (t || u)
    at_head true e s = present (record { front = []; entry = c; back = cs; is = refl; has = eqb-true _ _ e })
    at_head false e s = behind e s

-- the entry put in its place
replaced-is : (a : ℕ) (e : Cell) (u : List Cell) (c : Cell) (v : List Cell) → c.address ≡ a → times (at a) u ≡ 0
    → replaced a e (u ++ (c ∷ v)) ≡ u ++ (e ∷ v)
replaced-is a e [] c v h i = rw (eq-eqb c.address a h)
replaced-is a e (x ∷ u) c v h i =
    rw (none_here (eqb x.address a) (times (at a) u) i) (ap (λ (l : List Cell). x ∷ l) (replaced-is a e u c v h (omega arith)))

replaced-around : (d : Bool) (a : ℕ) (e : Cell) (u : List Cell) (c : Cell) (v : List Cell) → c.address ≡ a → times (at a) u ≡ 0 → times (at a) v ≡ 0
    → replaced a e (around d u c v) ≡ around d u e v
replaced-around d a e u c v h i j = rw (around-is d u c v, around-is d u e v)
    (replaced-is a e (cond d u v) c (cond d v u) h (either (λ r. times (at a) r ≡ 0) d (λ _. i) (λ _. j)))

-- the row without the entry: the one at the edge, the first or the last, fills the gap
abbrev pub gap_filled : Bool → ℕ → List Cell → List Cell
gap_filled true a r = gap_filled_by_first a r
gap_filled false a r = gap_filled_by_last a r

gap_filled-is : (d : Bool) (a : ℕ) (x : Cell) (xs : List Cell) → gap_filled d a (join d (x ∷ []) xs) ≡ cond (at a x) xs (replaced a x xs)
gap_filled-is true a x xs = refl
gap_filled-is false a z [] = refl
gap_filled-is false a z (y ∷ ys) = cc (last-is y ys z, but_last-is y ys z)

at_edge-is : (d : Bool) (a : ℕ) (x : Cell) (xs : List Cell) → at_edge (not d) a (join d (x ∷ []) xs) ≡ at a x
at_edge-is true a x xs = refl
at_edge-is false a z [] = refl
at_edge-is false a z (y ∷ ys) = cc (last-is y ys z)

-- a row about the entry c of address a, u on the side of the edge: the entries of u turn
gap-filled : {d : Bool} (a : ℕ) {u : List Cell} → Ended d u → (c : Cell) (v : List Cell) → c.address ≡ a → times (at a) u ≡ 0 → times (at a) v ≡ 0
    → gap_filled d a (around d u c v) ≡ join d (turn d u) v
gap-filled {d} a empty c v h i j = rw (nil-join, gap_filled-is, eq-eqb c.address a h, turn-nil, nil-join)
gap-filled {d} a (edge x xs) c v h i j =
    let k = simp times-join at i in
    rw (join-assoc, gap_filled-is, none_here (at a x) (times (at a) xs) (omega arith), turn_is, join-assoc) (replaced-around d a x xs c v h (omega arith) j)

-- and c is at the edge where u has no entries
edge-filled : {d : Bool} (a : ℕ) {u : List Cell} → Ended d u → (c : Cell) (v : List Cell) → c.address ≡ a → times (at a) u ≡ 0
    → count_if (not (at_edge (not d) a (around d u c v))) ≡ filled u
edge-filled {d} a empty c v h i = rw (nil-join, at_edge-is, eq-eqb c.address a h)
edge-filled {d} a (edge x xs) c v h i =
    let k = simp times-join at i in
    rw (join-assoc, at_edge-is, none_here (at a x) (times (at a) xs) (omega arith), filled-edge)

-- what stands on the side of the edge, and on the other
module _ {a : ℕ} {r : List Cell} (f : Found a r) (d : Bool) where
  abbrev pub ahead : List Cell
  ahead = cond d f.front f.back

  abbrev pub behind : List Cell
  behind = cond d f.back f.front

  pub found-around : r ≡ around d ahead f.entry behind
  found-around = f.is ∙ from-left d f.front (f.entry ∷ []) f.back

  module _ {W l : ℕ} (w : Row W l r) where
    parts : All (IsEntry W l) ahead × All (IsEntry W l) (f.entry ∷ []) × All (IsEntry W l) behind
    parts =
        let k = all-parts d _ ahead _ (rw found-around at w.entries) in
        let m = all-parts d _ (f.entry ∷ []) behind k.1 in
        (k.0, m.0, m.1)

    counted : (t : Cell → Bool) → times t r ≡ times t ahead + (count_if (t f.entry) + times t behind)
    counted t = ap (times t) found-around ∙ simp times-join (omega arith)

    pub found-entry : IsEntry W l f.entry
    found-entry = parts.1.0

    pub found-once : (times (at a) ahead ≡ 0) × (times (at a) behind ≡ 0)
    found-once = let i = rw (eq-eqb f.entry.address a f.has) at (counted (at a)) in (omega (arith, w.once a), omega (arith, w.once a))

    pub ahead-row : Row W l ahead
    ahead-row = row_from ahead w parts.0 (λ c. omega (arith, counted (at c)))

    pub replaced-own : (e : Cell) → replaced a e r ≡ around d ahead e behind
    replaced-own e = ap (replaced a e) found-around ∙ replaced-around d a e ahead f.entry behind f.has found-once.0 found-once.1

    pub replaced-row : (e : Cell) → IsEntry W l e → e.address ≡ a → Row W l (around d ahead e behind)
    replaced-row e i h = row_from _ w (all_join d _ ahead _ parts.0 (all_join d _ (e ∷ []) behind (i, tt) parts.2))
        (λ c. simp (times-join, h) (omega (arith, rw f.has at (counted (at c)))))

    pub gap_filled-own : gap_filled d a r ≡ join d (turn d ahead) behind
    gap_filled-own = ap (gap_filled d a) found-around ∙ gap-filled a (ended d ahead) f.entry behind f.has found-once.0 found-once.1

    pub less-row : Row W l (join d (turn d ahead) behind)
    less-row = row_from _ w (all_join d _ (turn d ahead) behind (all-turn _ (ended d ahead) parts.0) parts.2)
        (λ c. simp (times-join, times-turn (at c) (ended d ahead)) (omega (arith, counted (at c))))

    pub edge_count : count_if (not (at_edge (not d) a r)) ≡ filled ahead
    edge_count = ap (λ (r : List Cell). count_if (not (at_edge (not d) a r))) found-around
        ∙ edge-filled a (ended d ahead) f.entry behind f.has found-once.0
