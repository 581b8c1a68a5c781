-- S2 to S4 as one order: the entries above the pool by length, then the free slots, then the entries below it by length.
use Prim.Native.Nat.{ℕ, ◌+◌, ◌/◌, ◌≤◌, ◌<◌}
use mathlib.Core.Path.{◌≡◌, refl, ap}
use mathlib.Core.Bool.{Bool, true, false, cond, not, ◌&&◌}
use mathlib.Core.List.{List, [], ◌∷◌, ◌++◌}
use native.Mathlib.Omega.{arith}
use lib.Dec.{leb, ltb}
use borrow.Author.Tests.{leb-true, leb-false, ltb-true, ltb-false, lt-ltb, le-ltb, le-leb, lt-leb, not-true}
use Rattle.route.specs.Refusals.{fine, fault_if, image_refusal}
use Rattle.route.specs.Lists.{any}
use Rattle.tcam.specs.Slots.{Cell, is_free, is_upper, is_lower, length_in, longer_than_nearest, misplaced}
use Rattle.tcam.specs.Runs.{InOrder}
use Rattle.tcam.specs.Mend.{order_fault}
use Rattle.route.proofs.Tests.{by_test, either, both, and_parts, or_parts, not-both, is_false, clash, in_turn, passed}
use Rattle.tcam.proofs.Cells.{Placed, placed}
use Rattle.tcam.proofs.Runs.{shorter, none-shorter}
use Rattle.claims.proofs.Times.{All, all_map, all-less, every}
use Rattle.claims.proofs.Members.{member, any_none}
use Rattle.claims.proofs.Pairs.{Pairs, pairs-less}
use Rattle.claims.proofs.Row.{IsEntry}
use Rattle.claims.proofs.Apply.{Keeps}

module _ {A : Type 0} where
  all-zip : (P Q R : A → Type 0) → ((x : A) → P x → Q x → R x) → (xs : List A) → All P xs → All Q xs → All R xs
  all-zip P Q R f [] a b = tt
  all-zip P Q R f (x ∷ xs) a b = (f x a.0 b.0, all-zip P Q R f xs a.1 b.1)

  none-all : (p : A → Bool) (xs : List A) → any p xs ≡ false → All (λ x. p x ≡ false) xs
  none-all p [] e = tt
  none-all p (x ∷ xs) e = let t = or_parts (p x) (any p xs) e in (t.0, none-all p xs t.1)

abbrev pub rank : ℕ → Cell → ℕ
rank W c = cond (is_free c) (W / 2) (cond (leb (W / 2) (length_in c)) (length_in c + 1) (length_in c))

-- where a slot belongs
pub data Class (W : ℕ) (c : Cell) : Type 0 where
  pool : is_free c ≡ true → rank W c ≡ W / 2 → Class W c
  above : is_free c ≡ false → W / 2 ≤ length_in c → rank W c ≡ length_in c + 1 → Class W c
  below : is_free c ≡ false → length_in c < W / 2 → rank W c ≡ length_in c → Class W c

pub class_of : (W : ℕ) (c : Cell) → Class W c
class_of W c = by_test (is_free c) (λ e. pool e (rw e)) (λ e. by_test (leb (W / 2) (length_in c))
    (λ t. above e (leb-true (W / 2) (length_in c) t) (rw (e, t))) (λ t. below e (leb-false (W / 2) (length_in c) t) (rw (e, t))))

-- the slot y may stand behind the slot x
abbrev pub Falls : ℕ → Cell → Cell → Type 0
Falls W x y = rank W y ≤ rank W x

module _ (W : ℕ) where
  -- among entries the rank goes with the length
  by_length : (x y : Cell) → is_free x ≡ false → is_free y ≡ false → (length_in y ≤ length_in x → Falls W x y) × (Falls W x y → length_in y ≤ length_in x)
  by_length x y u v = go (class_of W x) (class_of W y)
    where
      go : Class W x → Class W y → (length_in y ≤ length_in x → Falls W x y) × (Falls W x y → length_in y ≤ length_in x)
      go (pool e r) q = clash e u
      go (above e i r) (pool f s) = clash f v
      go (above e i r) (above f j s) = (λ l. omega arith, λ l. omega arith)
      go (above e i r) (below f j s) = (λ l. omega arith, λ l. omega arith)
      go (below e i r) (pool f s) = clash f v
      go (below e i r) (above f j s) = (λ l. absurd (omega arith), λ l. absurd (omega arith))
      go (below e i r) (below f j s) = (λ l. omega arith, λ l. omega arith)

  pub rank_mono : (x y : Cell) → is_free x ≡ false → is_free y ≡ false → length_in y ≤ length_in x → Falls W x y
  rank_mono x y u v = (by_length x y u v).0

  -- entries of one length may stand in any order
  pub level : {l : ℕ} {x y : Cell} → IsEntry W l x → IsEntry W l y → Falls W x y
  level {l} {x} {y} e f = rank_mono x y e.used f.used (omega (arith, e.long, f.long))

  -- an entry above the pool, and one below it
  pub rank-above : (x : Cell) → is_free x ≡ false → W / 2 ≤ length_in x → W / 2 ≤ rank W x
  rank-above x u i = rw (u, le-leb (W / 2) (length_in x) i) (omega arith)

  pub rank_below : (x : Cell) → is_free x ≡ false → length_in x < W / 2 → rank W x ≤ W / 2
  rank_below x u i = rw (u, lt-leb (W / 2) (length_in x) i) (omega arith)

  -- nothing below the pool
  rank-least : (x : Cell) → is_lower W x ≡ false → W / 2 ≤ rank W x
  rank-least x e = go (class_of W x)
    where
      go : Class W x → W / 2 ≤ rank W x
      go (pool f r) = omega arith
      go (above f i r) = omega arith
      go (below f i r) = clash (both (not (is_free x)) (ltb (length_in x) (W / 2)) (ap not f) (lt-ltb _ _ i)) e

  not-shorter : (n : ℕ) (x : Cell) → shorter n x ≡ false → is_free x ≡ false → n ≤ length_in x
  not-shorter n x e u = ltb-false (length_in x) n (rw u at e)

  -- a slot that breaks none of S1 to S4 may stand behind those before it
  placed-rank : (c : Cell) (before : List Cell) → InOrder W before → Placed W c before → All (λ x. Falls W x c) before
  placed-rank c before o p = go (class_of W c)
    where
      least : is_free c ≡ false → All (λ x. shorter (length_in c) x ≡ false) before
      least u = none-all (shorter (length_in c)) before (none-shorter W c before o (p.falls u))

      go : Class W c → All (λ x. Falls W x c) before
      go (pool e r) = all_map _ _ (λ x y. let z = rank-least x y in omega arith) before (none-all (is_lower W) before (p.sunk e))
      go (above e i r) = all-zip _ _ _ (λ x y z. rank_mono x c z e (not-shorter (length_in c) x y z)) before (least e)
          (none-all is_free before (is_false _ (λ y. clash (both (is_upper W c) (any is_free before) (both _ _ (ap not e) (le-leb _ _ i)) y) p.packed)))
      go (below e i r) = all_map _ _ (λ x y. by_test (is_free x)
          (λ t. let z : rank W x ≡ W / 2 = rw t in omega arith) (λ t. rank_mono x c t e (not-shorter (length_in c) x y t))) before (least e)

  -- what S1 to S4 say of an image
  pub record Ordered (before cs : List Cell) : Type 0 where
    pub keeps : All (Keeps W) cs
    pub behind : All (λ c. All (λ x. Falls W x c) before) cs
    pub falls : Pairs (Falls W) cs

  pub in_order_lem : {cs : List Cell} → All (Keeps W) cs → Pairs (Falls W) cs → Ordered [] cs
  in_order_lem {cs} k f = record { keeps = k; behind = every (λ c. Unit {0}) (λ c. tt) cs; falls = f }

  -- without one of them
  pub ordered-less : (front : List Cell) (x : Cell) (back : List Cell) → Ordered [] (front ++ (x ∷ back)) → Ordered [] (front ++ back)
  ordered-less front x back o =
      in_order_lem (all-less _ front x back o.keeps) (pairs-less (Falls W) front x back o.falls)

  pub ordered-rest : {before cs : List Cell} {c : Cell} → Ordered before (c ∷ cs) → Ordered (c ∷ before) cs
  ordered-rest {cs = cs} o = record {
    keeps = o.keeps.1;
    behind = all-zip _ _ _ (λ x y z. (y, z)) cs o.falls.0 o.behind.1;
    falls = o.falls.1;
  }

  pub ordered : (i : ℕ) (before cs : List Cell) → InOrder W before → order_fault W i before cs ≡ fine → Ordered before cs
  ordered i before [] o e = record { keeps = tt; behind = tt; falls = tt }
  ordered i before (c ∷ cs) o e =
      let t = in_turn (fault_if (misplaced W c before) image_refusal i) _ e in
      let m = passed (misplaced W c before) image_refusal i t.0 in
      let p = placed W c before m in
      let r = ordered (i + 1) (c ∷ before) cs (m, o) t.1 in
      record {
        keeps = (p.keeps, r.keeps);
        behind = (placed-rank c before o p, all_map _ _ (λ y z. z.1) cs r.behind);
        falls = (all_map _ _ (λ y z. z.0) cs r.behind, r.falls);
      }

  pub no_longer : (c : Cell) (bs : List Cell) → is_free c ≡ false → All (λ x. Falls W x c) bs → longer_than_nearest c bs ≡ false
  no_longer c [] u h = refl
  no_longer c (x ∷ xs) u h = either (λ t. t ≡ false) (is_free x) (λ e. no_longer c xs u h.1)
      (λ e. le-ltb (length_in x) (length_in c) ((by_length x c e u).1 h.0))

  unmisplaced : (c : Cell) (before : List Cell) → Keeps W c → All (λ x. Falls W x c) before → misplaced W c before ≡ false
  unmisplaced c before k h = rw (k, s2, s3, s4)
    where
      s2 : (not (is_free c) && longer_than_nearest c before) ≡ false
      s2 = not-both (not (is_free c)) (longer_than_nearest c before) (λ u l. clash l (no_longer c before (not-true (is_free c) u) h))

      unpooled : is_upper W c ≡ true → (x : Cell) → Falls W x c → is_free x ≡ false
      unpooled u x f =
          let t = and_parts (not (is_free c)) (leb (W / 2) (length_in c)) u in
          let i = leb-true (W / 2) (length_in c) t.1 in
          let r : rank W c ≡ length_in c + 1 = rw (not-true (is_free c) t.0, t.1) in
          is_false (is_free x) (λ e. let z : rank W x ≡ W / 2 = rw e in omega arith)

      s3 : (is_upper W c && any is_free before) ≡ false
      s3 = not-both (is_upper W c) (any is_free before) (λ u l. clash l (any_none is_free before (λ x m. unpooled u x (member _ h m))))

      sunk : is_free c ≡ true → (x : Cell) → Falls W x c → is_lower W x ≡ false
      sunk u x f =
          let r : rank W c ≡ W / 2 = rw u in
          is_false (is_lower W x) (λ e.
          let t = and_parts (not (is_free x)) (ltb (length_in x) (W / 2)) e in
          let i = ltb-true (length_in x) (W / 2) t.1 in
          let z : rank W x ≡ length_in x = rw (not-true (is_free x) t.0, lt-leb (W / 2) (length_in x) i) in omega arith)

      s4 : (is_free c && any (is_lower W) before) ≡ false
      s4 = not-both (is_free c) (any (is_lower W) before) (λ u l. clash l (any_none (is_lower W) before (λ x m. sunk u x (member _ h m))))

  pub no-order-fault : (i : ℕ) (before cs : List Cell) → Ordered before cs → order_fault W i before cs ≡ fine
  no-order-fault i before [] o = refl
  no-order-fault i before (c ∷ cs) o =
      rw (unmisplaced c before o.keeps.0 o.behind.0) (no-order-fault (i + 1) (c ∷ before) cs (ordered-rest o))
