-- A cut inside a walk: the table without its open slot, and one cell in two slots.
use Prim.Native.Nat.{ℕ, suc, zero, ◌≤◌, ◌<◌}
use mathlib.Core.Path.{◌≡◌, refl, sym, subst, ◌∙◌}
use mathlib.Core.Bool.{Bool, true, false, cond}
use mathlib.Core.List.{List, ◌∷◌, ◌++◌, append_assoc}
use native.Mathlib.Omega.{arith}
use lib.Dec.{eqb}
use lib.ListN.{length, take}
use borrow.Author.Tests.{eq-eqb}
use Rattle.tcam.specs.Slots.{Cell, is_free}
use Rattle.tcam.specs.Plans.{Write}
use Rattle.tcam.specs.Applies.{written}
use Rattle.route.proofs.Tests.{both}
use Rattle.claims.proofs.Times.{All, all_map, all_append, all-front, all_back, times, times-append}
use Rattle.claims.proofs.Join.{join, around, around-is, both-sides, times-join}
use Rattle.claims.proofs.Row.{IsEntry}
use Rattle.claims.proofs.Walk.{Walk, ends, step, step-write}
use Rattle.claims.proofs.Pairs.{Pairs, pairs-at, pairs-less, pairs-more}
use Rattle.claims.proofs.Rank.{Falls, level}
use Rattle.claims.proofs.Repeats.{twin}

module _ {W l : ℕ} {x : Cell} (e : IsEntry W l x) where
  -- x stands on both sides of the others of its length
  module _ (a xs b : List Cell) (h : All (IsEntry W l) xs) where
    from_first : Pairs (Falls W) (a ++ (x ∷ (xs ++ b))) → Pairs (Falls W) (a ++ (x ∷ (xs ++ (x ∷ b))))
    from_first p =
        let q = pairs-at (Falls W) a x (xs ++ b) p in
        simp append_assoc at (pairs-more (Falls W) (a ++ (x ∷ xs)) x b
        (all_append _ a (x ∷ xs) q.0 (level W e e, all_map _ _ (λ y f. level W f e) xs h)) (all_back _ xs b q.1) (simp append_assoc p))

    from_last : Pairs (Falls W) (a ++ (xs ++ (x ∷ b))) → Pairs (Falls W) (a ++ (x ∷ (xs ++ (x ∷ b))))
    from_last p =
        let q = pairs-at (Falls W) (a ++ xs) x b (simp append_assoc p) in
        pairs-more (Falls W) a x (xs ++ (x ∷ b)) (all-front _ a xs q.0)
        (all_append _ xs (x ∷ b) (all_map _ _ (λ y f. level W e f) xs h) (level W e e, q.1)) p

-- a table with the slots of another and one of its cells once more
pub record Doubled (W : ℕ) (table cut : List Cell) : Type 0 where
  pub front : List Cell
  pub twice : Cell
  pub back : List Cell
  pub is : cut ≡ front ++ (twice ∷ back)
  pub used : is_free twice ≡ false
  pub falls : Pairs (Falls W) cut
  pub first : 1 ≤ times (twin twice) front
  pub same : (t : Cell → Bool) → times t (front ++ back) ≡ times t table

pub own-twin : (x : Cell) → twin x x ≡ true
own-twin x = both (eqb x.address x.address) (eqb x.tag x.tag) (eq-eqb x.address _ refl) (eq-eqb x.tag _ refl)

module _ (W : ℕ) where
  -- one step: the cut, and the table without the slot that is open next
  stepped : (up : Bool) (a : List Cell) (x : Cell) (xs b : List Cell) {l : ℕ} → IsEntry W l x → All (IsEntry W l) xs
      → Pairs (Falls W) (join up (around up a x xs) b)
      → Doubled W (join up (around up a x xs) b) (around up a x (around up xs x b)) × Pairs (Falls W) (join up a (around up xs x b))
  stepped true a x xs b e h p =
      let q = from_first e a xs b h (simp append_assoc at p) in (
        record {
          front = a ++ (x ∷ xs);
          twice = x;
          back = b;
          is = simp append_assoc;
          used = e.used;
          falls = q;
          first = rw (times-append (twin x) a (x ∷ xs), own-twin x) (omega arith);
          same = λ t. refl;
        },
        pairs-less (Falls W) a x (xs ++ (x ∷ b)) q,
      )
  stepped false a x xs b e h p =
      let q = from_last e b xs a h (simp append_assoc at p) in (
        record {
          front = b ++ (x ∷ xs);
          twice = x;
          back = a;
          is = simp append_assoc;
          used = e.used;
          falls = simp append_assoc q;
          first = rw (times-append (twin x) b (x ∷ xs), own-twin x) (omega arith);
          same = λ t. simp (times-append t) (omega arith);
        },
        simp append_assoc (simp append_assoc at (pairs-less (Falls W) (b ++ (x ∷ xs)) x a (simp append_assoc q))),
      )

  module _ (last : Cell) where
    pub walk-doubles : {p s g : List Cell} {f : Cell} {ws : List Write} → Walk W last p f s ws g → Pairs (Falls W) (p ++ s)
        → (k : ℕ) → suc k < length ws → Doubled W (p ++ s) (written (p ++ (f ∷ s)) (take (suc k) ws))
    walk-doubles (ends e) o k i = absurd (omega arith)
    walk-doubles (step up a x xs b {f = f} {at = at} e n h w) o zero i =
        rw (step-write up a x xs b f at e, ← (around-is up a x (around up xs x b)), both-sides) (stepped up a x xs b n h (rw both-sides at o)).0
    walk-doubles (step up a x xs b {f = f} {at = at} {ws = ws} e n h w) o (suc k) i =
        let d = stepped up a x xs b n h (rw both-sides at o) in
        let r = walk-doubles w (rw both-sides d.1) k (omega arith) in
        let table = cond up (around up a x xs) b ++ cond up b (around up a x xs) in
        subst (λ l. Doubled W table (written l (take (suc k) ws))) (sym (step-write up a x xs b f at e)) record {
          front = r.front;
          twice = r.twice;
          back = r.back;
          is = r.is;
          used = r.used;
          falls = r.falls;
          first = r.first;
          same = λ t. r.same t ∙ simp (both-sides, times-join) (omega arith);
        }
