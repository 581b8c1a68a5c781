-- What a pass keeps of the slots before slot i, where they keep S1 to S4: with an entry more, and with free slots more.
use Rattle.std.proofs.Common.{◌≡◌, ℕ, zero, suc, ◌+◌, ◌-◌, ◌<◌, ◌≤◌, true, false, ltb, List, length, sym, ◌∙◌, add-one, arith, ltb-false, ltb-true}
use borrow.Author.Tests.{not-false}
use Rattle.route.specs.Lists.{any}
use Rattle.route.specs.Loops.{before, places_from}
use Rattle.tcam.specs.Slots.{Cell, is_free}
use Rattle.tcam.specs.Runs.{InOrder}
use Rattle.tcam.specs.Shown.{cell_at}
use Rattle.tcam.specs.Loops.{is_used, SeenBefore, SeenWith, SeenPast, TestedBefore, PlacedAt, FreeBetween}
use Rattle.tcam.specs.declared.image.Seen.{Seen}
use Rattle.route.proofs.Tests.{by_test, or_parts}
use Rattle.tcam.proofs.SeenBefore.{misplaced-free, misplaced-is, seen-with, seen-past, past-again}
use Rattle.tcam.proofs.RunLoops.{run-with, run_past}

-- slots in order are in order up to each of them
pub in-order-at : (W : ℕ) (at : ℕ → Cell) (i : ℕ) → InOrder W (before at i) → (j : ℕ) → j < i → PlacedAt W at j
in-order-at W at zero o j l = absurd (omega arith)
in-order-at W at (suc i) o j l = by_test (ltb j i)
    (λ t. in-order-at W at i o.1 j (ltb-true j i t))
    (λ t. let n = ltb-false j i t in let z : j ≡ i = omega arith in rw z o.0)

-- no slot lies between a slot and itself
pub none_between : {ad ts : List ℕ} {i : ℕ} → i ≤ length ad → FreeBetween ad ts i i
none_between {i = i} l = let z : i - i ≡ 0 = omega arith in record { behind = omega arith; within = l; free = rw z }

-- each of some free slots is free
pub free-at : {ad ts : List ℕ} {from r : ℕ} → FreeBetween ad ts from r → (j : ℕ) → from ≤ j → j < r → is_free (cell_at ad ts j) ≡ true
free-at {ad} {ts} {from} {r} x j l n = go (r - from) x.free (omega (arith, x.behind))
  where
    go : (k : ℕ) → any is_used (places_from (cell_at ad ts) from k) ≡ false → j < from + k → is_free (cell_at ad ts j) ≡ true
    go zero e m = absurd (omega arith)
    go (suc k) e m =
        let p = or_parts (is_used (cell_at ad ts (from + k))) _ e in
        by_test (ltb j (from + k))
        (λ t. go k p.1 (ltb-true j (from + k) t))
        (λ t. let b = ltb-false j (from + k) t in let z : j ≡ from + k = omega arith in rw z (not-false _ p.0))

module _ {W : ℕ} (ad ts : List ℕ) {s next : Seen} {i : ℕ} (h : TestedBefore W (cell_at ad ts) s i) (p : PlacedAt W (cell_at ad ts) i) where
  -- with an entry more
  pub tested-with : {c : Cell} → c ≡ cell_at ad ts i → is_free c ≡ false → SeenWith W c i s next → TestedBefore W (cell_at ad ts) next (i + 1)
  tested-with {c} is u w = record {
    in_order = rw add-one (p, h.in_order);
    seen = rw (add-one, ← is) (seen-with {c = c} h.seen u w);
    run = run-with h.run is u w;
  }

  -- with a free slot more, and the free ones behind it: where no entry before is below the pool, they keep S4
  pub tested-past : is_free (cell_at ad ts i) ≡ true → {r : ℕ} → FreeBetween ad ts (i + 1) r → SeenPast r s next →
      TestedBefore W (cell_at ad ts) next r
  tested-past f {r} x w =
      let z : i + 1 + (r - (i + 1)) ≡ r = omega (arith, x.behind) in
      let g = rw z at (go (r - (i + 1)) (omega (arith, x.behind))) in
      record { in_order = g.0; seen = g.1; run = run_past i f x w }
    where
      lower : next.lower ≡ false
      lower = w.lower ∙ misplaced-free W (cell_at ad ts i) s f ∙ misplaced-is h.seen (cell_at ad ts i) ∙ p

      go : (k : ℕ) → i + 1 + k ≤ r → InOrder W (before (cell_at ad ts) (i + 1 + k)) × SeenBefore W (before (cell_at ad ts) (i + 1 + k)) next
      go zero l = let z : i + 1 + 0 ≡ suc i = omega arith in rw z ((p, h.in_order), seen-past {c = cell_at ad ts i} h.seen f w)
      go (suc k) l =
          let c = cell_at ad ts (i + 1 + k) in
          let e = free-at x (i + 1 + k) (omega arith) (omega arith) in
          let g = go k (omega arith) in
          let z : i + 1 + suc k ≡ suc (i + 1 + k) = omega arith in
          rw z ((sym (misplaced-is g.1 c) ∙ sym (misplaced-free W c next e) ∙ lower, g.0), seen-past {c = c} g.1 e (past-again w))
