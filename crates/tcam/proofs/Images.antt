-- A pass over the slots that stops at the first one that fails a test: none before slot i fails, an entry or free slots more keep that,
-- and the filter has their prefixes. Then the count of the used slots.
use Rattle.std.proofs.Common.{◌≡◌, ℕ, zero, suc, ◌+◌, ◌-◌, ◌<◌, ◌≤◌, min, Bool, true, false, not, eqb, List, [], length, drop, sym, refl, ◌∙◌, add-one, arith, eqb-true}
use Rattle.std.specs.Prelude.{None, Some}
use Rattle.route.specs.Loops.{before, places_from}
use Rattle.tcam.specs.Slots.{Cell, cells, is_free, length_in, same_prefix_in, misplaced, first_fault, used_in}
use Rattle.tcam.specs.Runs.{InOrder}
use Rattle.tcam.specs.Shown.{cell_at}
use Rattle.tcam.specs.Loops.{is_used, FreeBetween, FreeEnd}
use Rattle.route.specs.Filter.{Noting}
use Rattle.route.proofs.Tests.{all_three}
use Rattle.route.proofs.Notes.{NotedBefore, noted-turn, noted-pass}
use Rattle.route.proofs.Searches.{FoundFrom, from_block}
use Rattle.tcam.proofs.Rows.{cells_at, cells-in-both, cells-past}
use Rattle.tcam.specs.Searches.{BlockOf}
use Rattle.tcam.proofs.Searched.{any-places}
use Rattle.tcam.proofs.Tested.{free-at, in-order-at}

-- no slot before slot i fails the test: what is left gives the whole verdict
pub record FaultBefore (fails : Cell → List Cell → Bool) (ad ts : List ℕ) (i : ℕ) : Type 0 where
  pub within : i ≤ length ad
  pub equal : length ad ≡ length ts
  pub left : first_fault fails i (before (cell_at ad ts) i) (cells (drop i ad) (drop i ts)) ≡ first_fault fails 0 [] (cells ad ts)

module _ {fails : Cell → List Cell → Bool} {ad ts : List ℕ} {i : ℕ} (h : FaultBefore fails ad ts i) where
  module _ (l : i < length ad) {b : Bool} (e : b ≡ fails (cell_at ad ts i) (before (cell_at ad ts) i)) where
    fault-turn : b ≡ false → FaultBefore fails ad ts (i + 1)
    fault-turn t = record {
      within = omega arith;
      equal = h.equal;
      left = rw add-one (rw (cells_at ad ts i h.equal l, ← e, t, add-one) at h.left);
    }

-- slots that do not fail are passed over
fault-over : {fails : Cell → List Cell → Bool} {ad ts : List ℕ} {i : ℕ} → FaultBefore fails ad ts i → (k : ℕ) → i + k ≤ length ad →
    ((j : ℕ) → i ≤ j → j < i + k → fails (cell_at ad ts j) (before (cell_at ad ts) j) ≡ false) → FaultBefore fails ad ts (i + k)
fault-over {i = i} h zero n f = let z : i + 0 ≡ i = omega arith in rw z h
fault-over {i = i} h (suc k) n f =
    let z : i + suc k ≡ i + k + 1 = omega arith in
    rw z (fault-turn (fault-over h k (omega arith) (λ j l m. f j l (omega arith))) (omega arith) (sym (f (i + k) (omega arith) (omega arith))) refl)

-- a slot that does not fail, and the free ones behind it, which do not where they keep S1 to S4
pub fault_past : {fails : Cell → List Cell → Bool} {ad ts : List ℕ} {i : ℕ} {b : Bool} (W : ℕ) → FaultBefore fails ad ts i → i < length ad →
    b ≡ fails (cell_at ad ts i) (before (cell_at ad ts) i) → b ≡ false →
    ((c : Cell) (bs : List Cell) → is_free c ≡ true → misplaced W c bs ≡ false → fails c bs ≡ false) →
    {r : ℕ} → FreeBetween ad ts (i + 1) r → InOrder W (before (cell_at ad ts) r) → FaultBefore fails ad ts r
fault_past {ad = ad} {ts = ts} {i = i} W h l e t f {r} x o =
    let z : i + 1 + (r - (i + 1)) ≡ r = omega (arith, x.behind) in
    rw z at (fault-over (fault-turn h l e t) (r - (i + 1)) (omega (arith, x.behind, x.within))
    (λ j m n. f (cell_at ad ts j) _ (free-at x j m (omega arith)) (in-order-at W (cell_at ad ts) r o j (omega arith))))

-- the free slots from slot `from` on end behind slot j, in the block that has a used slot, or they are all that is left
module _ (ad ts : List ℕ) {from : ℕ} where
  pub free-before : {j r : ℕ} → j ≤ length ad → BlockOf (λ (i : ℕ). is_used (cell_at ad ts i)) from (length ad) (Some j) → FreeEnd ad ts j r → FreeEnd ad ts from r
  free-before {j} {r} l b e =
      let h : FoundFrom is_used (cell_at ad ts) from (length ad) j false =
      record { behind = b.0; within = l; is = sym b.1 ∙ any-places is_used (cell_at ad ts) from (j - from) } in
      let x = e.between in
      let g = from_block h r x.behind x.within (sym x.free) in
      record { between = record { behind = g.behind; within = x.within; free = sym g.is }; used = e.used }

  pub free-all : from ≤ length ad → BlockOf (λ (i : ℕ). is_used (cell_at ad ts i)) from (length ad) None → FreeEnd ad ts from (length ad)
  free-all l b = record {
    between = record { behind = l; within = omega arith; free = sym (any-places is_used (cell_at ad ts) from (length ad - from)) ∙ b };
    used = λ m. absurd (omega arith);
  }

-- the filter has the prefix of each used slot before slot i
pub record CellsNoted (ad ts row : List ℕ) (i : ℕ) : Type 0 where
  pub each : NotedBefore same_prefix_in (λ c. c.address) length_in (cell_at ad ts) row i

one_cell : (c b : Cell) → same_prefix_in c b ≡ true → (c.address ≡ b.address) × (length_in c ≡ length_in b)
one_cell c b e =
    let p = all_three (not (is_free b)) (eqb b.address c.address) (eqb (length_in b) (length_in c)) e in
    (sym (eqb-true _ _ p.1), sym (eqb-true _ _ p.2))

module _ {ad ts row : List ℕ} {i : ℕ} (h : CellsNoted ad ts row i) where
  pub cells-noted : {c : Cell} {n : ℕ} → c ≡ cell_at ad ts i → n ≡ length_in c → {was : Bool} {row' : List ℕ} →
      Noting row c.address n was row' → length row' ≡ length row → CellsNoted ad ts row' (i + 1)
  cells-noted is e t l = record { each = noted-turn h.each one_cell is (rw e at t) l }

  pub cells-passed : {r : ℕ} → FreeBetween ad ts i r → CellsNoted ad ts row r
  cells-passed {r} e =
      let z : i + (r - i) ≡ r = omega (arith, e.behind) in
      record { each = rw z at (noted-pass h.each {has = is_used} (λ c b u. rw u) (r - i) e.free) }

-- so many of the slots from slot `from` up to slot j are used
pub record UsedFrom (ad ts : List ℕ) (from to j used : ℕ) : Type 0 where
  pub behind : from ≤ j
  pub within : j ≤ to
  pub few : used ≤ j - from
  pub is : used ≡ used_in (places_from (cell_at ad ts) from (j - from))

-- the used slots from slot i on are those of k slots and those behind them
used-parts : (ad ts : List ℕ) (i k : ℕ) → i + k ≤ min (length ad) (length ts) →
    used_in (cells (drop i ad) (drop i ts)) ≡ used_in (places_from (cell_at ad ts) i k) + used_in (cells (drop (i + k) ad) (drop (i + k) ts))
used-parts ad ts i zero l = let z : i + 0 ≡ i = omega arith in rw z (omega arith)
used-parts ad ts i (suc k) l =
    let z : i + suc k ≡ i + k + 1 = omega arith in
    let e = rw (cells-in-both ad ts (i + k) (omega arith) (omega arith)) at (used-parts ad ts i k (omega arith)) in
    rw z (omega (arith, e))

-- so many of the slots before slot i are used
pub record UsedBefore (ad ts : List ℕ) (used i : ℕ) : Type 0 where
  pub within : i ≤ min (length ad) (length ts)
  pub few : used ≤ i
  pub left : used + used_in (cells (drop i ad) (drop i ts)) ≡ used_in (cells ad ts)

module _ {ad ts : List ℕ} {used i : ℕ} (h : UsedBefore ad ts used i) where
  pub used-pass : {n : ℕ} (to : ℕ) → i ≤ to → to ≤ min (length ad) (length ts) →
      (n ≡ used_in (places_from (cell_at ad ts) i (to - i))) × (n ≤ to - i) → UsedBefore ad ts (used + n) to
  used-pass to l m e =
      let z : i + (to - i) ≡ to = omega arith in
      let parts = rw z at (used-parts ad ts i (to - i) (omega arith)) in
      record { within = m; few = omega (arith, h.few, e.1); left = omega (arith, parts, e.0, h.left) }

  pub used_all : min (length ad) (length ts) ≤ i → used ≡ used_in (cells ad ts)
  used_all l = let e = rw (cells-past ad ts i l) at h.left in omega (arith, e)
