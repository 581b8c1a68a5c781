-- The walk of an open slot: each write copies an entry of a row's far end into the open slot, whose own slot is open next;
-- the last write puts a cell into the slot that is open in the end.
use Prim.Native.Nat.{ℕ, ◌+◌}
use mathlib.Core.Path.{◌≡◌, sym, ap, ◌∙◌}
use mathlib.Core.Bool.{Bool, cond}
use mathlib.Core.List.{List, [], ◌∷◌, ◌++◌}
use native.Mathlib.Omega.{arith}
use lib.ListN.{length, set}
use lib.Seq.{set_at}
use Rattle.tcam.specs.Slots.{Cell}
use Rattle.tcam.specs.Plans.{Write, write}
use Rattle.tcam.specs.Applies.{written}
use Rattle.tcam.specs.Book.{count_if}
use Rattle.claims.proofs.Times.{All, times, times-append}
use Rattle.claims.proofs.Join.{around, around-is, join-assoc, both-sides, times-join}
use Rattle.claims.proofs.Row.{IsEntry}

-- `Walk W last p f s ws g`: in the table p ++ f ∷ s the slot of f is open, the writes ws walk it along, and g is the table after them.
-- A step goes up, to the left, or down, to the right: over the row next to the open slot, with a ahead of the row and b behind the slot.
-- The row's far entry x goes over its others, xs, entries of the same length, into the open slot.
pub data Walk (W : ℕ) (last : Cell) : List Cell → Cell → List Cell → List Write → List Cell → Type 0 where
  ends : {p s : List Cell} {f : Cell} {at : ℕ} → length p ≡ at → Walk W last p f s (write at last ∷ []) (p ++ (last ∷ s))
  step : (up : Bool) (a : List Cell) (x : Cell) (xs b : List Cell) {l : ℕ} {f : Cell} {at : ℕ} {ws : List Write} {g : List Cell}
      → length (cond up (around up a x xs) b) ≡ at → IsEntry W l x → All (IsEntry W l) xs
      → Walk W last (cond up a (around up xs x b)) x (cond up (around up xs x b) a) ws g
      → Walk W last (cond up (around up a x xs) b) f (cond up b (around up a x xs)) (write at x ∷ ws) g

-- the table after one write of a walk
pub step-write : (up : Bool) (a : List Cell) (x : Cell) (xs b : List Cell) (f : Cell) (at : ℕ) → length (cond up (around up a x xs) b) ≡ at
    → set (cond up (around up a x xs) b ++ (f ∷ cond up b (around up a x xs))) at x
    ≡ cond up a (around up xs x b) ++ (x ∷ cond up (around up xs x b) a)
step-write up a x xs b f at e =
    set_at (cond up (around up a x xs) b) f (cond up b (around up a x xs)) x at e
    ∙ sym (around-is up (around up a x xs) x b) ∙ simp join-assoc (around-is up a x (around up xs x b))

module _ (W : ℕ) (last : Cell) where
  pub walk-whole : {p s g : List Cell} {f : Cell} {ws : List Write} → Walk W last p f s ws g → written (p ++ (f ∷ s)) ws ≡ g
  walk-whole (ends {p = p} {s = s} {f = f} {at = at} e) = set_at p f s last at e
  walk-whole (step up a x xs b {f = f} {at = at} {ws = ws} e n h w) =
      ap (λ (l : List Cell). written l ws) (step-write up a x xs b f at e) ∙ walk-whole w

  -- the table after holds what the table before held without the open slot, and the last cell
  pub walk-times : (t : Cell → Bool) {p s g : List Cell} {f : Cell} {ws : List Write} → Walk W last p f s ws g
      → times t g ≡ times t p + times t s + count_if (t last)
  walk-times t (ends {p = p} {s = s} e) = simp (times-append t) (omega arith)
  walk-times t (step up a x xs b e n h w) = walk-times t w ∙ simp (← (times-append t)) (simp (both-sides, times-join) (omega arith))
