-- The slots of two rows by their index: each stands in both rows, and the shorter row ends them.
use Rattle.std.proofs.Common.{◌≡◌, ℕ, zero, suc, ◌+◌, ◌<◌, ◌≤◌, min, List, [], ◌∷◌, length, get_or, drop, refl, ap, add-one, arith, drop-cons}
use lib.Seq.{drop-nil}
use Rattle.tcam.specs.Slots.{cells, free}
use Rattle.tcam.specs.Shown.{cell_at}

-- the slots from slot i on begin with slot i
pub cells-in-both : (ad ts : List ℕ) (i : ℕ) → i < length ad → i < length ts →
    cells (drop i ad) (drop i ts) ≡ cell_at ad ts i ∷ cells (drop (i + 1) ad) (drop (i + 1) ts)
cells-in-both ad ts i l m = rw (add-one, drop-cons ad i 0, drop-cons ts i 0)

pub cells_at : (ad ts : List ℕ) (i : ℕ) → length ad ≡ length ts → i < length ad →
    cells (drop i ad) (drop i ts) ≡ cell_at ad ts i ∷ cells (drop (i + 1) ad) (drop (i + 1) ts)
cells_at ad ts i e l = cells-in-both ad ts i l (omega arith)

-- and there is none past the shorter row
pub cells-past : (ad ts : List ℕ) (i : ℕ) → min (length ad) (length ts) ≤ i → cells (drop i ad) (drop i ts) ≡ []
cells-past [] ts i l = rw drop-nil
cells-past (a ∷ ad) [] zero l = refl
cells-past (a ∷ ad) [] (suc i) l = rw drop-nil at (cells-past ad [] i (omega arith))
cells-past (a ∷ ad) (t ∷ ts) zero l = absurd (omega arith)
cells-past (a ∷ ad) (t ∷ ts) (suc i) l = cells-past ad ts i (omega arith)

pub length-cells : (ad ts : List ℕ) → length ad ≡ length ts → length (cells ad ts) ≡ length ad
length-cells [] ts e = refl
length-cells (a ∷ ad) [] e = absurd (omega arith)
length-cells (a ∷ ad) (t ∷ ts) e = ap suc (length-cells ad ts (omega arith))

pub get_or-cells : (ad ts : List ℕ) (s : ℕ) → length ad ≡ length ts → s < length ad → get_or (cells ad ts) s free ≡ cell_at ad ts s
get_or-cells [] ts s e l = absurd (omega arith)
get_or-cells (a ∷ ad) [] s e l = absurd (omega arith)
get_or-cells (a ∷ ad) (t ∷ ts) zero e l = refl
get_or-cells (a ∷ ad) (t ∷ ts) (suc s) e l = get_or-cells ad ts s (omega arith) (omega arith)
