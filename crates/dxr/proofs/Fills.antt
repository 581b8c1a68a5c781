-- Rows of numbers written in parts, and parts filled with one number.
use Prim.Native.Nat.{ℕ, ◌+◌, ◌≤◌}
use mathlib.Core.Path.{◌≡◌, sym}
use mathlib.Core.List.{List, ◌++◌, append_assoc}
use native.Mathlib.Omega.{arith}
use native.Mathlib.Nat.{zero-add}
use borrow.Rule.Slice.PartMut.{put_mid}
use lib.ListN.{length, take, drop, replicate, length-replicate, length-drop}
use lib.Seq.{drop-drop, sets, sets-eq, length-take-le}
use Rattle.route.specs.Rows.{overwritten}
use Rattle.route.proofs.Parts.{sets-append}

-- a part put back is a part written
pub put-sets : (row part : List ℕ) (at n : ℕ) → length part ≡ n → at + n ≤ length row → put_mid at n row part ≡ sets row at part
put-sets row part at n e l =
    rw (drop-drop n at row, ← append_assoc (take at row) part (drop (at + n) row)) (sym (rw e at (sets-eq part row at (rw e l))))

-- in two goes
pub sets_more : (row xs ys : List ℕ) {at : ℕ} → at ≡ length xs → sets (sets row 0 xs) at ys ≡ sets row 0 (xs ++ ys)
sets_more row xs ys e = rw e (sym (rw zero-add at (sets-append row 0 xs ys)))

-- from the front
pub sets-front : (xs row : List ℕ) → length xs ≤ length row → sets row 0 xs ≡ overwritten xs row
sets-front xs row l = rw zero-add at (sets-eq xs row 0 (omega arith))

-- a part filled with one number
pub filled-part : (row part : List ℕ) (at n v : ℕ) → at + n ≤ length row → part ≡ replicate (length (take n (drop at row))) v →
    put_mid at n row part ≡ sets row at (replicate n v)
filled-part row part at n v l is =
    let size : length (take n (drop at row)) ≡ n = length-take-le n (drop at row) (simp length-drop (omega arith)) in
    rw (is, size) (put-sets row (replicate n v) at n (length-replicate n v) l)
