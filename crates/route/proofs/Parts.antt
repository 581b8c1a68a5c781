-- A part of a row from a place up to its end; numbers stored one behind the other.
use Prim.Native.Nat.{ℕ, suc, ◌+◌, ◌-◌}
use mathlib.Core.Path.{◌≡◌}
use mathlib.Core.List.{List, [], ◌∷◌, ◌++◌, append-nil}
use native.Mathlib.Nat.{add-zero}
use native.Mathlib.Omega.{arith}
use borrow.Rule.Slice.PartMut.{mid_of, put_mid}
use lib.ListN.{length, set, take, drop, length-drop, drop_of_length-le}
use lib.Seq.{sets, take_all}

-- it is all from its start on; and the row with another such part put back
pub part-tail : (a : ℕ) (xs : List ℕ) → mid_of a (length xs - a) xs ≡ drop a xs
part-tail a xs = take_all (length xs - a) (drop a xs) (simp length-drop (omega arith))

pub put-tail : (a : ℕ) (xs ys : List ℕ) → put_mid a (length xs - a) xs ys ≡ take a xs ++ ys
put-tail a xs ys =
    let e = drop_of_length-le (drop a xs) {i = length xs - a} (simp length-drop (omega arith)) in
    rw (e, append-nil ys)

-- the numbers are stored in two goes
pub sets-append : (row : List ℕ) (at : ℕ) (xs ys : List ℕ) → sets row at (xs ++ ys) ≡ sets (sets row at xs) (at + length xs) ys
sets-append row at [] ys = rw (add-zero at)
sets-append row at (x ∷ xs) ys =
    let e : at + suc (length xs) ≡ suc at + length xs = omega arith in
    rw e (sets-append (set row at x) (suc at) xs ys)
