-- The rows of some lengths, and of the k lengths from l on, the greatest first.
use Prim.Native.Nat.{ℕ, suc, zero, ◌+◌, ◌≤◌, ◌<◌}
use mathlib.Core.Path.{◌≡◌, refl, sym, ap, ◌∙◌}
use mathlib.Core.Bool.{Bool, true, false}
use mathlib.Core.List.{List, [], ◌∷◌, ◌++◌, append_assoc, append-nil}
use native.Mathlib.Nat.{zero-add, suc-add, add-zero}
use native.Mathlib.Numerals.{add-one}
use native.Mathlib.Omega.{arith}
use lib.Dec.{ltb}
use lib.ListN.{length, length-append}
use Rattle.tcam.specs.Slots.{Cell}
use Rattle.tcam.specs.Plans.{falling}
use Rattle.tcam.specs.Book.{Book, rows, empty_book}
use Rattle.tcam.specs.Loops.{lengths_from}
use Rattle.claims.proofs.Times.{All, all_append, times, times-append}
use Rattle.claims.proofs.Join.{join}

pub falling-split : (j k l : ℕ) → falling (j + k) l ≡ falling j (l + k) ++ falling k l
falling-split zero k l = rw zero-add
falling-split (suc j) k l =
    let e : l + (j + k) ≡ l + k + j = omega arith in
    rw (suc-add, e) (ap (λ (ls : List ℕ). (l + k + j) ∷ ls) (falling-split j k l))

-- the least length apart
falling-inner : (k l : ℕ) → falling (suc k) l ≡ falling k (l + 1) ++ (l ∷ [])
falling-inner k l = ap (λ (n : ℕ). falling n l) (sym (add-one k)) ∙ falling-split k 1 l ∙ rw add-zero

-- what holds of each of these lengths
pub lengths-all : (up : Bool) (P : ℕ → Type 0) (k l : ℕ) → ((m : ℕ) → l ≤ m → m < l + k → P m) → All P (lengths_from up k l)
lengths-all true P zero l h = tt
lengths-all true P (suc k) l h = (h l (omega arith) (omega arith), lengths-all true P k (l + 1) (λ m i j. h m (omega arith) (omega arith)))
lengths-all false P zero l h = tt
lengths-all false P (suc k) l h = (h (l + k) (omega arith) (omega arith), lengths-all false P k l (λ m i j. h m i (omega arith)))

pub lengths-times : (t : ℕ → Bool) (up : Bool) (k l : ℕ) → times t (lengths_from up k l) ≡ times t (falling k l)
lengths-times t true zero l = refl
lengths-times t true (suc k) l = omega (arith, lengths-times t true k (l + 1), ap (times t) (falling-inner k l) ∙ times-append t (falling k (l + 1)) (l ∷ []))
lengths-times t false k l = refl

pub no_rows : (ls : List ℕ) → rows empty_book ls ≡ []
no_rows [] = refl
no_rows (l ∷ ls) = no_rows ls

-- how many of the rows have entries
abbrev pub filled_rows : Book → List ℕ → ℕ
filled_rows b ls = times (λ l. ltb 0 (length (b l))) ls

-- rows that the open slot is to walk over in the direction up, the first of them next to it, and a beyond them
abbrev pub stack : Bool → List Cell → Book → List ℕ → List Cell
stack up a b [] = a
stack up a b (l ∷ ls) = join up (stack up a b ls) (b l)

module _ (b : Book) where
  rows_append : (ks ls : List ℕ) → rows b (ks ++ ls) ≡ rows b ks ++ rows b ls
  rows_append [] ls = refl
  rows_append (k ∷ ks) ls = ap (λ (r : List Cell). b k ++ r) (rows_append ks ls) ∙ sym (append_assoc (b k) (rows b ks) (rows b ls))

  pub rows_join : (d : Bool) (ks ls : List ℕ) → rows b (join d ks ls) ≡ join d (rows b ks) (rows b ls)
  rows_join true ks ls = rows_append ks ls
  rows_join false ks ls = rows_append ls ks

  -- lengths in turn, either way, have the rows of the lengths from l on
  pub stack-lengths : (up : Bool) (a : List Cell) (k l : ℕ) → stack up a b (lengths_from up k l) ≡ join up a (rows b (falling k l))
  stack-lengths true a zero l = sym (append-nil a)
  stack-lengths true a (suc k) l = rw (stack-lengths true a k (l + 1), rows-inner) (append_assoc a (rows b (falling k (l + 1))) (b l))
    where
      rows-inner : rows b (falling (suc k) l) ≡ rows b (falling k (l + 1)) ++ b l
      rows-inner = ap (rows b) (falling-inner k l) ∙ rw (rows_append, append-nil)
  stack-lengths false a zero l = refl
  stack-lengths false a (suc k) l = rw (stack-lengths false a k l) (sym (append_assoc (b (l + k)) (rows b (falling k l)) a))

  pub rows_all : (P : Cell → Type 0) (ls : List ℕ) → All (λ m. All P (b m)) ls → All P (rows b ls)
  rows_all P [] h = tt
  rows_all P (l ∷ ls) h = all_append P (b l) (rows b ls) h.0 (rows_all P ls h.1)

  pub rows-every : (P : Cell → Type 0) → ((m : ℕ) → All P (b m)) → (ls : List ℕ) → All P (rows b ls)
  rows-every P h [] = tt
  rows-every P h (l ∷ ls) = all_append P (b l) (rows b ls) (h l) (rows-every P h ls)

module _ (b b' : Book) where
  pub rows_agree : (ls : List ℕ) → All (λ m. b m ≡ b' m) ls → rows b ls ≡ rows b' ls
  rows_agree [] h = refl
  rows_agree (l ∷ ls) h = cc (h.0, rows_agree ls h.1)

  pub rows-length : (ls : List ℕ) → ((m : ℕ) → length (b m) ≡ length (b' m)) → length (rows b ls) ≡ length (rows b' ls)
  rows-length [] h = refl
  rows-length (l ∷ ls) h = simp length-append (omega (arith, h l, rows-length ls h))
