-- The first and the last slot with a property, by what stands around it.
use Prim.Native.Nat.{ℕ, ◌+◌}
use mathlib.Core.Path.{◌≡◌, refl, sym, ap, ◌∙◌}
use mathlib.Core.Bool.{Bool, true, false, cond}
use mathlib.Core.List.{List, [], ◌∷◌, ◌++◌}
use mathlib.Core.Option.{none, some}
use native.Mathlib.Nat.{add-zero, zero-add}
use native.Mathlib.Omega.{arith}
use lib.Dec.{ltb}
use lib.ListN.{length}
use borrow.Author.Tests.{lt-ltb}
use Rattle.tcam.specs.Slots.{Cell}
use Rattle.tcam.specs.Plans.{first_slot, last_slot, is_some}
use Rattle.tcam.specs.Book.{count_if}
use Rattle.tcam.specs.Loops.{edge}
use Rattle.claims.proofs.Times.{times, none_here}
use Rattle.claims.proofs.Join.{around, around-is, place}

module _ (t : Cell → Bool) where
  first-none : (i : ℕ) (cs : List Cell) → times t cs ≡ 0 → first_slot t i cs ≡ none
  first-none i [] h = refl
  first-none i (c ∷ cs) h = rw (none_here (t c) (times t cs) h) (first-none (i + 1) cs (omega arith))

  first_some : (i : ℕ) (xs : List Cell) (c : Cell) (ys : List Cell) → times t xs ≡ 0 → t c ≡ true → first_slot t i (xs ++ (c ∷ ys)) ≡ some (i + length xs)
  first_some i [] c ys h e = rw (e, add-zero)
  first_some i (x ∷ xs) c ys h e = rw (none_here (t x) (times t xs) h) (first_some (i + 1) xs c ys (omega arith) e ∙ ap some (omega arith))

  last_none : (i : ℕ) (cs : List Cell) → times t cs ≡ 0 → last_slot t i cs ≡ none
  last_none i [] h = refl
  last_none i (c ∷ cs) h = rw (last_none (i + 1) cs (omega arith), none_here (t c) (times t cs) h)

  last_some : (i : ℕ) (xs : List Cell) (c : Cell) (ys : List Cell) → times t ys ≡ 0 → t c ≡ true → last_slot t i (xs ++ (c ∷ ys)) ≡ some (i + length xs)
  last_some i [] c ys h e = rw (last_none (i + 1) ys h, e, add-zero)
  last_some i (x ∷ xs) c ys h e = rw (last_some (i + 1) xs c ys h e) (ap some (omega arith))

  pub edge_none : (up : Bool) (cs : List Cell) → times t cs ≡ 0 → edge up t cs ≡ none
  edge_none true cs h = first-none 0 cs h
  edge_none false cs h = last_none 0 cs h

  pub edge-some : (up : Bool) (a : List Cell) (c : Cell) (b : List Cell) → times t a ≡ 0 → t c ≡ true → edge up t (around up a c b) ≡ some (place up a b)
  edge-some true a c b h e = first_some 0 a c b h e ∙ rw zero-add
  edge-some false a c b h e = rw (around-is false a c b) (last_some 0 b c a h e ∙ rw zero-add)

  -- one is found where there is one
  pub found_some : (i : ℕ) (cs : List Cell) → is_some (first_slot t i cs) ≡ ltb 0 (times t cs)
  found_some i [] = refl
  found_some i (c ∷ cs) = go (t c) (found_some (i + 1) cs)
    where
      go : (u : Bool) → is_some (first_slot t (i + 1) cs) ≡ ltb 0 (times t cs)
          → is_some (cond u (some i) (first_slot t (i + 1) cs)) ≡ ltb 0 (count_if u + times t cs)
      go true h = sym (lt-ltb 0 (1 + times t cs) (omega arith))
      go false h = rw zero-add h
