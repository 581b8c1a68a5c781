-- What a plan comes to: a walk from a book's image to the next book's.
use Prim.Native.Nat.{ℕ}
use mathlib.Core.Path.{◌≡◌, refl}
use mathlib.Core.Bool.{Bool, true, false, not}
use mathlib.Core.List.{List, [], ◌∷◌, ◌++◌}
use lib.ListN.{length}
use borrow.Author.Tests.{eq-eqb, ne_eqb}
use Rattle.tcam.specs.Slots.{Cell}
use Rattle.tcam.specs.Plans.{Write}
use Rattle.tcam.specs.Book.{Book, book_image, is_upper_length, after_set, after_remove}
use Rattle.claims.proofs.Join.{join}
use Rattle.claims.proofs.Turn.{turn}
use Rattle.claims.proofs.Found.{gap_filled}
use Rattle.claims.proofs.Hop.{Walks}
use Rattle.claims.proofs.Image.{BookOk, Turned}

-- the plan walks the slot of `gap` from the image of b to the next book's, and writes `last` in the end; it may depend on that slot
pub record Update (W M : ℕ) (b : Book) (gap last : Cell) (plan : ℕ → List Write) (next : Book) (w : ℕ) : Type 0 where
  pub front : List Cell
  pub back : List Cell
  pub before : book_image W M b ≡ front ++ (gap ∷ back)
  pub walks : Walks W last front gap back (plan (length front)) (book_image W M next) w
  pub ok : BookOk W M next

-- the next book after a set and after a removal on either side: its row of n, and the others
module _ (W : ℕ) (b : Book) (n : ℕ) where
  pub after_set-own : (s : Bool) → is_upper_length W n ≡ s → (c : Cell) → after_set W b n c n ≡ join s (b n) (c ∷ [])
  after_set-own true e c = rw (eq-eqb n n refl, e)
  after_set-own false e c = rw (eq-eqb n n refl, e)

  pub after_set-others : (s : Bool) → is_upper_length W n ≡ s → (c : Cell) → Turned W b n (turn s) (after_set W b n c)
  after_set-others true e c m h = rw (ne_eqb m n h, e)
  after_set-others false e c m h = rw (ne_eqb m n h, e)

  pub after_remove-own : (s : Bool) → is_upper_length W n ≡ s → (a : ℕ) → after_remove W b n a n ≡ gap_filled (not s) a (b n)
  after_remove-own true e a = rw (eq-eqb n n refl, e)
  after_remove-own false e a = rw (eq-eqb n n refl, e)

  pub after_remove-others : (s : Bool) → is_upper_length W n ≡ s → (a : ℕ) → Turned W b n (turn (not s)) (after_remove W b n a)
  after_remove-others true e a m h = rw (ne_eqb m n h, e)
  after_remove-others false e a m h = rw (ne_eqb m n h, e)
