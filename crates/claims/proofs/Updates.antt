-- The updates on either side of the pool, and where a prefix stands.
use Prim.Native.Nat.{ℕ, ◌+◌, ◌≤◌}
use mathlib.Core.Path.{◌≡◌, refl, sym, ap, ◌∙◌}
use mathlib.Core.Bool.{Bool, true, false, not}
use mathlib.Core.List.{List, ◌∷◌, ◌++◌}
use mathlib.Core.Option.{none, some}
use native.Mathlib.Omega.{arith}
use lib.Dec.{eqb, leb, ltb}
use lib.ListN.{length, get_or}
use lib.Seq.{get_or-append_seam}
use borrow.Author.Tests.{eq-eqb, le-ltb, lt-ltb, leb-true, leb-false}
use Rattle.tcam.specs.Slots.{Cell, free, is_free}
use Rattle.tcam.specs.Plans.{of_length, of_prefix, first_slot, is_some}
use Rattle.tcam.specs.Book.{Book, book_image, entries, count_if}
use Rattle.route.proofs.Tests.{both, clash}
use Rattle.claims.proofs.Times.{times, times-append}
use Rattle.claims.proofs.Find.{edge_none, edge-some, found_some}
use Rattle.claims.proofs.Row.{at}
use Rattle.claims.proofs.Found.{Found, found-entry}
use Rattle.claims.proofs.Chain.{entry_of}
use Rattle.claims.proofs.Image.{BookOk}
use Rattle.claims.proofs.Prefix.{free-slots, prefix-times}
use Rattle.claims.proofs.Next.{Cleared}
pub use Rattle.claims.proofs.Side.{update-set, update-remove, update-replace}

module _ (W M : ℕ) (b : Book) (ok : BookOk W M b) (n : ℕ) (i : n ≤ W) where
  module _ (a : ℕ) (f : Found a (b n)) where
    pub found_prefix : of_prefix a n f.entry ≡ true
    found_prefix = both (of_length n f.entry) (eqb f.entry.address a) (entry_of (found-entry f true (ok.row n))) (eq-eqb f.entry.address a f.has)

  -- the slot of an entry with the prefix is the one where it stands
  module _ (a : ℕ) (front : List Cell) (gap : Cell) (back : List Cell) (before : book_image W M b ≡ front ++ (gap ∷ back)) where
    counted : times (at a) (b n) ≡ times (of_prefix a n) front + (count_if (of_prefix a n gap) + times (of_prefix a n) back)
    counted = sym (prefix-times W M b ok a n i) ∙ ap (times (of_prefix a n)) before ∙ times-append (of_prefix a n) front (gap ∷ back)

    pub cleared-present : of_prefix a n gap ≡ true → Cleared a n front gap back
    cleared-present p =
        let c = rw p at counted in
        record { before = omega (arith, (ok.row n).once a); behind = omega (arith, (ok.row n).once a); gone = λ u. p }

    pub cleared-absent : times (at a) (b n) ≡ 0 → is_free gap ≡ true → Cleared a n front gap back
    cleared-absent z f = record { before = omega (arith, counted); behind = omega (arith, counted); gone = λ u. clash f u }

    pub stands_at : of_prefix a n gap ≡ true → first_slot (of_prefix a n) 0 (book_image W M b) ≡ some (length front)
    stands_at p = rw before (edge-some (of_prefix a n) true front gap back (cleared-present p).before p)

    pub stands-there : get_or (book_image W M b) (length front) free ≡ gap
    stands-there = rw before (get_or-append_seam front gap back free)

  pub stands-nowhere : (a : ℕ) → times (at a) (b n) ≡ 0 → first_slot (of_prefix a n) 0 (book_image W M b) ≡ none
  stands-nowhere a z = edge_none (of_prefix a n) true (book_image W M b) (prefix-times W M b ok a n i ∙ z)

-- the book counts M entries exactly where no slot is free
pub full_is : (W M : ℕ) (b : Book) → BookOk W M b → is_some (first_slot is_free 0 (book_image W M b)) ≡ not (leb M (length (entries W b)))
full_is W M b ok = found_some is_free 0 (book_image W M b) ∙ go (leb M (length (entries W b))) refl
  where
    go : (t : Bool) → leb M (length (entries W b)) ≡ t → ltb 0 (times is_free (book_image W M b)) ≡ not t
    go true e = le-ltb 0 (times is_free (book_image W M b)) (omega (arith, free-slots W M b ok, leb-true M (length (entries W b)) e))
    go false e = lt-ltb 0 (times is_free (book_image W M b)) (omega (arith, free-slots W M b ok, leb-false M (length (entries W b)) e))
