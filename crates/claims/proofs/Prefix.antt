-- How much the image holds: as many free slots as the entries leave, and of a length the slots of its row; so a prefix stands in the image
-- as often as its address in that row, at most once.
use Prim.Native.Nat.{ℕ, suc, zero, ◌+◌, ◌-◌, ◌≤◌}
use mathlib.Core.Path.{◌≡◌, refl, sym, ◌∙◌}
use mathlib.Core.Bool.{Bool, true, false}
use mathlib.Core.List.{List}
use native.Mathlib.Omega.{arith}
use lib.ListN.{length, replicate}
use Rattle.tcam.specs.Slots.{Cell, free, is_free}
use Rattle.tcam.specs.Plans.{of_length, of_prefix}
use Rattle.tcam.specs.Book.{Book, rows, book_image, entries}
use Rattle.claims.proofs.Times.{All, all_map, all-copies, times, times-append, times-same, none}
use Rattle.claims.proofs.Join.{times-join}
use Rattle.claims.proofs.Row.{IsEntry, at}
use Rattle.claims.proofs.Rows.{rows_all, rows-every}
use Rattle.claims.proofs.Chain.{entry_of, entry-not}
use Rattle.claims.proofs.Lies.{upper_lengths, lower_lengths, Other, lies}
use Rattle.claims.proofs.Image.{BookOk, inner_lengths, far_lengths, image-about}

pub used-rows : (W M : ℕ) (b : Book) → BookOk W M b → (ls : List ℕ) → times is_free (rows b ls) ≡ 0
used-rows W M b ok ls = none is_free (rows b ls) (rows-every b _ (λ m. all_map _ _ (λ c e. e.used) (b m) (ok.row m).entries) ls)

pub free-times : (p : ℕ) → times is_free (replicate p free) ≡ p
free-times zero = refl
free-times (suc p) = omega (arith, free-times p)

-- the book counts as many entries as leave the free slots
pub free-slots : (W M : ℕ) (b : Book) → BookOk W M b → times is_free (book_image W M b) + length (entries W b) ≡ M
free-slots W M b ok =
    simp times-append
    (omega (arith, used-rows W M b ok (upper_lengths W), free-times (M - length (entries W b)), used-rows W M b ok (lower_lengths W)))

-- a test that only slots of length n pass
module _ (W M : ℕ) (b : Book) (ok : BookOk W M b) (n : ℕ) (i : n ≤ W) (t : Cell → Bool) (h : (c : Cell) → of_length n c ≡ false → t c ≡ false) where
  other-rows : (x : Bool) (ls : List ℕ) → All (Other W n x) ls → times t (rows b ls) ≡ 0
  other-rows x ls o = none t (rows b ls) (rows_all b _ ls (all_map (Other W n x) _
      (λ m q. all_map _ _ (λ c e. h c (entry-not n e (λ z. q.0 (sym z)))) (b m) (ok.row m).entries) ls o))

  pub image-times : times t (book_image W M b) ≡ times t (b n)
  image-times =
      let L = lies W n i in
      let p = M - length (entries W b) in
      rw (image-about L M b p (omega arith)) (simp times-join (omega (
        arith,
        other-rows false L.outer L.beyond,
        other-rows true (inner_lengths L) L.inside,
        other-rows false (far_lengths L) L.across,
        none t (replicate p free) (all-copies _ p free (h free refl)),
      )))

pub prefix-times : (W M : ℕ) (b : Book) → BookOk W M b → (a n : ℕ) → n ≤ W → times (of_prefix a n) (book_image W M b) ≡ times (at a) (b n)
prefix-times W M b ok a n i = image-times W M b ok n i (of_prefix a n) (λ c e. rw e)
    ∙ times-same (of_prefix a n) (at a) (b n) (all_map (IsEntry W n) (λ c. of_prefix a n c ≡ at a c) (λ c e. rw (entry_of e)) (b n) (ok.row n).entries)
